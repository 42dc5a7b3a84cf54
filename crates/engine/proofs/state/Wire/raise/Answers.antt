use Rattle.std.proofs.Common.{◌≡◌, ◌-◌, ◌^◌, ◌&&◌, Bool, true, false, eqb, get_or, refl, ap, ◌∙◌, arith, ne_eqb}
use Rattle.engine.proofs.Filling.{added, not_added}
use Rattle.engine.proofs.state.Wire.raise.Goals.{else-raised-via-then-raised+else-self-lt-LEVELS, else-raised-via-else-raised}
use Rattle.engine.proofs.state.Wire.raise.Goals as goal

and_false : (b : Bool) → (b && false) ≡ false
and_false true = refl
and_false false = refl

pub returns-then-self-lt-LEVELS : goal.returns-then-self-lt-LEVELS
returns-then-self-lt-LEVELS c = λ level lt. rw (c.if-raised.true, c.mask.ensures) (added c.args.words.now c.args.self.level _ level (omega arith))

pub returns-else-raised : goal.returns-else-raised
returns-else-raised c = λ level lt. not_added (get_or c.args.words.now level 0) (2 ^ (15 - c.args.self.bit)) (eqb c.args.self.level level) c.args.raised (elim c.else-raised.branch [
  | else-raised-via-then-raised+else-self-lt-LEVELS w ↦ ap (λ (b : Bool). b && c.args.raised) (ne_eqb c.args.self.level level (omega arith))
  | else-raised-via-else-raised w ↦ ap (λ (b : Bool). eqb c.args.self.level level && b) w.if-raised.false ∙ and_false (eqb c.args.self.level level)
])
