use Rattle.std.proofs.Common.{ℕ, ◌<◌, List, [], length, replicate, sym, ap, ◌∙◌, subst}
use lib.Pointwise.{bytes_decides}
use Rattle.levels.specs.Interrupts.{due}
use Rattle.engine.specs.Levels.{due_now}
use Rattle.engine.proofs.Ranging.{due_range, none_due}
use Rattle.engine.proofs.engine.Engine.due.Goals as goal

pub returns-then-eq-clause-is : goal.returns-then-eq-clause-is
unfolding due_now
returns-then-eq-clause-is g c =
    let w = c.args.self.now.processor.works in
    let zeros = (bytes_decides c.statuses-words.result (replicate 24 0)).0 (sym c.eq.ensures ∙ c.if-eq.true) in
    λ u. sym (ap (λ (ws : List ℕ). due w.flags w.masks ws w.service) (sym (c.statuses-words.ensures u)) ∙ none_due w.flags w.masks c.statuses-words.result w.service 24 (sym c.word.ensures ∙ c.if-word-eq0.true) zeros)

pub returns-clause-range : goal.returns-clause-range
returns-clause-range g c =
    let w = c.args.self.now.processor.works in
    λ l e. subst (λ (n : ℕ). l < n) (ap length (c.statuses-words.ensures [])) (due_range w.flags w.masks c.statuses-words.result w.service l (sym c.due.ensures ∙ e))

pub returns-clause-is : goal.returns-clause-is
unfolding due_now
returns-clause-is g c =
    let w = c.args.self.now.processor.works in
    λ u. c.due.ensures ∙ ap (λ (ws : List ℕ). due w.flags w.masks ws w.service) (c.statuses-words.ensures u)
