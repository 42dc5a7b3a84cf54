use Rattle.std.proofs.Common.{ℕ, Option, [], ◌∷◌, get_or, sym, ap, ◌∙◌}
use Rattle.engine.specs.declared.place.ChannelNumber.TheVariants.{Channel1, Channel2, Channel3}
use Rattle.engine.specs.Code.{view, makes, left_turns}
use Rattle.engine.proofs.Cycling.{turn_none, turn_some, listed}
use Rattle.engine.proofs.engine.Engine.turn.Goals as goal

pub returns-in_err-at-clause-after : goal.returns-in_err-at-clause-after
returns-in_err-at-clause-after g c =
    let m = makes g.A.Device g.B.Device g.C.Device g.D.Device in
    let u = c.args.core.now in
    let s = view g.A.Device g.B.Device g.C.Device g.D.Device c.args.self.now u in
    λ n. turn_none m c.args.behind n s (sym (c.chosen.ensures.is u) ∙ c.in_err-at.was) ∙ sym (ap (λ (o : Option ℕ). left_turns n m o s) c.from_residual.ensures)

pub returns-clause-after : goal.returns-clause-after
returns-clause-after g c =
    let m = makes g.A.Device g.B.Device g.C.Device g.D.Device in
    let v = view g.A.Device g.B.Device g.C.Device g.D.Device in
    let u = c.args.core.now in
    let i = c.in_ok-at.at in
    λ n. turn_some m c.args.behind i n (v c.args.self.now u) (v c.steal.new.self c.steal.new.core) (get_or (Channel1 ∷ (Channel2 ∷ (Channel3 ∷ []))) i Channel1)
    (sym (c.chosen.ensures.is u) ∙ c.in_ok-at.was) (listed i (c.chosen.ensures.few i c.in_ok-at.was)) c.steal.ensures.after
