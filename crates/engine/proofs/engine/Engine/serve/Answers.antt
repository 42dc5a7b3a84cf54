use Rattle.std.proofs.Common.{sym, refl, ap, ◌∙◌}
use Rattle.engine.specs.declared.place.ChannelNumber.{ChannelNumber}
use Rattle.engine.specs.Cycle.{transferring}
use Rattle.engine.specs.Code.{view, makes}
use Rattle.engine.proofs.engine.Engine.serve.Goals as goal

pub returns-in-Channel1-clause-after : goal.returns-in-Channel1-clause-after
returns-in-Channel1-clause-after g c =
    let m = makes g.A.Device g.B.Device g.C.Device g.D.Device in
    let s = view g.A.Device g.B.Device g.C.Device g.D.Device c.args.self.now c.args.core.now in
    sym (c.transfer.ensures.after m s refl) ∙ ap (λ (n : ChannelNumber). (transferring m n s).machine) (sym c.in-Channel1.is)

pub returns-in-Channel2-clause-after : goal.returns-in-Channel2-clause-after
returns-in-Channel2-clause-after g c =
    let m = makes g.A.Device g.B.Device g.C.Device g.D.Device in
    let s = view g.A.Device g.B.Device g.C.Device g.D.Device c.args.self.now c.args.core.now in
    sym (c.transfer-in-Channel2.ensures.after m s refl) ∙ ap (λ (n : ChannelNumber). (transferring m n s).machine) (sym c.in-Channel2.is)

pub returns-in-Channel3-clause-after : goal.returns-in-Channel3-clause-after
returns-in-Channel3-clause-after g c =
    let m = makes g.A.Device g.B.Device g.C.Device g.D.Device in
    let s = view g.A.Device g.B.Device g.C.Device g.D.Device c.args.self.now c.args.core.now in
    sym (c.transfer-in-Channel3.ensures.after m s refl) ∙ ap (λ (n : ChannelNumber). (transferring m n s).machine) (sym c.in-Channel3.is)
