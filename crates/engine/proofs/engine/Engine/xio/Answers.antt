use Rattle.std.proofs.Common.{length, sym, ap, ◌∙◌}
use Rattle.device.specs.declared.control.ControlWord.{ControlWord}
use Rattle.engine.specs.Plan.{perform}
use Rattle.engine.specs.Xio.{by_area, xio}
use Rattle.engine.specs.Code.{view, makes}
use Rattle.engine.proofs.engine.Engine.xio.Goals as goal

pub returns-clause-goes : goal.returns-clause-goes
unfolding xio
returns-clause-goes g c =
    let m = makes g.A.Device g.B.Device g.C.Device g.D.Device in
    let u = c.args.core.now in
    let s = view g.A.Device g.B.Device g.C.Device g.D.Device c.args.self.now u in
    ap (λ (k : ControlWord). (perform m (by_area m (length u) c.args.at c.args.address k) s).machine) (sym c.from.ensures) ∙ c.by_area.ensures.goes
