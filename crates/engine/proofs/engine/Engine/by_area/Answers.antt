use Rattle.std.proofs.Common.{length, Some, None, sym, ◌∙◌, ne_eqb}
use Rattle.engine.specs.Code.{view, makes}
use Rattle.engine.proofs.Areas.{area_device}
use Rattle.engine.proofs.engine.Engine.by_area.Goals as goal

pub returns-in-None-clause-goes : goal.returns-in-None-clause-goes
returns-in-None-clause-goes g c =
    let m = makes g.A.Device g.B.Device g.C.Device g.D.Device in
    let u = c.args.core.now in
    let s = view g.A.Device g.B.Device g.C.Device g.D.Device c.args.self.now u in
    let k = c.args.pair.control in
    area_device m (length u) c.args.pair.at c.args.pair.address k s None (ne_eqb k.function 3 c.in_default.is-0.1) (ne_eqb k.area 0 c.in_default.is-1.1) (sym c.in-None.is ∙ c.answering.ensures u)
    ∙ c.nobody.ensures.goes u

pub returns-in-Some-clause-goes : goal.returns-in-Some-clause-goes
returns-in-Some-clause-goes g c =
    let m = makes g.A.Device g.B.Device g.C.Device g.D.Device in
    let u = c.args.core.now in
    let s = view g.A.Device g.B.Device g.C.Device g.D.Device c.args.self.now u in
    let k = c.args.pair.control in
    area_device m (length u) c.args.pair.at c.args.pair.address k s (Some c.in-Some.position) (ne_eqb k.function 3 c.in_default.is-0.1) (ne_eqb k.area 0 c.in_default.is-1.1) (sym c.in-Some.is ∙ c.answering.ensures u)
    ∙ c.with_device.ensures.goes
