use Rattle.std.proofs.Common.{length}
use Rattle.engine.specs.Code.{view, makes}
use Rattle.engine.proofs.Going.{formed_long}
use Rattle.engine.proofs.engine.Engine.effective.Goals as goal

pub returns-clause-goes : goal.returns-clause-goes
returns-clause-goes g c =
    let v = view g.A.Device g.B.Device g.C.Device g.D.Device in
    let u = c.args.core.now in
    let r = c.args.self.now.processor.works.registers in
    let x = c.second-address.new.self in
    let y = c.indirect.new.self in
    formed_long (makes g.A.Device g.B.Device g.C.Device g.D.Device) (length u) c.args.tag c.args.fields.now r
    x.processor.works.registers y.processor.works.registers
    (v c.args.self.now u)
    (v x c.second-address.new.core)
    (v y c.indirect.new.core)
    c.second-address.result c.indexed-direct.result c.indirect.result
    c.if-not-fields.false c.second-address.ensures.goes c.indexed-direct.ensures c.indirect.ensures.goes c.indirect.ensures.same
