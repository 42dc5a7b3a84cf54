use Rattle.std.proofs.Common.{length, arith}
use Rattle.engine.specs.Code.{view, makes}
use Rattle.engine.proofs.Going.{double_goes}
use Rattle.engine.proofs.operands.U32Fetched.fetch.Goals as goal

pub returns-clause-goes : goal.returns-clause-goes
returns-clause-goes g c =
    let v = view g.A.Device g.B.Device g.C.Device g.D.Device in
    let u = c.args.core.now in
    let x = c.effective-address in
    let y = c.read-high in
    let z = c.read-low in
    double_goes (makes g.A.Device g.B.Device g.C.Device g.D.Device) (length u) c.args.fields.now c.args.engine.now.processor.works.registers
    x.new.self.processor.works.registers
    (v c.args.engine.now u) (v x.new.self x.new.core) (v y.new.self y.new.core) (v z.new.self z.new.core)
    x.result c.odd.result y.result z.result _
    x.ensures.goes y.ensures.goes c.odd.ensures z.ensures.goes (omega arith)
