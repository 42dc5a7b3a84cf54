use Rattle.std.proofs.Common.{length}
use Rattle.engine.specs.Code.{view, makes}
use Rattle.engine.proofs.Going.{protect_goes}
use Rattle.engine.proofs.engine.Engine.protect.Goals as goal

pub returns-then-self-clause-goes : goal.returns-then-self-clause-goes
returns-then-self-clause-goes g c =
    let v = view g.A.Device g.B.Device g.C.Device g.D.Device in
    protect_goes (makes g.A.Device g.B.Device g.C.Device g.D.Device) (length c.args.core.now) c.args.on c.args.fields.now c.args.self.now.processor.works.registers
    c.effective-address.new.self.processor.works.registers c.effective-address.result c.read-old.result
    (v c.args.self.now c.args.core.now)
    (v c.effective-address.new.self c.effective-address.new.core)
    (v c.read-old.new.self c.read-old.new.core)
    (v c.mark.new.self c.mark.new.core)
    c.effective-address.ensures.goes c.if-self.true c.read-old.ensures.goes c.mark.ensures.goes
