use Rattle.std.proofs.Common.{length}
use Rattle.engine.specs.Code.{view, makes}
use Rattle.engine.proofs.Going.{status_goes}
use Rattle.engine.proofs.engine.Engine.keep_status.Goals as goal

pub returns-clause-goes : goal.returns-clause-goes
returns-clause-goes g c =
    let v = view g.A.Device g.B.Device g.C.Device g.D.Device in
    status_goes (makes g.A.Device g.B.Device g.C.Device g.D.Device) (length c.args.core.now) c.args.fields.now c.args.self.now.processor.works.registers c.store_status-status.new.self
    c.effective-address.result c.read-old.result c.store_status-status.result
    (v c.args.self.now c.args.core.now)
    (v c.effective-address.new.self c.effective-address.new.core)
    (v c.read-old.new.self c.read-old.new.core)
    (v c.store.new.self c.store.new.core)
    c.effective-address.ensures.goes c.read-old.ensures.goes c.read-old.ensures.keeps.registers c.store_status-status.ensures.answer
    c.store.ensures.goes c.store.ensures.keeps.registers c.store_status-status.ensures.after
