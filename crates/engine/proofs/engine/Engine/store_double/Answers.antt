use Rattle.std.proofs.Common.{length}
use Rattle.engine.specs.Code.{view, makes}
use Rattle.engine.proofs.Going.{stored_both_goes}
use Rattle.engine.proofs.engine.Engine.store_double.Goals as goal

pub returns-clause-goes : goal.returns-clause-goes
returns-clause-goes g c =
    let v = view g.A.Device g.B.Device g.C.Device g.D.Device in
    λ w. stored_both_goes (makes g.A.Device g.B.Device g.C.Device g.D.Device) (length c.args.core.now) c.args.fields.now c.args.self.now.processor.works.registers c.effective-address.new.self.processor.works.registers c.store.new.self.processor.works.registers c.effective-address.result c.odd.result
    (v c.args.self.now c.args.core.now)
    (v c.effective-address.new.self c.effective-address.new.core)
    (v c.store.new.self c.store.new.core)
    (v c.store-2.new.self c.store-2.new.core)
    c.effective-address.ensures.goes c.odd.ensures c.store.ensures.goes c.store.ensures.keeps.registers c.store-2.ensures.goes
