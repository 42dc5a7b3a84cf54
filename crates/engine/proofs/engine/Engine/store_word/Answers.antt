use Rattle.std.proofs.Common.{length, refl}
use Rattle.engine.specs.Code.{view, makes}
use Rattle.engine.proofs.Going.{stored_goes}
use Rattle.engine.proofs.engine.Engine.store_word.Goals as goal

pub returns-clause-goes : goal.returns-clause-goes
returns-clause-goes g c =
    let v = view g.A.Device g.B.Device g.C.Device g.D.Device in
    λ w. stored_goes (makes g.A.Device g.B.Device g.C.Device g.D.Device) (length c.args.core.now) c.args.fields.now.tag c.args.fields.now (λ r. r.a) c.args.self.now.processor.works.registers c.effective-address.new.self.processor.works.registers
    c.effective-address.result c.effective-address.new.self.processor.works.registers.a
    (v c.args.self.now c.args.core.now)
    (v c.effective-address.new.self c.effective-address.new.core)
    (v c.store.new.self c.store.new.core)
    c.effective-address.ensures.goes refl c.store.ensures.goes
