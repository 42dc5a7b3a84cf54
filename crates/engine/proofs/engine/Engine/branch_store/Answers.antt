use Rattle.std.proofs.Common.{length}
use Rattle.engine.specs.Code.{view, makes}
use Rattle.engine.proofs.Going.{link_long}
use Rattle.engine.proofs.engine.Engine.branch_store.Goals as goal

pub returns-in-Some-clause-goes : goal.returns-in-Some-clause-goes
returns-in-Some-clause-goes g c =
    let v = view g.A.Device g.B.Device g.C.Device g.D.Device in
    λ w. link_long (makes g.A.Device g.B.Device g.C.Device g.D.Device) (length c.args.core.now) (length c.target.new.core) c.args.fields.now c.args.self.now.processor.works.registers c.target.new.self.processor.works.registers c.in-Some.address
    (v c.args.self.now c.args.core.now)
    (v c.target.new.self c.target.new.core)
    (v c.link.new.self c.link.new.core)
    c.if-fields.true (λ k. c.target.ensures.goes k c.in-Some.address c.in-Some.is) c.target.ensures.at c.target.auto.core c.link.ensures.goes
