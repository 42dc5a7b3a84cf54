use Rattle.std.proofs.Common.{sym, ap}
use Rattle.engine.specs.Machine.{Machine}
use Rattle.engine.specs.Plan.{perform}
use Rattle.engine.specs.Code.{view, makes}
use Rattle.engine.proofs.Cycling.{idle_by}
use Rattle.engine.proofs.engine.Engine.rest.Goals as goal

pub returns-clause-goes : goal.returns-clause-goes
returns-clause-goes g c =
    let m = makes g.A.Device g.B.Device g.C.Device g.D.Device in
    let v = view g.A.Device g.B.Device g.C.Device g.D.Device in
    let s = v c.args.self.now c.args.core.now in
    let o = v c.offers.new.self c.offers.new.core in
    let t = v c.tell.new.self c.offers.new.core in
    λ p. ap (λ (x : Machine). (perform m p x).machine) (sym (idle_by m s o t c.offers.ensures.after (c.tell.ensures.after c.offers.new.core)))
