use Rattle.std.proofs.Common.{ap, ◌∙◌}
use Rattle.engine.specs.Plan.{Plan, perform}
use Rattle.engine.specs.Code.{view, makes}
use Rattle.engine.proofs.Areas.{zero_switches, zero_drop}
use Rattle.engine.proofs.engine.Engine.area_zero.Goals as goal

pub returns-in-7-eq2-clause-goes : goal.returns-in-7-eq2-clause-goes
returns-in-7-eq2-clause-goes g c =
    let m = makes g.A.Device g.B.Device g.C.Device g.D.Device in
    let s = view g.A.Device g.B.Device g.C.Device g.D.Device c.args.self.now c.args.core.now in
    ap (λ (p : Plan). (perform m p s).machine) (zero_switches c.args.pair.at c.args.pair.address c.args.pair.control c.in-7-eq2.is-0 c.in-7-eq2.is-1) ∙ c.sense_switches.ensures.goes c.args.core.now

pub returns-in-4-default-clause-goes : goal.returns-in-4-default-clause-goes
returns-in-4-default-clause-goes g c =
    let m = makes g.A.Device g.B.Device g.C.Device g.D.Device in
    let s = view g.A.Device g.B.Device g.C.Device g.D.Device c.args.self.now c.args.core.now in
    ap (λ (p : Plan). (perform m p s).machine) (zero_drop c.args.pair.at c.args.pair.address c.args.pair.control c.in-4-default.is-0 c.if-level-lt-LEVELS.true) ∙ c.drop_points.ensures.goes c.args.core.now
