use Rattle.std.proofs.Common.{None, sym, refl, ◌∙◌}
use Rattle.works.specs.declared.panel.RunState.TheVariants.{Stopped, Waiting}
use Rattle.engine.specs.Levels.{due_now}
use Rattle.engine.specs.Plan.{done}
use Rattle.engine.specs.Code.{view, makes}
use Rattle.engine.proofs.Ending.{step_goes}
use Rattle.engine.proofs.engine.Engine.act.Goals as goal

pub returns-in-Stopped-clause-goes : goal.returns-in-Stopped-clause-goes
returns-in-Stopped-clause-goes g c =
    let m = makes g.A.Device g.B.Device g.C.Device g.D.Device in
    let s = view g.A.Device g.B.Device g.C.Device g.D.Device c.args.self.now c.args.core.now in
    step_goes m s _ Stopped (due_now m s) c.in-Stopped.is refl (c.rest.ensures.goes done)

pub returns-in-None-due-clause-goes : goal.returns-in-None-due-clause-goes
returns-in-None-due-clause-goes g c =
    let m = makes g.A.Device g.B.Device g.C.Device g.D.Device in
    let s = view g.A.Device g.B.Device g.C.Device g.D.Device c.args.self.now c.args.core.now in
    step_goes m s _ Waiting None c.in-Waiting.is (sym c.in-None-due.is ∙ c.due-in-Waiting.ensures.is c.args.core.now) (c.rest-in-None-due.ensures.goes done)
