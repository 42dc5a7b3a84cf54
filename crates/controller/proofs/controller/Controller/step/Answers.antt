use Rattle.engine.specs.Code.{view, makes}
use Rattle.controller.specs.Held.{held}
use Rattle.controller.proofs.Entering.{step_answered, step_left}
use Rattle.controller.proofs.controller.Controller.step.Goals as goal

pub returns : goal.returns
returns g c =
    let m = makes g.A.Device g.B.Device g.C.Device g.D.Device in
    let s = held g.A.Device g.B.Device g.C.Device g.D.Device c.args.self.now c.args.core.now in
    let t = view g.A.Device g.B.Device g.C.Device g.D.Device c.step.new.self c.step.new.core in
    record { answer = step_answered m s c.step.result c.step.ensures.steps.answer; machine = step_left m s t c.step.ensures.steps.after }
