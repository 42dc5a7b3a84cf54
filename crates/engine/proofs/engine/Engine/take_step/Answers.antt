use Rattle.std.proofs.Common.{ap, ◌∙◌, rules}
use Rattle.engine.specs.declared.state.Processor.{Processor}
use Rattle.engine.specs.Machine.{with_processor}
use Rattle.engine.specs.Code.{view, makes}
use Rattle.engine.proofs.Ending.{step_by}
use Rattle.engine.proofs.engine.Engine.take_step.Goals as goal

pub returns-clause-after : goal.returns-clause-after
returns-clause-after g c =
    let m = makes g.A.Device g.B.Device g.C.Device g.D.Device in
    let v = view g.A.Device g.B.Device g.C.Device g.D.Device in
    let s = v c.args.self.now c.args.core.now in
    let t = v c.act.new.self c.act.new.core in
    ap (λ (q : Processor). with_processor q t) c.end_step.ensures ∙ step_by m s t c.default-self.result (search rules) c.act.ensures.goes
