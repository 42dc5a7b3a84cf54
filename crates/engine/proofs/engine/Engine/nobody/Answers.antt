use Rattle.std.proofs.Common.{sym, ap, ◌∙◌}
use Rattle.works.specs.declared.fault.Fault.{Fault}
use Rattle.engine.specs.declared.state.Processor.{Processor}
use Rattle.engine.specs.Machine.{with_processor}
use Rattle.engine.specs.Faults.{faulted, raise}
use Rattle.engine.specs.Code.{view}
use Rattle.engine.proofs.engine.Engine.nobody.Goals as goal

pub returns-clause-goes : goal.returns-clause-goes
unfolding raise
returns-clause-goes g c =
    let p = c.args.self.now.processor in
    let e = c.raise.ensures in
    λ u. sym (ap (λ (q : Processor). with_processor q (view g.A.Device g.B.Device g.C.Device g.D.Device c.args.self.now u)) (e ∙ ap (λ (f : Fault). faulted f p) c.fault.ensures))
