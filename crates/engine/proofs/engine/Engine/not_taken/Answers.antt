use Rattle.std.proofs.Common.{ℕ, sym, ap, ◌∙◌}
use Rattle.device.specs.declared.answer.DeviceFault.TheVariants.{NotTaken}
use Rattle.works.specs.declared.fault.Cause.TheVariants.{Channel}
use Rattle.works.specs.declared.fault.ChannelFault.TheVariants.{Refused}
use Rattle.works.specs.declared.fault.Fault.{Fault}
use Rattle.engine.specs.declared.place.By.TheVariants.{Device}
use Rattle.engine.specs.declared.state.Processor.{Processor}
use Rattle.engine.specs.Machine.{with_processor}
use Rattle.engine.specs.Faults.{fault_of, faulted, raise}
use Rattle.engine.specs.Code.{view}
use Rattle.engine.proofs.engine.Engine.not_taken.Goals as goal

pub returns-clause-goes : goal.returns-clause-goes
unfolding raise
returns-clause-goes g c =
    let p = c.args.self.now.processor in
    let e = c.raise.ensures in
    λ u. sym (ap (λ (q : Processor). with_processor q (view g.A.Device g.B.Device g.C.Device g.D.Device c.args.self.now u))
    (e ∙ ap (λ (f : Fault). faulted f p) (c.fault.ensures ∙ ap (λ (k : ℕ). fault_of (Device c.args.position k) (Channel (Refused NotTaken)) c.args.at) c.kind_of.ensures)))
