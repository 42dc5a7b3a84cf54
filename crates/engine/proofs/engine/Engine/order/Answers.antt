use Rattle.std.proofs.Common.{length, sym, ap, ◌∙◌}
use Rattle.device.specs.Calls.{command_answer}
use Rattle.engine.specs.declared.state.Processor.{Processor}
use Rattle.engine.specs.Machine.{Machine, dev_at, with_processor}
use Rattle.engine.specs.Makes.{make_at}
use Rattle.engine.specs.Faults.{raise}
use Rattle.engine.specs.Plan.{perform}
use Rattle.engine.specs.Xio.{commanded}
use Rattle.engine.specs.Code.{view, makes}
use Rattle.engine.proofs.Ordering.{order_refused, order_taken}
use Rattle.engine.proofs.engine.Engine.order.Goals as goal

pub returns-in-Err-clause-goes : goal.returns-in-Err-clause-goes
unfolding raise
returns-in-Err-clause-goes g c =
    let m = makes g.A.Device g.B.Device g.C.Device g.D.Device in
    let v = view g.A.Device g.B.Device g.C.Device g.D.Device in
    let u = c.args.core.now in
    let s = v c.args.self.now u in
    let t = v c.command.new.self u in
    let k = c.args.pair.control in
    let p = c.args.position in
    let a = command_answer (make_at p m) (dev_at p s).control k.area k.function in
    let e = c.raise.ensures in
    let f = c.command.ensures.processor in
    ap (λ (x : Machine). (perform m (commanded m (length u) c.args.pair.at c.args.pair.address k p a) x).machine) (sym (c.command.ensures.after u))
    ∙ order_refused m (length u) c.args.pair.at c.args.pair.address k p t a c.in-Err.fault c.command.result c.in-Err.is (c.command.ensures.answer u)
    ∙ sym (ap (λ (q : Processor). with_processor q t) e)

pub returns-in-Ok-clause-goes : goal.returns-in-Ok-clause-goes
returns-in-Ok-clause-goes g c =
    let m = makes g.A.Device g.B.Device g.C.Device g.D.Device in
    let v = view g.A.Device g.B.Device g.C.Device g.D.Device in
    let u = c.args.core.now in
    let s = v c.args.self.now u in
    let t = v c.command.new.self u in
    let k = c.args.pair.control in
    let p = c.args.position in
    let a = command_answer (make_at p m) (dev_at p s).control k.area k.function in
    let f = c.command.ensures.processor in
    ap (λ (x : Machine). (perform m (commanded m (length u) c.args.pair.at c.args.pair.address k p a) x).machine) (sym (c.command.ensures.after u))
    ∙ order_taken m (length u) c.args.pair.at c.args.pair.address k p t a tt c.command.result c.in-Ok.is (c.command.ensures.answer u)
    ∙ c.accepted.ensures.goes
