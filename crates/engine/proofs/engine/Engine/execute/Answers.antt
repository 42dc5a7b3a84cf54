use Rattle.std.proofs.Common.{◌≡◌, length, Some, None, Option, Err, sym, refl, ap, ◌∙◌}
use Rattle.std.specs.Option.{ok_or}
use Rattle.instruction.specs.declared.decoding.NotAnOperation.{NotAnOperation}
use Rattle.instruction.specs.declared.words.Operation.{Operation}
use Rattle.instruction.specs.Decoding.{decoded}
use Rattle.works.specs.declared.fault.Fault.{Fault}
use Rattle.engine.specs.declared.state.Processor.{Processor}
use Rattle.engine.specs.Machine.{with_processor}
use Rattle.engine.specs.Faults.{faulted, raise}
use Rattle.engine.specs.Plan.{perform}
use Rattle.engine.specs.Instructions.{executed}
use Rattle.engine.specs.Code.{view, makes}
use Rattle.engine.proofs.engine.Engine.execute.Goals as goal

-- a word that turns into no operation decodes to none
none_decoded : (o : Option Operation) (e f : NotAnOperation) → ok_or o e ≡ Err f → o ≡ None
none_decoded None e f h = refl
none_decoded (Some x) e f h = cc

pub returns-in-Err-clause-goes : goal.returns-in-Err-clause-goes
unfolding raise
returns-in-Err-clause-goes g c =
    let m = makes g.A.Device g.B.Device g.C.Device g.D.Device in
    let u = c.args.core.now in
    let s = view g.A.Device g.B.Device g.C.Device g.D.Device c.args.self.now u in
    let p = c.args.self.now.processor in
    let e = c.raise.ensures in
    let d = none_decoded (decoded c.args.word) (record {}) _ (sym c.try_from.ensures ∙ c.in-Err.is) in
    ap (λ (o : Option Operation). (perform m (executed m (length u) c.args.at o c.args.word p.works.registers) s).machine) d
    ∙ sym (ap (λ (q : Processor). with_processor q s) (e ∙ ap (λ (f : Fault). faulted f p) c.fault.ensures))
