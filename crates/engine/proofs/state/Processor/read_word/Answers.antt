use Rattle.std.proofs.Common.{ℕ, sym, ap, ◌∙◌}
use Rattle.engine.specs.Faults.{fault_of, parity_cause, faulted}
use Rattle.engine.proofs.Referring.{same_place, read_right, read_wrong}
use Rattle.engine.proofs.state.Processor.read_word.Goals as goal

pub returns-then-parity_is_right-clause-after : goal.returns-then-parity_is_right-clause-after
returns-then-parity_is_right-clause-after c =
    let u = c.args.core.now in
    let at = c.from.ensures ∙ same_place c.args.self.now u c.args.address c.place-at.result c.requires.room.fits c.place-at.ensures.is in
    read_right c.args.by c.args.address c.from.result c.args.self.now u at (sym c.parity_is_right.ensures ∙ c.if-parity_is_right.true)

pub returns-clause-after : goal.returns-clause-after
returns-clause-after c =
    let u = c.args.core.now in
    let p = c.args.self.now in
    let by = c.args.by in
    let e = c.from.ensures in
    let at = e ∙ same_place p u c.args.address c.place-at.result c.requires.room.fits c.place-at.ensures.is in
    read_wrong by c.args.address c.from.result p c.raise.new.self u at (sym c.parity_is_right.ensures ∙ c.if-parity_is_right.false)
    (c.raise.ensures ∙ ap (λ f. faulted f p) (c.fault.ensures ∙ ap (λ k. fault_of by k c.place-at.result) c.parity_cause.ensures ∙ ap (λ (x : ℕ). fault_of by (parity_cause by) x) (sym e)))
