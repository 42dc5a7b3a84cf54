use Rattle.std.proofs.Common.{ℕ, sym, ap, ◌∙◌}
use Rattle.engine.specs.Faults.{fault_of, protect_cause, faulted}
use Rattle.engine.proofs.Referring.{same_place, store_kept, store_dropped}
use Rattle.engine.proofs.state.Processor.store_word.Goals as goal

pub returns-then-is_protected-clause-after : goal.returns-then-is_protected-clause-after
returns-then-is_protected-clause-after c =
    let u = c.args.core.now in
    let p = c.args.self.now in
    let by = c.args.by in
    let e = c.from-index.ensures in
    let at = e ∙ same_place p u c.args.address c.place-at.result c.requires.room.fits c.place-at.ensures.is in
    store_dropped by c.args.address c.from-index.result c.args.value p c.raise.new.self u at (sym c.is_protected.ensures ∙ c.if-is_protected.true)
    (c.raise.ensures ∙ ap (λ f. faulted f p) (c.fault.ensures ∙ ap (λ k. fault_of by k c.place-at.result) c.protect_cause.ensures ∙ ap (λ (x : ℕ). fault_of by (protect_cause by) x) (sym e)))

pub returns-else-is_protected-clause-after : goal.returns-else-is_protected-clause-after
returns-else-is_protected-clause-after c =
    let u = c.args.core.now in
    let p = c.args.self.now in
    let at = c.from-index.ensures ∙ same_place p u c.args.address c.place-at.result c.requires.room.fits c.place-at.ensures.is in
    store_kept c.args.by c.args.address c.from-index.result c.args.value c.stored.result p u at c.ranges.value.fits (sym c.is_protected.ensures ∙ c.if-is_protected.false) c.stored.ensures.value
