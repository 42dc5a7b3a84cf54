-- What holds of every plan, for a step: its tally begins with nothing, and its end adds the tally to the totals.
use Rattle.std.proofs.Common.{◌≡◌, ℕ, ◌+◌, Bool, true, false, ◌&&◌, [], length, sym, refl, ap, ◌∙◌, subst, ap₂, append-nil, arith}
use Rattle.engine.specs.declared.place.Position.{Position}
use Rattle.engine.specs.declared.state.Books.{Books}
use Rattle.engine.specs.declared.state.Processor.{Processor}
use Rattle.engine.specs.Machine.{Machine, with_processor, with_tally}
use Rattle.engine.specs.Events.{Call, Did, quiet}
use Rattle.engine.specs.Makes.{Makes, calling, calling_all}
use Rattle.engine.specs.Levels.{due_now}
use Rattle.engine.specs.Plan.{Plan, perform}
use Rattle.engine.specs.Step.{plan_for, step_plan, no_tally, begun, check_stopped, summed, ended_step, step}
use Rattle.controller.specs.Console.{told}
use Rattle.promises.specs.Ties.{Tied}
use Rattle.promises.specs.Stains.{Stain, Alike}
use Rattle.promises.specs.Bill.{tellings, Fair, totals_of, tally_of}
use Rattle.promises.specs.Protection.{Stands, at_yes}
use Rattle.promises.proofs.Tying.{tied_more, same_devices, perform_tied}
use Rattle.promises.proofs.Firm.{perform_firm}
use Rattle.promises.proofs.Billing.{perform_tallied, perform_fairly}
use Rattle.promises.proofs.Alike.{Same, Kept, then_both, change_kept, alike_change}
use Rattle.promises.proofs.Plans.{same_due, perform_kept}

-- the end of a step
stopped_books : (b : Bool) (p : Processor) → (check_stopped b p).books ≡ p.books
stopped_books true p = refl
stopped_books false p = refl

stopped_tally : (b : Bool) (p : Processor) → (check_stopped b p).tally ≡ p.tally
stopped_tally true p = refl
stopped_tally false p = refl

end_totals : (p : Processor) → (ended_step p).books.totals ≡ summed p.books.totals p.tally.counts
end_totals p =
    let b = p.books.switches.check_stop && p.tally.checked in
    ap₂ (λ (x : Books) (t : Rattle.engine.specs.declared.state.Tally.Tally). summed x.totals t.counts) (stopped_books b p) (stopped_tally b p)

end_switches : (p : Processor) → (ended_step p).books.switches ≡ p.books.switches
end_switches p = ap (λ (x : Books). x.switches) (stopped_books (p.books.switches.check_stop && p.tally.checked) p)

abbrev pub performed : Makes → Machine → Did
performed m s = perform m (step_plan m s) (begun s)

-- devices
pub step_tied : (m : Makes) (s : Machine) → Tied m s (step m s).events (step m s).machine
unfolding step
step_tied m s =
    let d = performed m s in
    tied_more m s d.machine _ d.events []
    (tied_more m s (begun s) d.machine [] d.events (record { devices = same_devices s (begun s) refl refl refl refl }) (perform_tied m (step_plan m s) (begun s)))
    (record { devices = same_devices d.machine (with_processor (ended_step d.machine.processor) d.machine) refl refl refl refl })

-- protected words
pub step_switch : (m : Makes) (s : Machine) → at_yes (step m s).machine ≡ at_yes s
unfolding step
step_switch m s =
    let t = (performed m s).machine in
    ap (λ (w : Rattle.works.specs.declared.panel.Switches.Switches). w.write_protect) (end_switches t.processor)
    ∙ ap (λ (b : Books). b.switches.write_protect) (perform_firm m (step_plan m s) (begun s)).books

pub step_stands : (m : Makes) (s : Machine) → at_yes s ≡ false → Stands s.core (step m s).machine.core
unfolding step
step_stands m s e = (perform_firm m (step_plan m s) (begun s)).stands e

-- the bill
step_totals : (m : Makes) (s : Machine) → totals_of (step m s).machine ≡ summed (totals_of s) (tally_of (performed m s).machine)
unfolding step
step_totals m s =
    let t = (performed m s).machine in
    end_totals t.processor ∙ ap (λ (b : Books). summed b.totals (tally_of t)) (perform_firm m (step_plan m s) (begun s)).books

step_events : (m : Makes) (s : Machine) → (step m s).events ≡ (performed m s).events
unfolding step
step_events m s = append-nil (performed m s).events

end_tally : (m : Makes) (s : Machine) → tally_of (step m s).machine ≡ tally_of (performed m s).machine
unfolding step
end_tally m s =
    let p = (performed m s).machine.processor in
    ap (λ (t : Rattle.engine.specs.declared.state.Tally.Tally). t.counts) (stopped_tally (p.books.switches.check_stop && p.tally.checked) p)

pub step_adds : (m : Makes) (s : Machine) (p : Position) → tellings p (step m s).events + told (totals_of s) ≡ told (totals_of (step m s).machine)
step_adds m s p =
    let a = (perform_tallied m (step_plan m s) (begun s)).adds p in
    let b = ap told (step_totals m s) in
    let c = ap (tellings p) (step_events m s) in
    omega arith

pub step_fair : (m : Makes) (s : Machine) → Fair (totals_of s) → Fair (totals_of (step m s).machine)
step_fair m s h =
    let a = (perform_fairly m (step_plan m s) (begun s)).fair in
    subst Fair (sym (step_totals m s)) (omega arith)

-- two machines
step_plan_same : {st : Stain} {s t : Machine} (m : Makes) → Alike st s t → step_plan m s ≡ step_plan m t
step_plan_same {st} {s} {t} m h =
    ap₂ (λ (p : Processor) (n : ℕ). plan_for p.works.run (due_now m s) m n p.works.registers) h.processor h.cores.size
    ∙ ap (λ (o : Rattle.std.specs.declared.option.Option.Option Rattle.levels.specs.declared.state.Interrupt.Interrupt).
    plan_for t.processor.works.run o m (length t.core) t.processor.works.registers) (same_due m h)

pub step_kept : (m : Makes) → Kept (step m)
unfolding step
step_kept m st s t h cl =
    let end = λ (u : Machine). quiet (with_processor (ended_step u.processor) u) in
    then_both end end cl
    (λ c. subst (λ (p : Plan). Same st (performed m s) (perform m p (begun t))) (step_plan_same m h)
    (perform_kept m (step_plan m s) st (begun s) (begun t) (alike_change (λ p. with_tally no_tally p) h) c))
    (λ x. change_kept ended_step)

-- what a step reports is what it told
pub step_tally : (m : Makes) (s : Machine) (p : Position) → tellings p (step m s).events ≡ told (tally_of (step m s).machine)
step_tally m s p =
    let a = (perform_tallied m (step_plan m s) (begun s)).adds p in
    let c = ap (tellings p) (step_events m s) in
    let e = ap told (end_tally m s) in
    omega arith

-- a step keeps what opening gave
pub step_books : (m : Makes) (s : Machine) → ((step m s).machine.processor.books.accepted ≡ s.processor.books.accepted) × ((step m s).machine.processor.books.size ≡ s.processor.books.size)
unfolding step
step_books m s =
    let t = (performed m s).machine in
    let b = t.processor.books.switches.check_stop && t.processor.tally.checked in
    let f = (perform_firm m (step_plan m s) (begun s)).books in
    (ap (λ (x : Books). x.accepted) (stopped_books b t.processor ∙ f), ap (λ (x : Books). x.size) (stopped_books b t.processor ∙ f))

pub all_books : (m : Makes) (c : Call) (s : Machine) → (calling_all m c s).machine.processor.books ≡ s.processor.books
unfolding calling
all_books m c s = refl
