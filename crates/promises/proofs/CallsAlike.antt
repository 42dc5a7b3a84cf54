-- The calls, made on two machines that are alike.
use Rattle.std.proofs.Common.{◌≡◌, ℕ, Bool, true, false, not, ◌&&◌, eqb, ltb, [], ◌∷◌, map, Ok, Option, refl, ap, ◌∙◌, subst, ap₂}
use Rattle.refusal.specs.declared.Refusal.{Refusal}
use Rattle.refusal.specs.declared.Refusal.TheVariants.{Length, Wiring, NotStopped, Protected, CycleLimit}
use Rattle.registers.specs.declared.state.Registers.{Registers}
use Rattle.storage.specs.Word.{eighteen, is_protected}
use Rattle.works.specs.declared.panel.RunState.TheVariants.{Stopped, Running}
use Rattle.engine.specs.declared.state.Processor.{Processor}
use Rattle.engine.specs.declared.place.By.TheVariants.{Program}
use Rattle.engine.specs.Machine.{words_of_size, Machine, word_in, place, with_processor, with_points, with_books, with_works, with_registers, with_run}
use Rattle.engine.specs.Events.{read_from, reset, Did, quiet}
use Rattle.engine.specs.Makes.{Makes}
use Rattle.engine.specs.Cycle.{storing, refer}
use Rattle.engine.specs.Step.{no_counts, with_totals}
use Rattle.levels.specs.Standing.{latched}
use Rattle.controller.specs.declared.call.Outcome.TheVariants.{Stepped, Displayed, Found, Counted}
use Rattle.controller.specs.declared.call.Call.{Call}
use Rattle.controller.specs.declared.call.Call.TheVariants.{Step, Start, Stop, ImmediateStop, SetSwitches, Point, LoadI, Load, Display, Clear, Search, Count}
use Rattle.controller.specs.declared.call.ClearMode.{ClearMode}
use Rattle.controller.specs.declared.call.ClearMode.TheVariants.{Run as ClearRun, Display as ClearDisplay}
use Rattle.engine.specs.Instructions.{advanced, i_set}
use Rattle.controller.specs.Opening.{on_panel}
use Rattle.controller.specs.Console.{Answer, Done, answered, accepted, only_if, told, below_limit, report_of, stepping, at_rest, stopping, with_switches, latching, is_stopped, loading_i, i_of, next_i, loading, displaying, data_switches, change_i, cleared, swept, clearing, searching, bill_of, counting, made_call, lent_right, call}
use Rattle.promises.specs.Stains.{Stain, stains, ReadsNoStain, Cores, Alike}
use Rattle.promises.specs.Protection.{at_yes}
use Rattle.promises.proofs.Cores.{same_bit}
use Rattle.promises.proofs.Alike.{Same, Kept, then_both, alike_processor, alike_change, alike_core, change_kept, calling_all_kept, same_place, same_word, storing_kept}
use Rattle.promises.proofs.Steps.{step_kept}
use Rattle.promises.proofs.Clearing.{same_swept, run_cores, display_cores, same_search}

-- what two calls came to cannot be told apart
pub record SameDone (st : Stain) (d e : Done) : Type 0 where
  pub events : d.events ≡ e.events
  pub answer : d.answer ≡ e.answer
  pub alike : Alike (stains st d.events) d.machine e.machine

abbrev pub KeptCall : (Machine → Done) → Type 0
KeptCall f = (st : Stain) (s t : Machine) → Alike st s t → ReadsNoStain st (f s).events → SameDone st (f s) (f t)

-- from what was done, and the answer
accepted_same : {st : Stain} {d e : Did} → Same st d e → SameDone st (accepted d) (accepted e)
accepted_same k = record { events = k.events; answer = refl; alike = k.alike }

done_same : {st : Stain} {d e : Did} (f g : Machine → Answer) → f d.machine ≡ g e.machine → Same st d e → SameDone st (answered f d) (answered g e)
done_same f g a k = record { events = k.events; answer = a; alike = k.alike }

only_kept : (b : Bool) (r : Refusal) (f : Machine → Done) → KeptCall f → KeptCall (only_if b r f)
only_kept true r f k st s t h cl = k st s t h cl
only_kept false r f k st s t h cl = record { events = refl; answer = refl; alike = h }

-- a test that is the same in both
test_kept : (test : Machine → Bool) (r : Refusal) (f : Machine → Done) → ((st : Stain) (s t : Machine) → Alike st s t → test s ≡ test t) → KeptCall f → KeptCall (λ s. only_if (test s) r f s)
test_kept test r f e k st s t h cl =
    subst (λ (b : Bool). SameDone st (only_if (test s) r f s) (only_if b r f t)) (e st s t h) (only_kept (test s) r f k st s t h cl)

stopped_kept : (f : Machine → Done) → KeptCall f → KeptCall (λ s. only_if (is_stopped s.processor.works.run) NotStopped f s)
stopped_kept f k =
    test_kept (λ s. is_stopped s.processor.works.run) NotStopped f (λ st s t h. ap (λ (p : Processor). is_stopped p.works.run) h.processor) k

-- a change of the processor alone
change_call : (f : Processor → Processor) → KeptCall (λ s. accepted (quiet (with_processor (f s.processor) s)))
change_call f st s t h cl = accepted_same (change_kept f st s t h cl)

stepping_kept : (m : Makes) → KeptCall (stepping m)
stepping_kept m st s t h cl =
    let k = step_kept m st s t h cl in
    done_same (λ u. Ok (Stepped (report_of u.processor))) (λ u. Ok (Stepped (report_of u.processor))) (ap (λ (p : Processor). Ok (Stepped (report_of p))) k.alike.processor) k

stopping_kept : (m : Makes) → KeptCall (stopping m)
stopping_kept m st s t h cl =
    accepted_same (calling_all_kept m reset st (with_processor (at_rest s.processor) s) (with_processor (at_rest t.processor) t) (alike_change at_rest h) cl)

-- I by the core's size
change_i_alike : {st : Stain} {s t : Machine} (f : ℕ → Registers → Registers) → Alike st s t → Alike st (change_i f s) (change_i f t)
change_i_alike {st} {s} {t} f h =
    alike_processor _ _ (ap₂ (λ (p : Processor) (n : ℕ). with_works (with_registers (f n p.works.registers) p.works) p) h.processor h.cores.size) h

loading_i_kept : KeptCall loading_i
loading_i_kept st s t h cl = record {
  events = refl;
  answer = refl;
  alike = alike_processor _ _
      (ap₂ (λ (p : Processor) (n : ℕ). with_works (with_registers (i_set n p.books.switches.«data» p.works.registers) p.works) p) h.processor h.cores.size) h;
}

next_i_kept : Kept next_i
next_i_kept st s t h cl = record { events = refl; alike = change_i_alike (λ n. advanced n 1) h }

loading_kept : KeptCall loading
loading_kept st s t h cl =
    accepted_same
    (then_both next_i next_i cl
    (λ c. subst (λ (p : Processor). Same st (refer Program (storing (i_of s) (data_switches s)) s) (refer Program (storing p.works.registers.i p.books.switches.«data») t)) h.processor
    (storing_kept Program (i_of s) (data_switches s) st s t h c))
    (λ x. next_i_kept))

same_i : {st : Stain} {s t : Machine} → Alike st s t → i_of s ≡ i_of t
same_i h = ap (λ (p : Processor). p.works.registers.i) h.processor

displaying_kept : KeptCall displaying
displaying_kept st s t h cl = record {
  events = ap (λ (x : ℕ). read_from x ∷ []) place_same;
  answer = ap (λ (w : ℕ). Ok (Displayed (eighteen w))) (same_word (i_of s) h cl.0 ∙ ap (λ (i : ℕ). word_in i t) (same_i h));
  alike = change_i_alike (λ n. advanced n 1) h;
}
  where
    place_same : place (i_of s) s ≡ place (i_of t) t
    place_same = same_place (i_of s) h ∙ ap (λ (i : ℕ). place i t) (same_i h)

clearing_kept : (mode : ClearMode) (b : Bool) → Kept (clearing mode b)
clearing_kept ClearRun b st s t h cl = record {
  events = same_swept b 0 s.core t.core h.cores.size (same_bit h.cores);
  alike = alike_core _ _ h
      (subst (λ (p : Processor). Cores (stains st (swept b 0 s.core)) (map (cleared b (data_switches s)) s.core) (map (cleared b p.books.switches.«data») t.core)) h.processor
      (run_cores b (data_switches s) h.cores));
}
clearing_kept ClearDisplay b st s t h cl = record { events = refl; alike = alike_core _ _ h (display_cores b h.cores) }

clear_kept : (mode : ClearMode) → KeptCall (λ s. accepted (clearing mode (at_yes s) s))
clear_kept mode st s t h cl =
    accepted_same
    (subst (λ (p : Processor). Same st (clearing mode (at_yes s) s) (clearing mode p.books.switches.write_protect t)) h.processor
    (clearing_kept mode (at_yes s) st s t h cl))

searching_kept : KeptCall searching
searching_kept st s t h cl = record { events = refl; answer = ap (λ (a : Option ℕ). Ok (Found a)) (same_search h.cores); alike = h }

counting_kept : KeptCall counting
counting_kept st s t h cl = record {
  events = refl;
  answer = ap (λ (p : Processor). Ok (Counted (bill_of p.books.totals))) h.processor;
  alike = alike_change (λ p. with_books (with_totals no_counts p.books) p) h;
}

-- whether a word is protected at I is the same in both
load_test : (st : Stain) (s t : Machine) → Alike st s t → not (is_protected (word_in (i_of s) s)) ≡ not (is_protected (word_in (i_of t) t))
load_test st s t h =
    ap not (same_bit h.cores (place (i_of s) s)
    ∙ ap (λ (x : ℕ). is_protected (lib.ListN.get_or t.core x 0)) (same_place (i_of s) h)
    ∙ ap (λ (i : ℕ). is_protected (word_in i t)) (same_i h))

made_kept : (m : Makes) (c : Call) → KeptCall (made_call m c)
made_kept m Step st s t h cl =
    test_kept (λ u. below_limit u) CycleLimit (stepping m)
    (λ st s t h. ap (λ (p : Processor). ltb (told p.books.totals) 1000000000000) h.processor) (stepping_kept m) st s t h cl
made_kept m Start st s t h cl = change_call (λ p. with_works (with_run Running p.works) p) st s t h cl
made_kept m Stop st s t h cl = change_call (λ p. with_works (with_run Stopped p.works) p) st s t h cl
made_kept m ImmediateStop st s t h cl = stopping_kept m st s t h cl
made_kept m (SetSwitches w) st s t h cl = change_call (λ p. with_books (with_switches w p.books) p) st s t h cl
made_kept m (Point level bit) st s t h cl =
    only_kept (on_panel level bit) Wiring (latching level bit)
    (change_call (λ p. with_points (record { words = latched level bit p.points.words }) p)) st s t h cl
made_kept m LoadI st s t h cl = stopped_kept loading_i loading_i_kept st s t h cl
made_kept m Load st s t h cl =
    stopped_kept (λ u. only_if (not (is_protected (word_in (i_of u) u))) Protected loading u)
    (test_kept (λ u. not (is_protected (word_in (i_of u) u))) Protected loading load_test (loading_kept)) st s t h cl
made_kept m Display st s t h cl = stopped_kept displaying displaying_kept st s t h cl
made_kept m (Clear mode) st s t h cl = stopped_kept (λ u. accepted (clearing mode (at_yes u) u)) (clear_kept mode) st s t h cl
made_kept m Search st s t h cl = stopped_kept searching searching_kept st s t h cl
made_kept m Count st s t h cl = counting_kept st s t h cl

pub call_kept : (m : Makes) (c : Call) → KeptCall (call m c)
unfolding call
call_kept m c =
    test_kept lent_right Length (made_call m c)
    (λ st s t h. ap₂ (λ (p : Processor) (n : ℕ). p.books.accepted && eqb n (words_of_size p.books.size)) h.processor h.cores.size) (made_kept m c)
