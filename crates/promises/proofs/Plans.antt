-- Every plan that reads no stained word does the same to machines that are alike.
use Rattle.std.proofs.Common.{◌≡◌, ℕ, zero, suc, ◌+◌, ◌%◌, Bool, true, false, List, [], ◌∷◌, ◌++◌, length, Some, None, Option, refl, ap, ◌∙◌, subst, ap₂}
use mathlib.Core.Path.{fun_ext}
use Rattle.storage.specs.Word.{parity_right}
use Rattle.device.specs.Calls.{command_answer, sense_answer}
use Rattle.works.specs.declared.panel.Counts.{Counts}
use Rattle.engine.specs.declared.place.By.{By}
use Rattle.engine.specs.declared.place.By.TheVariants.{Program}
use Rattle.engine.specs.declared.place.Position.{Position}
use Rattle.engine.specs.declared.state.Processor.{Processor}
use Rattle.engine.specs.Machine.{Machine, place, word_in, dev_at, with_works, with_points, work}
use Rattle.engine.specs.Events.{command, sense, put, get}
use Rattle.engine.specs.Makes.{Makes, make_at, calling}
use Rattle.engine.specs.Faults.{raise}
use Rattle.engine.specs.Cycle.{reading, storing, bringing, marking, parity_checked, refer, data_in, one_program, tell, offers, cycle}
use Rattle.engine.specs.Levels.{level_status, statuses, due_now, status_of, sensed_status, points_dropped, drop_points}
use Rattle.engine.specs.Plan.{Sight, sight, Plan, done, act, look, read, store, mark, fetch, give, order, inquire, fault, interrupts, drop, rest, got_word, perform}
use Rattle.promises.specs.Stains.{Stain, stains, ReadsNoStain, Alike}
use Rattle.levels.specs.declared.state.Interrupt.{Interrupt}
use Rattle.levels.specs.declared.state.Interrupt.TheVariants.{Internal, Level}
use Rattle.levels.specs.Standing.{flag_word}
use Rattle.levels.specs.Interrupts.{due, highest}
use Rattle.promises.proofs.Alike.{stains_append, unread_append, Same, Both, Kept, same_then, then_both, control_at, same_view, alike_change, raise_alike, calling_kept, same_data, bringing_both, read_unstained}
use Rattle.promises.proofs.Cycles.{cycle_both, cycle_kept, idle_kept}

-- Status words, what is due and what a sense of interrupts answers follow from the processor and the controls.
seen_alone : Processor → List ℕ → List ℕ → List ℕ → List ℕ → Machine
seen_alone p a b c d = record {
  processor = p;
  core = [];
  first = record { control = a; words = [] };
  second = record { control = b; words = [] };
  third = record { control = c; words = [] };
  fourth = record { control = d; words = [] };
}

same_level : {st : Stain} {s t : Machine} (m : Makes) (level : ℕ) → Alike st s t → level_status m s level ≡ level_status m t level
unfolding level_status seen_alone
same_level m level h = same_view (λ p a b c d. level_status m (seen_alone p a b c d) level) h

same_statuses : {st : Stain} {s t : Machine} (m : Makes) (level n : ℕ) → Alike st s t → statuses m s level n ≡ statuses m t level n
same_statuses m level zero h = refl
same_statuses m level (suc n) h = ap₂ (λ (x : ℕ) (xs : List ℕ). x ∷ xs) (same_level m level h) (same_statuses m (level + 1) n h)

pub same_due : {st : Stain} {s t : Machine} (m : Makes) → Alike st s t → due_now m s ≡ due_now m t
unfolding due_now
same_due m h = ap₂ (λ (p : Processor) (ws : List ℕ). due p.works.flags p.works.masks ws p.works.service) h.processor (same_statuses m 0 24 h)

status_same : {st : Stain} {s t : Machine} (m : Makes) (o : Option Interrupt) → Alike st s t → status_of o m s ≡ status_of o m t
status_same m None h = refl
status_same m (Some Internal) h = ap (λ (p : Processor). flag_word p.works.flags) h.processor
status_same m (Some (Level n)) h = same_level m n h

same_sensed : {st : Stain} {s t : Machine} (m : Makes) → Alike st s t → sensed_status m s ≡ sensed_status m t
unfolding sensed_status
same_sensed {st} {s} {t} m h =
    status_same m (highest s.processor.works.service) h ∙ ap (λ (p : Processor). status_of (highest p.works.service) m t) h.processor

same_sight : {st : Stain} {s t : Machine} → Alike st s t → sight s ≡ sight t
same_sight h =
    ap₂ (λ (p : Processor) (c : Position → List ℕ). record { works = p.works; switches = p.books.switches; control = c })
    h.processor (fun_ext (λ p. control_at p h))

-- after a cycle that read an address, the word there is not stained
parity_core : (b : Bool) (by : By) (a : ℕ) (s : Machine) → (parity_checked b by a s).core ≡ s.core
unfolding raise
parity_core true by a s = refl
parity_core false by a s = refl

told_core : (m : Makes) (f : Counts → Counts) (s : Machine) → (tell m f s).machine.core ≡ s.core
unfolding tell calling
told_core m f s = refl

told_stains : (m : Makes) (f : Counts → Counts) (s : Machine) (st : Stain) (b : ℕ) → stains st (tell m f s).events b ≡ st b
unfolding tell calling
told_stains m f s st b = refl

reading_place : (m : Makes) (a : ℕ) (s : Machine) → place a (tell m one_program (refer Program (reading a) s).machine).machine ≡ place a s
unfolding refer
reading_place m a s =
    ap (λ (c : List ℕ). a % length c)
    (told_core m one_program (refer Program (reading a) s).machine ∙ parity_core (parity_right (word_in a s)) Program (place a s) s)

reading_stains : (a : ℕ) (s : Machine) (st : Stain) (b : ℕ) → stains st (refer Program (reading a) s).events b ≡ st b
unfolding refer
reading_stains a s st b = refl

cycle_unstained : (m : Makes) (a : ℕ) (st : Stain) (s : Machine) → ReadsNoStain st (cycle m (reading a) s).events
    → stains st (cycle m (reading a) s).events (place a (cycle m (reading a) s).machine) ≡ false
unfolding cycle
cycle_unstained m a st s cl =
    let o = offers m s in
    let r = refer Program (reading a) o.machine in
    let x = place a o.machine in
    let outer = unread_append st (o.events ++ r.events) (tell m one_program r.machine).events cl in
    let inner = unread_append st o.events r.events outer.0 in
    ap (λ (z : Stain). z (place a (tell m one_program r.machine).machine)) (stains_append st (o.events ++ r.events) (tell m one_program r.machine).events)
    ∙ told_stains m one_program r.machine (stains st (o.events ++ r.events)) (place a (tell m one_program r.machine).machine)
    ∙ ap (λ (y : ℕ). stains st (o.events ++ r.events) y) (reading_place m a o.machine)
    ∙ ap (λ (z : Stain). z x) (stains_append st o.events r.events)
    ∙ reading_stains a o.machine (stains st o.events) x
    ∙ read_unstained Program a (stains st o.events) o.machine inner.1

-- Every plan: the one induction.
pub perform_kept : (m : Makes) (p : Plan) → Kept (perform m p)
perform_kept m done st s t h cl = record { events = refl; alike = h }
perform_kept m (act f p) st s t h cl = perform_kept m p st (work f s) (work f t) (alike_change (λ q. with_works (f q.works) q) h) cl
perform_kept m (look k) st s t h cl =
    subst (λ (v : Sight). Same st (perform m (k (sight s)) s) (perform m (k v) t)) (same_sight h) (perform_kept m (k (sight s)) st s t h cl)
perform_kept m (read a k) st s t h cl =
    let c = cycle m (reading a) in
    let parts = unread_append st (c s).events (perform m (k (data_in a (c s).machine)) (c s).machine).events cl in
    let d = cycle_kept m (reading a) st s t h parts.0 in
    let e : data_in a (c s).machine ≡ data_in a (c t).machine = same_data a d.alike (cycle_unstained m a st s parts.0) in
    same_then (λ u. perform m (k (data_in a u)) u) (λ u. perform m (k (data_in a u)) u) d
    (subst (λ (z : ℕ). Same (stains st (c s).events) (perform m (k (data_in a (c s).machine)) (c s).machine) (perform m (k z) (c t).machine)) e
    (perform_kept m (k (data_in a (c s).machine)) (stains st (c s).events) (c s).machine (c t).machine d.alike parts.1))
perform_kept m (store a w p) st s t h cl =
    then_both (perform m p) (perform m p) cl (cycle_kept m (storing a w) st s t h) (λ x. perform_kept m p)
perform_kept m (mark a on w p) st s t h cl =
    then_both (perform m p) (perform m p) cl (cycle_kept m (marking a on w) st s t h) (λ x. perform_kept m p)
perform_kept m (fetch q area a p) st s t h cl =
    let v = got_word m q area s in
    let w = got_word m q area t in
    then_both (perform m p) (perform m p) cl
    (λ c. then_both (cycle m (bringing a v)) (cycle m (bringing a w)) c (calling_kept m q (get area) st s t h)
    (λ x. cycle_both m (bringing a v) (bringing a w) (bringing_both Program a v w)))
    (λ x. perform_kept m p)
perform_kept m (give q area w p) st s t h cl =
    then_both (perform m p) (perform m p) cl (calling_kept m q (put area w) st s t h) (λ x. perform_kept m p)
perform_kept m (order q area function modifier k) st s t h cl =
    let r = command_answer (make_at q m) (dev_at q s).control area function in
    then_both (perform m (k r)) (perform m (k (command_answer (make_at q m) (dev_at q t).control area function))) cl
    (calling_kept m q (command area function modifier) st s t h)
    (λ x. subst (λ (c : List ℕ). Both (perform m (k r)) (perform m (k (command_answer (make_at q m) c area function)))) (control_at q h) (perform_kept m (k r)))
perform_kept m (inquire q area modifier k) st s t h cl =
    let r = sense_answer (make_at q m) (dev_at q s).control area modifier in
    then_both (perform m (k r)) (perform m (k (sense_answer (make_at q m) (dev_at q t).control area modifier))) cl
    (calling_kept m q (sense area modifier) st s t h)
    (λ x. subst (λ (c : List ℕ). Both (perform m (k r)) (perform m (k (sense_answer (make_at q m) c area modifier)))) (control_at q h) (perform_kept m (k r)))
perform_kept m (fault f p) st s t h cl = perform_kept m p st (raise f s) (raise f t) (raise_alike f h) cl
perform_kept m (interrupts k) st s t h cl =
    subst (λ (v : ℕ). Same st (perform m (k (sensed_status m s)) s) (perform m (k v) t)) (same_sensed m h) (perform_kept m (k (sensed_status m s)) st s t h cl)
perform_kept m (drop level p) st s t h cl =
    perform_kept m p st (drop_points level s) (drop_points level t) (alike_change (λ q. with_points (points_dropped level q.points) q) h) cl
perform_kept m (rest p) st s t h cl =
    then_both (perform m p) (perform m p) cl (idle_kept m st s t h) (λ x. perform_kept m p)
