-- Lists of calls: what holds of each call, for any list.
use Rattle.std.proofs.Common.{◌≡◌, ℕ, ◌+◌, ◌*◌, ◌≤◌, Bool, true, false, List, [], ◌∷◌, ◌++◌, length, get_or, Ok, sym, refl, ap, ◌∙◌, subst, ap₂, true≢false, arith}
use Rattle.refusal.specs.declared.Refusal.TheVariants.{Length}
use Rattle.engine.specs.declared.place.Position.{Position}
use Rattle.engine.specs.declared.place.Position.TheVariants.{First, Second, Third, Fourth}
use Rattle.engine.specs.Machine.{Machine, dev_at}
use Rattle.engine.specs.Events.{Event}
use Rattle.engine.specs.Makes.{Makes}
use Rattle.controller.specs.declared.call.Outcome.TheVariants.{Counted}
use Rattle.controller.specs.declared.call.Bill.{Bill}
use Rattle.controller.specs.declared.call.Call.{Call}
use Rattle.controller.specs.declared.call.Entry.{Entry}
use Rattle.controller.specs.declared.call.Lent.{Lent}
use Rattle.controller.specs.declared.call.Lent.TheVariants.{Opened, Other}
use Rattle.controller.specs.Opening.{opened_machine}
use Rattle.controller.specs.Console.{Answer, told, bill_of}
use Rattle.controller.specs.Run.{lending, enter, run, after, answers_of, events_of}
use Rattle.promises.specs.Ties.{Tied, outgoing}
use Rattle.promises.specs.Stains.{Stain, unstained, stains, ReadsNoStain, Alike}
use Rattle.promises.specs.Bill.{tellings, Fair, totals_of, restarted_by_count, since_count, NoCount}
use Rattle.promises.specs.Protection.{Stands, at_yes, held_by, when_left_yes, AlwaysNo}
use Rattle.promises.specs.Alone.{ProtectedWordsAlwaysStay, BillAlwaysAddsUp}
use Rattle.promises.specs.Unread.{Twins, OpenedAlikeAreTwins, UnreadInstrumentsDoNotMatter}
use Rattle.promises.proofs.Tying.{tied_more}
use Rattle.promises.proofs.Firm.{stands_same, stands_more}
use Rattle.promises.proofs.Alike.{stains_append, unread_append, control_at}
use Rattle.promises.proofs.Calls.{CallBilled, call_tied, call_stands, call_billed, refused_billed}
use Rattle.promises.proofs.Answering.{enter_answers, run_tail, since_none}
use Rattle.promises.proofs.CallsAlike.{SameDone, call_kept}
use Rattle.promises.proofs.Sounding.{none_stained}

-- devices
enter_tied : (m : Makes) (l : Lent) (c : Call) (s : Machine) → Tied m s (lending l m c s).events (lending l m c s).machine
enter_tied m Opened c s = call_tied m c s
enter_tied m Other c s = record { devices = λ p. refl }

pub run_tied : (m : Makes) (es : List Entry) (s : Machine) → Tied m s (events_of (run m es s)) (after m es s)
run_tied m [] s = record { devices = λ p. refl }
run_tied m (e ∷ es) s = let d = enter m e s in tied_more m s d.machine _ d.events _ (enter_tied m e.lent e.call s) (run_tied m es d.machine)

-- protected words
enter_stands : (m : Makes) (l : Lent) (c : Call) (s : Machine) → at_yes s ≡ false → Stands s.core (lending l m c s).machine.core
enter_stands m Opened c s e = call_stands m c s e
enter_stands m Other c s e = stands_same s.core

-- the words that are to be held to are held to
abbrev Holds : List ℕ → Machine → Type 0
Holds c s = at_yes s ≡ false → Stands c s.core

holds_more : (s t : Machine) (c : List ℕ) → (at_yes s ≡ false → Stands s.core t.core) → Holds c s → Holds (held_by (at_yes s) (at_yes t) c t.core) t
holds_more s t c k h = go (at_yes s) (at_yes t) refl refl
  where
    go : (x y : Bool) → at_yes s ≡ x → at_yes t ≡ y → Holds (held_by x y c t.core) t
    go true true p q = λ e. absurd (true≢false (sym q ∙ e))
    go true false p q = λ e. stands_same t.core
    go false true p q = λ e. absurd (true≢false (sym q ∙ e))
    go false false p q = λ e. stands_more (h p) (k p)

run_holds : (m : Makes) (es : List Entry) (s : Machine) (c : List ℕ) → Holds c s → Holds (when_left_yes m es s c) (after m es s)
run_holds m [] s c h = h
run_holds m (e ∷ es) s c h =
    let t = (enter m e s).machine in run_holds m es t (held_by (at_yes s) (at_yes t) c t.core) (holds_more s t c (enter_stands m e.lent e.call s) h)

-- with the switch at No all the while
run_stands : (m : Makes) (es : List Entry) (s : Machine) → AlwaysNo m es s → Stands s.core (after m es s).core
run_stands m [] s h = stands_same s.core
run_stands m (e ∷ es) s h = stands_more (enter_stands m e.lent e.call s h.0) (run_stands m es (enter m e s).machine h.1)

after_append : (m : Makes) (xs ys : List Entry) (s : Machine) → after m (xs ++ ys) s ≡ after m ys (after m xs s)
after_append m [] ys s = refl
after_append m (x ∷ xs) ys s = after_append m xs ys (enter m x s).machine

pub protected_words_stay : ProtectedWordsAlwaysStay
protected_words_stay m es s = record {
  since_left_yes = run_holds m es s s.core (λ e. stands_same s.core);
  since_any_call = λ before rest q h.
      subst (λ (t : Machine). Stands (after m before s).core t.core)
      (sym (ap (λ (x : List Entry). after m x s) q ∙ after_append m before rest s)) (run_stands m rest (after m before s) h);
}

-- the bill
enter_billed : (m : Makes) (l : Lent) (c : Call) (s : Machine) → CallBilled s (lending l m c s)
enter_billed m Opened c s = call_billed m c s
enter_billed m Other c s = refused_billed m Length s

run_adds : (m : Makes) (es : List Entry) (s : Machine) (so_far : List Event) (p : Position) → tellings p so_far ≡ told (totals_of s)
    → tellings p (since_count m es s so_far) ≡ told (totals_of (after m es s))
run_adds m [] s so_far p h = h
run_adds m (e ∷ es) s so_far p h =
    let d = enter m e s in
    run_adds m es d.machine (restarted_by_count d.answer (so_far ++ d.events)) p ((enter_billed m e.lent e.call s).adds p so_far h)

run_fair : (m : Makes) (es : List Entry) (s : Machine) → Fair (totals_of s) → Fair (totals_of (after m es s))
run_fair m [] s h = h
run_fair m (e ∷ es) s h = run_fair m es (enter m e s).machine ((enter_billed m e.lent e.call s).fair h)

-- just after an accepted count the totals are nothing
count_restarts : (m : Makes) (e : Entry) (s : Machine) (b : Bill) (so_far : List Event) (p : Position) → (enter m e s).answer ≡ Ok (Counted b)
    → tellings p so_far ≡ told (totals_of s) → 0 ≡ told (totals_of (enter m e s).machine)
count_restarts m e s b so_far p k h =
    let d = enter m e s in
    sym (ap (λ (a : Answer). tellings p (restarted_by_count a (so_far ++ d.events))) k) ∙ (enter_billed m e.lent e.call s).adds p so_far h

-- from a machine whose totals are what was told since, with no count after it
none_adds : (m : Makes) (es : List Entry) (s : Machine) (p : Position) → NoCount m es s → 0 ≡ told (totals_of s)
    → tellings p (events_of (run m es s)) ≡ told (totals_of (after m es s))
none_adds m es s p n h = ap (tellings p) (sym (since_none m es s [] n)) ∙ run_adds m es s [] p h

pub bill_adds_up : BillAlwaysAddsUp
bill_adds_up m es core w a b c d =
    let s = opened_machine core w a b c d in
    let t = after m es s in
    let adds : ((p : Position) → tellings p (since_count m es s []) ≡ told (totals_of t)) = λ p. run_adds m es s [] p refl in
    let fair : Fair (totals_of t) = run_fair m es s (omega arith) in
    record {
      adds = adds;
      fair = fair;
      tail = run_tail m es s [];
      answered = λ e x k. let q = (enter_answers m e.lent e.call t).bill x k in (λ p. adds p ∙ sym (ap (λ (y : Bill). y.told) q), bill_sums t x q, bill_fair t x q fair);
      reported = λ e r k p. (enter_answers m e.lent e.call t).report r k p;
      since_any_count = λ before e rest x q k n p.
          let u = after m before s in
          none_adds m rest (enter m e u).machine p n (count_restarts m e u x (since_count m before s []) p k (run_adds m before s [] p refl))
          ∙ sym (ap (λ (y : List Entry). told (totals_of (after m y s))) q ∙ ap (λ (y : Machine). told (totals_of y)) (after_append m before (e ∷ rest) s));
      since_opening = λ n p. none_adds m es s p n refl;
    }
  where
    bill_sums : (t : Machine) (x : Bill) → x ≡ bill_of (totals_of t) → x.told ≡ x.program + x.stolen + x.idle
    bill_sums t x q = subst (λ (y : Bill). y.told ≡ y.program + y.stolen + y.idle) (sym q) refl

    bill_fair : (t : Machine) (x : Bill) → x ≡ bill_of (totals_of t) → Fair (totals_of t) → x.stolen ≤ 3 * (x.program + x.idle)
    bill_fair t x q h = subst (λ (y : Bill). y.stolen ≤ 3 * (y.program + y.idle)) (sym q) h

-- two machines
enter_kept : (m : Makes) (l : Lent) (c : Call) (st : Stain) (s t : Machine) → Alike st s t → ReadsNoStain st (lending l m c s).events → SameDone st (lending l m c s) (lending l m c t)
enter_kept m Opened c st s t h cl = call_kept m c st s t h cl
enter_kept m Other c st s t h cl = record { events = refl; answer = refl; alike = h }

pub record SameRun (m : Makes) (es : List Entry) (st : Stain) (s t : Machine) : Type 0 where
  pub events : events_of (run m es s) ≡ events_of (run m es t)
  pub answers : answers_of (run m es s) ≡ answers_of (run m es t)
  pub alike : Alike (stains st (events_of (run m es s))) (after m es s) (after m es t)

pub run_kept : (m : Makes) (es : List Entry) (st : Stain) (s t : Machine) → Alike st s t → ReadsNoStain st (events_of (run m es s)) → SameRun m es st s t
run_kept m [] st s t h cl = record { events = refl; answers = refl; alike = h }
run_kept m (e ∷ es) st s t h cl =
    let d = enter m e s in
    let f = enter m e t in
    let parts = unread_append st d.events (events_of (run m es d.machine)) cl in
    let a = enter_kept m e.lent e.call st s t h parts.0 in
    let b = run_kept m es (stains st d.events) d.machine f.machine a.alike parts.1 in
    record {
      events = ap₂ (λ (x y : List Event). x ++ y) a.events b.events;
      answers = ap₂ (λ (x : Answer) (y : List Answer). x ∷ y) a.answer b.answers;
      alike = subst (λ (z : Stain). Alike z (after m es d.machine) (after m es f.machine)) (sym (stains_append st d.events (events_of (run m es d.machine)))) b.alike;
    }

-- openings over one core, by each device's control
pub opened_twins : OpenedAlikeAreTwins
opened_twins core w a b c d e f g h first second third fourth = record { processor = refl; core = refl; control = by }
  where
    by : (p : Position) → (dev_at p (opened_machine core w a b c d)).control ≡ (dev_at p (opened_machine core w e f g h)).control
    by First = first
    by Second = second
    by Third = third
    by Fourth = fourth

-- machines that differ in nothing but words to come are alike, with no word stained
twins_alike : (s t : Machine) → Twins s t → Alike unstained s t
twins_alike s t w = record {
  processor = w.processor;
  first = w.control First;
  second = w.control Second;
  third = w.control Third;
  fourth = w.control Fourth;
  cores = record {
    size = ap length w.core;
    same = λ a k. ap (λ (c : List ℕ). get_or c a 0) w.core;
    first_sound = none_stained s.core;
    second_sound = none_stained t.core;
  };
}

pub unread_do_not_matter : UnreadInstrumentsDoNotMatter
unread_do_not_matter m es s t w cl =
    let r = run_kept m es unstained s t (twins_alike s t w) cl in
    record {
      answers = r.answers;
      processor = r.alike.processor;
      control = λ p. control_at p r.alike;
      events = r.events;
      handed = λ p. ap (outgoing p) r.events;
      size = r.alike.cores.size;
      words = r.alike.cores.same;
      first_stained = r.alike.cores.first_sound;
      second_stained = r.alike.cores.second_sound;
    }
