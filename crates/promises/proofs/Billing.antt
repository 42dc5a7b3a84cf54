-- Every cycle is told once to each device and counted once, and at most three are stolen before each other one.
use Rattle.std.proofs.Common.{◌≡◌, ℕ, zero, suc, ◌+◌, ◌≤◌, Bool, true, false, List, [], ◌∷◌, ◌++◌, Some, None, Option, refl, ap, ◌∙◌, add-one, arith}
use Rattle.storage.specs.Word.{is_protected, parity_right}
use Rattle.works.specs.declared.fault.Fault.{Fault}
use Rattle.works.specs.declared.panel.Counts.{Counts}
use Rattle.engine.specs.declared.place.By.{By}
use Rattle.engine.specs.declared.place.By.TheVariants.{Program}
use Rattle.engine.specs.declared.place.Position.{Position}
use Rattle.engine.specs.declared.place.Position.TheVariants.{First, Second, Third, Fourth}
use Rattle.engine.specs.declared.place.ChannelNumber.{ChannelNumber}
use Rattle.engine.specs.Machine.{Machine, word_in, place, upon, work}
use Rattle.engine.specs.Events.{Event, Call, passed, command, sense, put, get, bring, take, finish, reset, stored_at, brought_to, Did}
use Rattle.engine.specs.Makes.{Makes, calling, calling_all}
use Rattle.engine.specs.Faults.{fault_of, parity_cause, protect_cause, raise}
use Rattle.engine.specs.Cycle.{Reference, reading, storing, bringing, marking, refer, parity_checked, checked_store, marked, one_program, one_stolen, one_idle, tell, counted, transfer, channel_of, asking_of, steal, chosen, channel_in, served, turns, offers, cycle, idle_cycle}
use Rattle.engine.specs.Levels.{drop_points}
use Rattle.engine.specs.Plan.{Plan, perform}
use Rattle.controller.specs.Console.{told}
use Rattle.promises.specs.Bill.{passes, telling, tellings, GrowsFairly, tally_of}
use Rattle.promises.proofs.Laws.{PartLaw, Law, CycleLaw, Other, transferred, ended, cycle_law, perform_law}

pub tellings_append : (p : Position) (es fs : List Event) → tellings p (es ++ fs) ≡ tellings p es + tellings p fs
tellings_append p [] fs = omega arith
tellings_append p (e ∷ es) fs = let h = tellings_append p es fs in omega arith

-- what tells no device, and leaves the tally's counts
pub record Uncounted (s : Machine) (es : List Event) (t : Machine) : Type 0 where
  pub counts : tally_of t ≡ tally_of s
  pub silent : (p : Position) → tellings p es ≡ 0

uncounted_more : (s t u : Machine) (es fs : List Event) → Uncounted s es t → Uncounted t fs u → Uncounted s (es ++ fs) u
uncounted_more s t u es fs a b = record {
  counts = b.counts ∙ a.counts;
  silent = λ p. let x = a.silent p in let y = b.silent p in let z = tellings_append p es fs in omega arith;
}

raise_uncounted : (f : Fault) (s : Machine) → tally_of (raise f s) ≡ tally_of s
unfolding raise
raise_uncounted f s = refl

-- a call that is not a cycle's passing
pub passes_none : (c : Call) → Other c → passes c ≡ 0
passes_none passed o = absurd o
passes_none (command area function modifier) o = refl
passes_none (sense area modifier) o = refl
passes_none (put area w) o = refl
passes_none (get area) o = refl
passes_none bring o = refl
passes_none (take w) o = refl
passes_none (finish go_on tell) o = refl
passes_none reset o = refl

upon_same : {X : Type 0} (p q : Position) (x : X) → upon p q x x ≡ x
upon_same First First x = refl
upon_same First Second x = refl
upon_same First Third x = refl
upon_same First Fourth x = refl
upon_same Second First x = refl
upon_same Second Second x = refl
upon_same Second Third x = refl
upon_same Second Fourth x = refl
upon_same Third First x = refl
upon_same Third Second x = refl
upon_same Third Third x = refl
upon_same Third Fourth x = refl
upon_same Fourth First x = refl
upon_same Fourth Second x = refl
upon_same Fourth Third x = refl
upon_same Fourth Fourth x = refl

pub call_silent : (p q : Position) (c : Call) → Other c → upon p q (passes c) 0 ≡ 0
call_silent p q c o = ap (λ (n : ℕ). upon p q n 0) (passes_none c o) ∙ upon_same p q 0

calling_uncounted : (m : Makes) (q : Position) (c : Call) (s : Machine) → Other c → Uncounted s (calling m q c s).events (calling m q c s).machine
unfolding calling
calling_uncounted m q c s o = record { counts = refl; silent = λ p. let h = call_silent p q c o in omega arith }

parity_uncounted : (b : Bool) (by : By) (a : ℕ) (s : Machine) → tally_of (parity_checked b by a s) ≡ tally_of s
parity_uncounted true by a s = refl
parity_uncounted false by a s = raise_uncounted (fault_of by (parity_cause by) a) s

store_uncounted : (b : Bool) (by : By) (a w : ℕ) (e : Event) (s : Machine) → ((p : Position) → telling p e ≡ 0)
    → Uncounted s (checked_store b by a w e s).events (checked_store b by a w e s).machine
store_uncounted true by a w e s h = record { counts = raise_uncounted (fault_of by (protect_cause by) a) s; silent = λ p. refl }
store_uncounted false by a w e s h = record { counts = refl; silent = λ p. let k = h p in omega arith }

marked_uncounted : (b : Bool) (a : ℕ) (on : Bool) (w : ℕ) (s : Machine) → Uncounted s (marked b a on w s).events (marked b a on w s).machine
marked_uncounted true a on w s = record { counts = refl; silent = λ p. refl }
marked_uncounted false a on w s = record { counts = refl; silent = λ p. refl }

pub refer_uncounted : (by : By) (r : Reference) (s : Machine) → Uncounted s (refer by r s).events (refer by r s).machine
unfolding refer
refer_uncounted by (reading a) s = record { counts = parity_uncounted (parity_right (word_in a s)) by (place a s) s; silent = λ p. refl }
refer_uncounted by (storing a w) s = store_uncounted (is_protected (word_in a s)) by (place a s) w (stored_at (place a s)) s (λ p. refl)
refer_uncounted by (bringing a w) s = store_uncounted (is_protected (word_in a s)) by (place a s) w (brought_to (place a s)) s (λ p. refl)
refer_uncounted by (marking a on w) s = marked_uncounted s.processor.books.switches.write_protect (place a s) on w s

uncounted_parts : (m : Makes) → PartLaw m Uncounted
uncounted_parts m = record {
  none = λ s. record { counts = refl; silent = λ p. refl };
  more = uncounted_more;
  works = λ f s. record { counts = refl; silent = λ p. refl };
  raises = λ f s. record { counts = raise_uncounted f s; silent = λ p. refl };
  drops = λ level s. record { counts = refl; silent = λ p. refl };
  calls = calling_uncounted m;
  refers = refer_uncounted;
}

-- a telling counts as it is meant to, and tells each device once
pub record Told (f : Counts → Counts) (s : Machine) (es : List Event) (t : Machine) : Type 0 where
  pub counts : tally_of t ≡ f (tally_of s)
  pub once : (p : Position) → tellings p es ≡ 1

all_told : (m : Makes) (s : Machine) (p : Position) → tellings p (calling_all m passed s).events ≡ 1
unfolding calling
all_told m s First = refl
all_told m s Second = refl
all_told m s Third = refl
all_told m s Fourth = refl

told_counts : (m : Makes) (s : Machine) → tally_of (calling_all m passed s).machine ≡ tally_of s
unfolding calling
told_counts m s = refl

tell_told : (m : Makes) (f : Counts → Counts) (s : Machine) → Told f s (tell m f s).events (tell m f s).machine
unfolding tell
tell_told m f s = record { counts = told_counts m (counted f s); once = all_told m (counted f s) }

-- before and after, the tally's counts grow by what each device is told
pub record Tallied (s : Machine) (es : List Event) (t : Machine) : Type 0 where
  pub adds : (p : Position) → tellings p es + told (tally_of s) ≡ told (tally_of t)

tallied_from : (s t : Machine) (es : List Event) → Uncounted s es t → Tallied s es t
tallied_from s t es u = record { adds = λ p. let x = u.silent p in let y = ap told u.counts in omega arith }

tallied_law : (m : Makes) → Law m Tallied
tallied_law m = record {
  parts = record {
    none = λ s. tallied_from s s [] ((uncounted_parts m).none s);
    more = λ s t u es fs a b. record { adds = λ p. let x = a.adds p in let y = b.adds p in let z = tellings_append p es fs in omega arith };
    works = λ f s. tallied_from s (work f s) [] ((uncounted_parts m).works f s);
    raises = λ f s. tallied_from s (raise f s) [] ((uncounted_parts m).raises f s);
    drops = λ level s. tallied_from s (drop_points level s) [] ((uncounted_parts m).drops level s);
    calls = λ p c s o. tallied_from s _ _ (calling_uncounted m p c s o);
    refers = λ by r s. tallied_from s _ _ (refer_uncounted by r s);
  };
  tells = λ f s o. record { adds = λ p. let t = tell_told m f s in let x = t.once p in let y = ap told t.counts in let z = o (tally_of s) in omega arith };
}

pub perform_tallied : (m : Makes) (p : Plan) (s : Machine) → Tallied s (perform m p s).events (perform m p s).machine
perform_tallied m p s = perform_law Tallied (cycle_law (tallied_law m)) p s

-- a stolen cycle, and the offers before another cycle
steal_counts : (m : Makes) (n : ChannelNumber) (s : Machine) → tally_of (steal m n s).machine ≡ one_stolen (tally_of s)
unfolding steal
steal_counts m n s =
    let d = transfer (channel_of n s) (asking_of m n s) m n s in
    let e = tell m one_stolen d.machine in
    (ended (uncounted_parts m) (channel_of n e.machine) n e.machine).counts
    ∙ (tell_told m one_stolen d.machine).counts
    ∙ ap one_stolen (transferred (uncounted_parts m) (channel_of n s) (asking_of m n s) n s).counts

pub record AtMost (k : ℕ) (s t : Machine) : Type 0 where
  pub program : (tally_of t).program ≡ (tally_of s).program
  pub idle : (tally_of t).idle ≡ (tally_of s).idle
  pub stolen : (tally_of t).stolen ≤ (tally_of s).stolen + k

at_most_more : (k : ℕ) (s t u : Machine) → tally_of t ≡ one_stolen (tally_of s) → AtMost k t u → AtMost (suc k) s u
at_most_more k s t u e h =
    let p = ap (λ (c : Counts). c.program) e in
    let i = ap (λ (c : Counts). c.idle) e in
    let n = ap (λ (c : Counts). c.stolen) e in
    let hp = h.program in
    let hi = h.idle in
    let hn = h.stolen in
    record { program = omega arith; idle = omega arith; stolen = omega (arith, add-one k) }

served_most : (o : Option ℕ) (k : ℕ) (m : Makes) (f : Option ℕ → Machine → Did) → ((b : Option ℕ) (s : Machine) → AtMost k s (f b s).machine) → (s : Machine)
    → AtMost (suc k) s (served o m f s).machine
served_most None k m f h s = record { program = refl; idle = refl; stolen = omega arith }
served_most (Some i) k m f h s =
    let t = (steal m (channel_in i) s).machine in at_most_more k s t (f (Some (i + 1)) t).machine (steal_counts m (channel_in i) s) (h (Some (i + 1)) t)

turns_most : (n : ℕ) (m : Makes) (b : Option ℕ) (s : Machine) → AtMost n s (turns n m b s).machine
turns_most zero m b s = record { program = refl; idle = refl; stolen = omega arith }
turns_most (suc n) m b s = served_most (chosen m b s) n m (turns n m) (turns_most n m) s

pub offers_most : (m : Makes) (s : Machine) → AtMost 3 s (offers m s).machine
unfolding offers
offers_most m s = turns_most 3 m None s

-- so that stolen cycles grow by at most three for each other one
pub record Fairly (s : Machine) (es : List Event) (t : Machine) : Type 0 where
  pub fair : GrowsFairly (tally_of s) (tally_of t)

fairly_from : (s t : Machine) (es : List Event) → tally_of t ≡ tally_of s → Fairly s es t
fairly_from s t es e =
    let p = ap (λ (c : Counts). c.program) e in
    let i = ap (λ (c : Counts). c.idle) e in
    let n = ap (λ (c : Counts). c.stolen) e in
    record { fair = omega arith }

cycle_fairly : (m : Makes) (r : Reference) (s : Machine) → Fairly s (cycle m r s).events (cycle m r s).machine
unfolding cycle
cycle_fairly m r s =
    let d = offers m s in
    let o = offers_most m s in
    let e = refer Program r d.machine in
    let u = (tell_told m one_program e.machine).counts ∙ ap one_program (refer_uncounted Program r d.machine).counts in
    let p = ap (λ (c : Counts). c.program) u in
    let i = ap (λ (c : Counts). c.idle) u in
    let n = ap (λ (c : Counts). c.stolen) u in
    let op = o.program in
    let oi = o.idle in
    let on = o.stolen in
    record { fair = omega arith }

idle_fairly : (m : Makes) (s : Machine) → Fairly s (idle_cycle m s).events (idle_cycle m s).machine
unfolding idle_cycle
idle_fairly m s =
    let d = offers m s in
    let o = offers_most m s in
    let u = (tell_told m one_idle d.machine).counts in
    let p = ap (λ (c : Counts). c.program) u in
    let i = ap (λ (c : Counts). c.idle) u in
    let n = ap (λ (c : Counts). c.stolen) u in
    let op = o.program in
    let oi = o.idle in
    let on = o.stolen in
    record { fair = omega arith }

fairly_law : (m : Makes) → CycleLaw m Fairly
fairly_law m = record {
  parts = record {
    none = λ s. fairly_from s s [] refl;
    more = λ s t u es fs a b. record { fair = let x = a.fair in let y = b.fair in omega arith };
    works = λ f s. fairly_from s (work f s) [] refl;
    raises = λ f s. fairly_from s (raise f s) [] (raise_uncounted f s);
    drops = λ level s. fairly_from s (drop_points level s) [] refl;
    calls = λ p c s o. fairly_from s _ _ (calling_uncounted m p c s o).counts;
    refers = λ by r s. fairly_from s _ _ (refer_uncounted by r s).counts;
  };
  cycles = cycle_fairly m;
  idles = idle_fairly m;
}

pub perform_fairly : (m : Makes) (p : Plan) (s : Machine) → Fairly s (perform m p s).events (perform m p s).machine
perform_fairly m p s = perform_law Fairly (fairly_law m) p s
