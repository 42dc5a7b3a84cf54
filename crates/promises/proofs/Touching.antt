-- A word of core changes only where a store is told of, and the core's length never.
use Rattle.std.proofs.Common.{◌≡◌, ℕ, zero, suc, ◌+◌, ◌<◌, ◌≤◌, Bool, true, false, cond, ◌||◌, eqb, ◌⊎◌, List, [], ◌∷◌, ◌++◌, map, length, get_or, set, sym, refl, ap, ◌∙◌, subst, inl, inr, true≢false, arith, length-set, get_or-set_other, eq-eqb}
use lib.ListN.{length-map, get_or-eq_default}
use borrow.Author.Tests.{eqb-false}
use Rattle.std.proofs.lemmas.List.{get_or-map}
use Rattle.std.proofs.lemmas.Bool.{cases_lt}
use Rattle.storage.specs.Word.{data_of, is_protected, parity_right, word_of, stored}
use Rattle.works.specs.declared.fault.Fault.{Fault}
use Rattle.works.specs.declared.panel.Counts.{Counts}
use Rattle.engine.specs.declared.place.By.{By}
use Rattle.engine.specs.declared.place.Position.{Position}
use Rattle.engine.specs.Machine.{Machine, word_in, place, work}
use Rattle.engine.specs.Events.{Event, Call, stored_at, brought_to}
use Rattle.engine.specs.Makes.{Makes, calling, calling_all}
use Rattle.engine.specs.Faults.{fault_of, parity_cause, protect_cause, raise}
use Rattle.engine.specs.Cycle.{Reference, reading, storing, bringing, marking, refer, parity_checked, checked_store, marked, tell}
use Rattle.engine.specs.Levels.{drop_points}
use Rattle.engine.specs.Plan.{Plan, perform}
use Rattle.engine.specs.Step.{step_plan, begun, step}
use Rattle.controller.specs.Console.{is_cleared, cleared, swept}
use Rattle.promises.specs.Ties.{stores_at, touched, CoreTied}
use Rattle.promises.proofs.Laws.{Law, cycle_law, perform_law}

pub touched_append : (a : ℕ) (es fs : List Event) → touched a (es ++ fs) ≡ (touched a es || touched a fs)
touched_append a [] fs = refl
touched_append a (e ∷ es) fs = ap (λ (b : Bool). stores_at a e || b) (touched_append a es fs) ∙ either (stores_at a e) (touched a es) (touched a fs)
  where
    either : (x y z : Bool) → (x || (y || z)) ≡ ((x || y) || z)
    either true y z = refl
    either false y z = refl

neither : (x y : Bool) → (x || y) ≡ false → (x ≡ false) × (y ≡ false)
neither true y e = absurd (true≢false e)
neither false y e = (refl, e)

pub core_more : (s t u : Machine) (es fs : List Event) → CoreTied s es t → CoreTied t fs u → CoreTied s (es ++ fs) u
core_more s t u es fs p q = record {
  words = λ a k. let n = neither (touched a es) (touched a fs) (sym (touched_append a es fs) ∙ k) in q.words a n.1 ∙ p.words a n.0;
  size = q.size ∙ p.size;
}

-- where the core is the same
pub core_same : (s t : Machine) (es : List Event) → t.core ≡ s.core → CoreTied s es t
core_same s t es e = record { words = λ a k. ap (λ (c : List ℕ). get_or c a 0) e; size = ap length e }

raise_core : (f : Fault) (s : Machine) → (raise f s).core ≡ s.core
unfolding raise
raise_core f s = refl

calling_core : (m : Makes) (p : Position) (c : Call) (s : Machine) → (calling m p c s).machine.core ≡ s.core
unfolding calling
calling_core m p c s = refl

tell_core : (m : Makes) (f : Counts → Counts) (s : Machine) → (tell m f s).machine.core ≡ s.core
unfolding tell calling
tell_core m f s = refl

pub all_core : (m : Makes) (c : Call) (s : Machine) → (calling_all m c s).machine.core ≡ s.core
unfolding calling
all_core m c s = refl

-- one store
set_tied : (s t : Machine) (e : Event) (x v : ℕ) → ((a : ℕ) → stores_at a e ≡ eqb a x) → t.core ≡ set s.core x v → CoreTied s (e ∷ []) t
set_tied s t e x v k h = record {
  words = λ a q. ap (λ (c : List ℕ). get_or c a 0) h ∙ get_or-set_other s.core x a v 0 (eqb-false a x (sym (k a) ∙ (neither (stores_at a e) false q).0));
  size = ap length h ∙ length-set s.core x v;
}

parity_core : (b : Bool) (by : By) (a : ℕ) (s : Machine) → (parity_checked b by a s).core ≡ s.core
parity_core true by a s = refl
parity_core false by a s = raise_core (fault_of by (parity_cause by) a) s

store_core : (b : Bool) (by : By) (a w : ℕ) (e : Event) (s : Machine) → ((x : ℕ) → stores_at x e ≡ eqb x a) → CoreTied s (checked_store b by a w e s).events (checked_store b by a w e s).machine
store_core true by a w e s h = core_same s _ [] (raise_core (fault_of by (protect_cause by) a) s)
store_core false by a w e s h = set_tied s (checked_store false by a w e s).machine e a (stored (get_or s.core a 0) (data_of w)) h refl

mark_core : (b : Bool) (a : ℕ) (on : Bool) (w : ℕ) (s : Machine) → CoreTied s (marked b a on w s).events (marked b a on w s).machine
mark_core true a on w s = set_tied s (marked true a on w s).machine (stored_at a) a (word_of (data_of w) on) (λ x. refl) refl
mark_core false a on w s = core_same s s [] refl

pub refer_core : (by : By) (r : Reference) (s : Machine) → CoreTied s (refer by r s).events (refer by r s).machine
unfolding refer
refer_core by (reading a) s = core_same s _ _ (parity_core (parity_right (word_in a s)) by (place a s) s)
refer_core by (storing a w) s = store_core (is_protected (word_in a s)) by (place a s) w (stored_at (place a s)) s (λ x. refl)
refer_core by (bringing a w) s = store_core (is_protected (word_in a s)) by (place a s) w (brought_to (place a s)) s (λ x. refl)
refer_core by (marking a on w) s = mark_core s.processor.books.switches.write_protect (place a s) on w s

core_law : (m : Makes) → Law m CoreTied
core_law m = record {
  parts = record {
    none = λ s. core_same s s [] refl;
    more = core_more;
    works = λ f s. core_same s (work f s) [] refl;
    raises = λ f s. core_same s (raise f s) [] (raise_core f s);
    drops = λ level s. core_same s (drop_points level s) [] refl;
    calls = λ p c s o. core_same s _ _ (calling_core m p c s);
    refers = refer_core;
  };
  tells = λ f s o. core_same s _ _ (tell_core m f s);
}

pub perform_core : (m : Makes) (p : Plan) (s : Machine) → CoreTied s (perform m p s).events (perform m p s).machine
perform_core m p s = perform_law CoreTied (cycle_law (core_law m)) p s

pub step_core : (m : Makes) (s : Machine) → CoreTied s (step m s).events (step m s).machine
unfolding step
step_core m s =
    let d = perform m (step_plan m s) (begun s) in
    core_more s d.machine _ d.events [] (core_more s (begun s) d.machine [] d.events (core_same s (begun s) [] refl) (perform_core m (step_plan m s) (begun s))) (core_same d.machine _ [] refl)

-- clear told Run: a word that no store is told of is left alone
either_touched : (x : Bool) (a n : ℕ) (es : List Event) → touched a (cond x (stored_at n ∷ es) es) ≡ false → touched a es ≡ false
either_touched true a n es e = (neither (eqb a n) (touched a es) e).1
either_touched false a n es e = e

swept_here : (x : Bool) (n : ℕ) (es : List Event) → touched n (cond x (stored_at n ∷ es) es) ≡ false → x ≡ false
swept_here true n es e = absurd (true≢false (sym (eq-eqb n n refl) ∙ (neither (eqb n n) (touched n es) e).0))
swept_here false n es e = refl

swept_left : (b : Bool) (n : ℕ) (c : List ℕ) (k : ℕ) → k < length c → touched (n + k) (swept b n c) ≡ false → is_cleared b (get_or c k 0) ≡ false
swept_left b n [] k lt e = absurd (omega arith)
swept_left b n (w ∷ ws) zero lt e =
    let z : n + 0 ≡ n = omega arith in swept_here (is_cleared b w) n (swept b (n + 1) ws) (subst (λ (x : ℕ). touched x (swept b n (w ∷ ws)) ≡ false) z e)
swept_left b n (w ∷ ws) (suc k) lt e =
    let z : n + suc k ≡ n + 1 + k = omega arith in
    swept_left b (n + 1) ws k (omega arith)
    (subst (λ (x : ℕ). touched x (swept b (n + 1) ws) ≡ false) z (either_touched (is_cleared b w) (n + suc k) n (swept b (n + 1) ws) e))

pub clear_core : (s t : Machine) (b : Bool) (x : ℕ) → t.core ≡ map (cleared b x) s.core → CoreTied s (swept b 0 s.core) t
clear_core s t b x h = record { words = λ a k. ap (λ (c : List ℕ). get_or c a 0) h ∙ by a k (cases_lt a (length s.core)); size = ap length h ∙ length-map s.core (cleared b x) }
  where
    by : (a : ℕ) → touched a (swept b 0 s.core) ≡ false → (a < length s.core) ⊎ (length s.core ≤ a) → get_or (map (cleared b x) s.core) a 0 ≡ get_or s.core a 0
    by a k (inl lt) =
        let z : a ≡ 0 + a = omega arith in
        let left = swept_left b 0 s.core a lt (subst (λ (y : ℕ). touched y (swept b 0 s.core) ≡ false) z k) in
        get_or-map (cleared b x) s.core a 0 0 lt ∙ ap (λ (y : Bool). cond y (word_of (data_of x) false) (get_or s.core a 0)) left
    by a k (inr ge) =
        get_or-eq_default (map (cleared b x) s.core) 0 (subst (λ (n : ℕ). n ≤ a) (sym (length-map s.core (cleared b x))) ge) ∙ sym (get_or-eq_default s.core 0 ge)
