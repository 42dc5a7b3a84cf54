-- No plan touches the books, and with the write-protect switch at No none touches a protected word.
use Rattle.std.proofs.Common.{◌≡◌, ℕ, Bool, true, false, List, [], ◌++◌, get_or, set, sym, refl, ap, ◌∙◌, subst, true≢false, get_or-set_other}
use Rattle.storage.specs.Word.{data_of, is_protected, parity_right, stored}
use Rattle.works.specs.declared.fault.Fault.{Fault}
use Rattle.works.specs.declared.panel.Counts.{Counts}
use Rattle.engine.specs.declared.place.By.{By}
use Rattle.engine.specs.declared.place.Position.{Position}
use Rattle.engine.specs.declared.state.Books.{Books}
use Rattle.engine.specs.Machine.{Machine, word_in, place, work}
use Rattle.engine.specs.Events.{Event, Call, stored_at, brought_to}
use Rattle.engine.specs.Makes.{Makes, calling}
use Rattle.engine.specs.Faults.{fault_of, parity_cause, protect_cause, raise}
use Rattle.engine.specs.Cycle.{Reference, reading, storing, bringing, marking, refer, parity_checked, checked_store, marked, tell}
use Rattle.engine.specs.Levels.{drop_points}
use Rattle.engine.specs.Plan.{Plan, perform}
use Rattle.promises.specs.Protection.{Stands, at_yes}
use Rattle.promises.proofs.Laws.{Law, cycle_law, perform_law}

pub stands_same : (c : List ℕ) → Stands c c
stands_same c = record { words = λ a h. refl }

pub stands_more : {c d e : List ℕ} → Stands c d → Stands d e → Stands c e
stands_more p q = record { words = λ a h. q.words a (ap is_protected (p.words a h) ∙ h) ∙ p.words a h }

-- a store where an unprotected word stands
pub set_stands : (c : List ℕ) (a v : ℕ) → is_protected (get_or c a 0) ≡ false → Stands c (set c a v)
set_stands c a v e = record { words = λ b h. get_or-set_other c a b v 0 (λ k. true≢false (sym h ∙ ap (λ (x : ℕ). is_protected (get_or c x 0)) k ∙ e)) }

pub record Firm (s : Machine) (es : List Event) (t : Machine) : Type 0 where
  pub books : t.processor.books ≡ s.processor.books
  pub stands : at_yes s ≡ false → Stands s.core t.core

firm_more : (s t u : Machine) (es fs : List Event) → Firm s es t → Firm t fs u → Firm s (es ++ fs) u
firm_more s t u es fs p q = record {
  books = q.books ∙ p.books;
  stands = λ e. stands_more (p.stands e) (q.stands (ap (λ (b : Books). b.switches.write_protect) p.books ∙ e));
}

-- where books and core are the same
firm_same : (s t : Machine) (es : List Event) → t.processor.books ≡ s.processor.books → t.core ≡ s.core → Firm s es t
firm_same s t es e c = record { books = e; stands = λ k. subst (λ (x : List ℕ). Stands s.core x) (sym c) (stands_same s.core) }

raise_firm : (f : Fault) (s : Machine) (es : List Event) → Firm s es (raise f s)
unfolding raise
raise_firm f s es = firm_same s (raise f s) es refl refl

calling_firm : (m : Makes) (q : Position) (c : Call) (s : Machine) → Firm s (calling m q c s).events (calling m q c s).machine
unfolding calling
calling_firm m q c s = firm_same s _ _ refl refl

tell_firm : (m : Makes) (f : Counts → Counts) (s : Machine) → Firm s (tell m f s).events (tell m f s).machine
unfolding tell calling
tell_firm m f s = firm_same s _ _ refl refl

parity_firm : (b : Bool) (by : By) (a : ℕ) (s : Machine) (es : List Event) → Firm s es (parity_checked b by a s)
parity_firm true by a s es = firm_same s s es refl refl
parity_firm false by a s es = raise_firm (fault_of by (parity_cause by) a) s es

store_firm : (b : Bool) (by : By) (a w : ℕ) (e : Event) (s : Machine) → is_protected (get_or s.core a 0) ≡ b
    → Firm s (checked_store b by a w e s).events (checked_store b by a w e s).machine
store_firm true by a w e s h = raise_firm (fault_of by (protect_cause by) a) s []
store_firm false by a w e s h = record { books = refl; stands = λ k. set_stands s.core a (stored (get_or s.core a 0) (data_of w)) h }

mark_firm : (b : Bool) (a : ℕ) (on : Bool) (w : ℕ) (s : Machine) → at_yes s ≡ b → Firm s (marked b a on w s).events (marked b a on w s).machine
mark_firm true a on w s h = record { books = refl; stands = λ k. absurd (true≢false (sym h ∙ k)) }
mark_firm false a on w s h = firm_same s s [] refl refl

pub refer_firm : (by : By) (r : Reference) (s : Machine) → Firm s (refer by r s).events (refer by r s).machine
unfolding refer
refer_firm by (reading a) s = parity_firm (parity_right (word_in a s)) by (place a s) s _
refer_firm by (storing a w) s = store_firm (is_protected (word_in a s)) by (place a s) w (stored_at (place a s)) s refl
refer_firm by (bringing a w) s = store_firm (is_protected (word_in a s)) by (place a s) w (brought_to (place a s)) s refl
refer_firm by (marking a on w) s = mark_firm (at_yes s) (place a s) on w s refl

firm_law : (m : Makes) → Law m Firm
firm_law m = record {
  parts = record {
    none = λ s. firm_same s s [] refl refl;
    more = firm_more;
    works = λ f s. firm_same s (work f s) [] refl refl;
    raises = λ f s. raise_firm f s [];
    drops = λ level s. firm_same s (drop_points level s) [] refl refl;
    calls = λ p c s o. calling_firm m p c s;
    refers = refer_firm;
  };
  tells = λ f s o. tell_firm m f s;
}

pub perform_firm : (m : Makes) (p : Plan) (s : Machine) → Firm s (perform m p s).events (perform m p s).machine
perform_firm m p s = perform_law Firm (cycle_law (firm_law m)) p s
