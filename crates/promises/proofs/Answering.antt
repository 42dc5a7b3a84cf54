-- What counts answer and steps report; and what no call changes: the core's length, the size, whether opening was accepted.
use Rattle.std.proofs.Common.{◌≡◌, ◌≢◌, ℕ, Bool, true, false, ◌&&◌, eqb, List, [], ◌∷◌, ◌++◌, length, Ok, Err, sym, refl, ap, ◌∙◌, ap₂, true≢false, append_assoc, append-nil}
use lib.ListN.{length-map}
use Rattle.refusal.specs.declared.Refusal.{Refusal}
use Rattle.refusal.specs.declared.Refusal.TheVariants.{Length}
use Rattle.engine.specs.declared.place.Position.{Position}
use Rattle.engine.specs.declared.state.Books.{Books}
use Rattle.engine.specs.declared.state.Wiring.{Wiring}
use Rattle.engine.specs.Machine.{Machine, Dev, words_of_size, with_processor}
use Rattle.engine.specs.Events.{Event, reset}
use Rattle.engine.specs.Makes.{Makes}
use Rattle.engine.specs.Cycle.{storing}
use Rattle.engine.specs.declared.place.By.TheVariants.{Program}
use Rattle.controller.specs.declared.call.Outcome.TheVariants.{Done as Accepted, Stepped, Displayed, Found, Counted}
use Rattle.controller.specs.declared.call.Bill.{Bill}
use Rattle.controller.specs.declared.call.Call.{Call}
use Rattle.controller.specs.declared.call.ClearMode.{ClearMode}
use Rattle.controller.specs.declared.call.ClearMode.TheVariants.{Run as ClearRun, Display as ClearDisplay}
use Rattle.controller.specs.declared.call.Entry.{Entry}
use Rattle.controller.specs.declared.call.Lent.{Lent}
use Rattle.controller.specs.declared.call.Lent.TheVariants.{Opened, Other}
use Rattle.engine.specs.declared.state.Report.{Report}
use Rattle.controller.proofs.Opened.{opened_right as one_right}
use Rattle.controller.specs.Opening.{opening, is_accepted, opened_machine}
use Rattle.controller.specs.Console.{Answer, Done, refuse, only_if, told, at_rest, bill_of, data_switches, i_of, cleared, unprotected, clearing, made_call, lent_right, call}
use Rattle.controller.specs.Run.{lending, enter, run, after, events_of}
use Rattle.promises.specs.Bill.{tellings, totals_of, restarted_by_count, since_count, NoCount}
use Rattle.promises.specs.Protection.{at_yes}
use Rattle.promises.proofs.Firm.{refer_firm}
use Rattle.promises.proofs.Touching.{all_core, refer_core, step_core}
use Rattle.promises.proofs.Steps.{step_tally, step_books, all_books}
use Rattle.promises.proofs.Calls.{CallLaw, call_law}

-- the bill in an answer, if it is one
bill_in : Bill → Answer → Bill
bill_in d (Ok Accepted) = d
bill_in d (Ok (Stepped r)) = d
bill_in d (Ok (Displayed w)) = d
bill_in d (Ok (Found a)) = d
bill_in d (Ok (Counted b)) = b
bill_in d (Err r) = d

is_bill : Answer → Bool
is_bill (Ok Accepted) = false
is_bill (Ok (Stepped r)) = false
is_bill (Ok (Displayed w)) = false
is_bill (Ok (Found a)) = false
is_bill (Ok (Counted b)) = true
is_bill (Err r) = false

report_in : Report → Answer → Report
report_in d (Ok Accepted) = d
report_in d (Ok (Stepped r)) = r
report_in d (Ok (Displayed w)) = d
report_in d (Ok (Found a)) = d
report_in d (Ok (Counted b)) = d
report_in d (Err r) = d

is_report : Answer → Bool
is_report (Ok Accepted) = false
is_report (Ok (Stepped r)) = true
is_report (Ok (Displayed w)) = false
is_report (Ok (Found a)) = false
is_report (Ok (Counted b)) = false
is_report (Err r) = false

pub record AnswersRight (s : Machine) (d : Done) : Type 0 where
  pub bill : (b : Bill) → d.answer ≡ Ok (Counted b) → b ≡ bill_of (totals_of s)
  pub report : (r : Report) → d.answer ≡ Ok (Stepped r) → (p : Position) → tellings p d.events ≡ told r.counts

-- an answer that is neither
neither : (s : Machine) (d : Done) → is_bill d.answer ≡ false → is_report d.answer ≡ false → AnswersRight s d
unfolding is_bill is_report
neither s d x y = record {
  bill = λ b e. absurd (true≢false (sym (ap is_bill e) ∙ x));
  report = λ r e p. absurd (true≢false (sym (ap is_report e) ∙ y));
}

answers_calls : (m : Makes) → CallLaw m AnswersRight
unfolding is_bill is_report bill_in report_in
answers_calls m = record {
  refuses = λ r s. neither s _ refl refl;
  steps = λ s. record {
    bill = λ b e. absurd (true≢false (sym (ap is_bill e)));
    report = λ r e p. step_tally m s p ∙ ap (λ (x : Report). told x.counts) (ap (report_in r) e);
  };
  runs = λ x s. neither s _ refl refl;
  stops = λ s. neither s _ refl refl;
  switches = λ w s. neither s _ refl refl;
  latches = λ level bit s. neither s _ refl refl;
  loads_i = λ s. neither s _ refl refl;
  loads = λ s. neither s _ refl refl;
  displays = λ s. neither s _ refl refl;
  clears = λ mode s. neither s _ refl refl;
  searches = λ s. neither s _ refl refl;
  counts = λ s. record { bill = λ b e. sym (ap (bill_in b) e); report = λ r e p. absurd (true≢false (sym (ap is_report e))) };
}

pub enter_answers : (m : Makes) (l : Lent) (c : Call) (s : Machine) → AnswersRight s (lending l m c s)
enter_answers m Opened c s = call_law (answers_calls m) c s
enter_answers m Other c s = (answers_calls m).refuses Length s

-- the events since the last accepted count are the tail of all events
billed_tail : (a : Answer) (ys : List Event) → (xs : List Event) × (ys ≡ xs ++ restarted_by_count a ys)
billed_tail (Ok Accepted) ys = ([], refl)
billed_tail (Ok (Stepped r)) ys = ([], refl)
billed_tail (Ok (Displayed w)) ys = ([], refl)
billed_tail (Ok (Found a)) ys = ([], refl)
billed_tail (Ok (Counted b)) ys = (ys, sym (append-nil ys))
billed_tail (Err r) ys = ([], refl)

pub run_tail : (m : Makes) (es : List Entry) (s : Machine) (so_far : List Event) → (xs : List Event) × (so_far ++ events_of (run m es s) ≡ xs ++ since_count m es s so_far)
run_tail m [] s so_far = ([], append-nil so_far)
run_tail m (e ∷ es) s so_far =
    let d = enter m e s in
    let ys = so_far ++ d.events in
    let a = billed_tail d.answer ys in
    let b = run_tail m es d.machine (restarted_by_count d.answer ys) in (
      a.0 ++ b.0,
      sym (append_assoc so_far d.events (events_of (run m es d.machine)))
          ∙ ap (λ (z : List Event). z ++ events_of (run m es d.machine)) a.1
          ∙ append_assoc a.0 (restarted_by_count d.answer ys) (events_of (run m es d.machine))
          ∙ ap (λ (z : List Event). a.0 ++ z) b.1
          ∙ sym (append_assoc a.0 b.0 (since_count m es d.machine (restarted_by_count d.answer ys))),
    )

-- where no entry is answered with a bill, they are all events
none_restarts : (a : Answer) (ys : List Event) → ((b : Bill) → a ≢ Ok (Counted b)) → restarted_by_count a ys ≡ ys
none_restarts (Ok Accepted) ys h = refl
none_restarts (Ok (Stepped r)) ys h = refl
none_restarts (Ok (Displayed w)) ys h = refl
none_restarts (Ok (Found a)) ys h = refl
none_restarts (Ok (Counted b)) ys h = absurd (h b refl)
none_restarts (Err r) ys h = refl

pub since_none : (m : Makes) (es : List Entry) (s : Machine) (so_far : List Event) → NoCount m es s → since_count m es s so_far ≡ so_far ++ events_of (run m es s)
since_none m [] s so_far h = sym (append-nil so_far)
since_none m (e ∷ es) s so_far h =
    let d = enter m e s in
    ap (since_count m es d.machine) (none_restarts d.answer (so_far ++ d.events) h.0)
    ∙ since_none m es d.machine (so_far ++ d.events) h.1
    ∙ append_assoc so_far d.events (events_of (run m es d.machine))

-- what no call changes
pub record SameOpening (s t : Machine) : Type 0 where
  pub accepted : t.processor.books.accepted ≡ s.processor.books.accepted
  pub size : t.processor.books.size ≡ s.processor.books.size
  pub length : lib.ListN.length t.core ≡ lib.ListN.length s.core

books_opening : (s t : Machine) → t.processor.books ≡ s.processor.books → lib.ListN.length t.core ≡ lib.ListN.length s.core → SameOpening s t
books_opening s t b l = record { accepted = ap (λ (x : Books). x.accepted) b; size = ap (λ (x : Books). x.size) b; length = l }

plain_opening : (s t : Machine) → t.processor.books.accepted ≡ s.processor.books.accepted → t.processor.books.size ≡ s.processor.books.size → t.core ≡ s.core → SameOpening s t
plain_opening s t a b c = record { accepted = a; size = b; length = ap lib.ListN.length c }

clear_opening : (mode : ClearMode) (s : Machine) → SameOpening s (clearing mode (at_yes s) s).machine
clear_opening ClearRun s = record { accepted = refl; size = refl; length = length-map s.core (cleared (at_yes s) (data_switches s)) }
clear_opening ClearDisplay s = record { accepted = refl; size = refl; length = length-map s.core (unprotected (at_yes s)) }

opening_calls : (m : Makes) → CallLaw m (λ s d. SameOpening s d.machine)
opening_calls m = record {
  refuses = λ r s. plain_opening s s refl refl refl;
  steps = λ s. record { accepted = (step_books m s).0; size = (step_books m s).1; length = (step_core m s).size };
  runs = λ x s. plain_opening s _ refl refl refl;
  stops = λ s. let t = with_processor (at_rest s.processor) s in books_opening s _ (all_books m reset t) (ap lib.ListN.length (all_core m reset t));
  switches = λ w s. plain_opening s _ refl refl refl;
  latches = λ level bit s. plain_opening s _ refl refl refl;
  loads_i = λ s. plain_opening s _ refl refl refl;
  loads = λ s. books_opening s _ (refer_firm Program (storing (i_of s) (data_switches s)) s).books (refer_core Program (storing (i_of s) (data_switches s)) s).size;
  displays = λ s. plain_opening s _ refl refl refl;
  clears = clear_opening;
  searches = λ s. plain_opening s s refl refl refl;
  counts = λ s. plain_opening s _ refl refl refl;
}

pub call_opening : (m : Makes) (c : Call) (s : Machine) → SameOpening s (call m c s).machine
call_opening m c s = call_law (opening_calls m) c s

enter_opening : (m : Makes) (l : Lent) (c : Call) (s : Machine) → SameOpening s (lending l m c s).machine
enter_opening m Opened c s = call_opening m c s
enter_opening m Other c s = plain_opening s s refl refl refl

run_opening : (m : Makes) (es : List Entry) (s : Machine) → SameOpening s (after m es s)
run_opening m [] s = plain_opening s s refl refl refl
run_opening m (e ∷ es) s =
    let a = enter_opening m e.lent e.call s in
    let b = run_opening m es (enter m e s).machine in
    record { accepted = b.accepted ∙ a.accepted; size = b.size ∙ a.size; length = b.length ∙ a.length }

lent_same : (s t : Machine) → SameOpening s t → lent_right t ≡ lent_right s
lent_same s t h = ap₂ (λ (b : Bool) (x : Bool). b && x) h.accepted (ap₂ (λ (n k : ℕ). eqb n k) h.length (ap words_of_size h.size))

pub opened_right : (m : Makes) (es : List Entry) (core : List ℕ) (w : Wiring) (a b c d : Dev) → opening (length core) w ≡ Ok tt → lent_right (after m es (opened_machine core w a b c d)) ≡ true
opened_right m es core w a b c d e =
    let s = opened_machine core w a b c d in
    lent_same s (after m es s) (run_opening m es s) ∙ one_right core w a b c d e

-- after a refused opening
none_accepted : (s : Machine) → s.processor.books.accepted ≡ false → lent_right s ≡ false
none_accepted s e = ap (λ (x : Bool). x && eqb (length s.core) (words_of_size s.processor.books.size)) e

refused_enter : (m : Makes) (l : Lent) (c : Call) (s : Machine) → s.processor.books.accepted ≡ false → lending l m c s ≡ refuse Length s
unfolding call
refused_enter m Opened c s e = ap (λ (b : Bool). only_if b Length (made_call m c) s) (none_accepted s e)
refused_enter m Other c s e = refl

pub opening_refused : (m : Makes) (es : List Entry) (core : List ℕ) (w : Wiring) (a b c d : Dev) (r : Refusal) → opening (length core) w ≡ Err r
    → (e : Entry) → enter m e (after m es (opened_machine core w a b c d)) ≡ refuse Length (after m es (opened_machine core w a b c d))
opening_refused m es core w a b c d r k e =
    let s = opened_machine core w a b c d in
    refused_enter m e.lent e.call (after m es s) ((run_opening m es s).accepted ∙ ap is_accepted k)
