-- The promises of a run, said of what is left after it.
use Rattle.std.proofs.Common.{◌≡◌, List, ℕ, length, sym, ap, subst, ◌∙◌}
use Rattle.std.specs.Prelude.{slice_index}
use Rattle.engine.specs.declared.place.Position.{Position}
use Rattle.engine.specs.declared.state.Processor.{Processor}
use Rattle.engine.specs.declared.state.Wiring.{Wiring}
use Rattle.engine.specs.Machine.{Machine, Dev, dev_at}
use Rattle.engine.specs.Makes.{Makes}
use Rattle.controller.specs.declared.call.Entry.{Entry}
use Rattle.controller.specs.Opening.{opened_machine}
use Rattle.controller.specs.Console.{Answer}
use Rattle.controller.specs.Run.{after}
use Rattle.promises.proofs.Runs.{protected_words_stay, bill_adds_up, unread_do_not_matter}
use Rattle.acceptance.specs.Accepted.{IsTheRun, ProtectedWordsStayed, UnreadDidNotMatter, BillAddedUp}

pub words_stayed : (m : Makes) (es : List Entry) (s left : Machine) → left ≡ after m es s → ProtectedWordsStayed m es s left
words_stayed m es s left e =
    let p = protected_words_stay m es s in
    subst (ProtectedWordsStayed m es s) (sym e) (record { since_left_yes = p.since_left_yes; since_any_call = p.since_any_call })

pub bill_added : (m : Makes) (es : List Entry) (core : List ℕ) (w : Wiring) (a b c d : Dev) (left : Machine) → left ≡ after m es (opened_machine core w a b c d)
    → BillAddedUp m es (opened_machine core w a b c d) left
bill_added m es core w a b c d left e =
    let p = bill_adds_up m es core w a b c d in
    subst (BillAddedUp m es (opened_machine core w a b c d)) (sym e)
    (record { adds = p.adds; fair = p.fair; counts = λ before rest x bill q k. (bill_adds_up m before core w a b c d).answered x bill k })

pub unread_did_not_matter : (m : Makes) (es : List Entry) (s t : Machine) (first second : List Answer) (left right : Machine) → IsTheRun m es s first left → IsTheRun m es t second right
    → UnreadDidNotMatter m es s t first second left right
unread_did_not_matter m es s t first second left right p q twins unread =
    let u = unread_do_not_matter m es s t twins unread in
    record {
      answers = p.answers ∙ u.answers ∙ sym q.answers;
      processor = ap (λ (x : Machine). x.processor) p.machine ∙ u.processor ∙ sym (ap (λ (x : Machine). x.processor) q.machine);
      control = λ n. ap (λ (x : Machine). (dev_at n x).control) p.machine ∙ u.control n ∙ sym (ap (λ (x : Machine). (dev_at n x).control) q.machine);
      handed = u.handed;
      size = ap (λ (x : Machine). length x.core) p.machine ∙ u.size ∙ sym (ap (λ (x : Machine). length x.core) q.machine);
      words = λ a k. ap (λ (x : Machine). slice_index x.core a) p.machine ∙ u.words a k ∙ sym (ap (λ (x : Machine). slice_index x.core a) q.machine);
    }
