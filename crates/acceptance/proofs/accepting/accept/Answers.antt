use Rattle.acceptance.proofs.Promised.{words_stayed, bill_added, unread_did_not_matter}
use Rattle.acceptance.proofs.accepting.accept.Goals as goal

pub returns-clause-first_words_stay : goal.returns-clause-first_words_stay
returns-clause-first_words_stay g c = words_stayed _ _ _ _ c.side-one.ensures.run.machine

pub returns-clause-second_words_stay : goal.returns-clause-second_words_stay
returns-clause-second_words_stay g c = words_stayed _ _ _ _ c.side-two.ensures.run.machine

pub returns-clause-unread_do_not_matter : goal.returns-clause-unread_do_not_matter
returns-clause-unread_do_not_matter g c = unread_did_not_matter _ _ _ _ _ _ _ _ c.side-one.ensures.run c.side-two.ensures.run

pub returns-clause-first_bill_adds_up : goal.returns-clause-first_bill_adds_up
returns-clause-first_bill_adds_up g c = bill_added _ _ _ _ _ _ _ _ _ c.side-one.ensures.run.machine

pub returns-clause-second_bill_adds_up : goal.returns-clause-second_bill_adds_up
returns-clause-second_bill_adds_up g c = bill_added _ _ _ _ _ _ _ _ _ c.side-two.ensures.run.machine
