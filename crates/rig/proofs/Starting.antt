-- A start after an accepted opening.
use Rattle.std.proofs.Common.{◌≡◌, true, List, ℕ, length, Ok, Err, Result, sym, refl, ap, ◌∙◌}
use Rattle.refusal.specs.declared.Refusal.{Refusal}
use Rattle.works.specs.declared.panel.RunState.TheVariants.{Running}
use Rattle.engine.specs.declared.state.Wiring.{Wiring}
use Rattle.engine.specs.Machine.{Machine, Dev, with_run, work}
use Rattle.engine.specs.Makes.{Makes}
use Rattle.engine.specs.Step.{lent_right}
use Rattle.controller.specs.declared.call.Outcome.TheVariants.{Done as Accepted}
use Rattle.controller.specs.declared.call.Call.TheVariants.{Start}
use Rattle.controller.specs.Opening.{opening, opened_machine}
use Rattle.controller.specs.Console.{call}
use Rattle.controller.specs.Held.{plainly}
use Rattle.controller.proofs.Entering.{right_answer, right_left}
use Rattle.controller.proofs.Opened.{opened_right}

plain : (r : Result (Unit {0}) Refusal) → plainly r ≡ Ok Accepted → r ≡ Ok tt
plain (Ok u) e = refl
plain (Err q) e = cc

module _ (m : Makes) (core : List ℕ) (w : Wiring) (a b c d : Dev) (s : Machine) (o : opening (length core) w ≡ Ok tt) (e : s ≡ opened_machine core w a b c d) where
  lent : lent_right s ≡ true
  lent = ap lent_right e ∙ opened_right core w a b c d o

  pub start_answered : (r : Result (Unit {0}) Refusal) → plainly r ≡ (call m Start s).answer → r ≡ Ok tt
  start_answered r k = plain r (k ∙ sym (right_answer m s Start lent))

  pub start_left : (t : Machine) → t ≡ (call m Start s).machine → t ≡ work (with_run Running) (opened_machine core w a b c d)
  start_left t k = k ∙ sym (right_left m s Start lent) ∙ ap (work (with_run Running)) e

pub not_refused : (r : Result (Unit {0}) Refusal) (q : Refusal) → r ≡ Err q → r ≡ Ok tt → ⊥
not_refused r q e k = cc
