use Rattle.std.proofs.Common.{ℕ, Ok, refl, ap}
use Rattle.storage.specs.Word.{eighteen}
use Rattle.engine.specs.Instructions.{advanced}
use Rattle.controller.specs.Console.{displaying}
use Rattle.controller.specs.Held.{displayed, held}
use Rattle.controller.proofs.Entering.{wrong, running, stopped}
use Rattle.controller.proofs.ByHand.{fits_by, i_changed, at_i_word}
use Rattle.controller.proofs.controller.Controller.display.Goals as goal

pub returns-in_err-check_lent : goal.returns-in_err-check_lent
returns-in_err-check_lent g c = wrong displayed c.from_residual.result _ c.from_residual.ensures.1 refl c.in_err-check_lent.ensures

pub returns-in_err-check_stopped : goal.returns-in_err-check_stopped
returns-in_err-check_stopped g c =
    running displaying displayed c.from_residual-in_err-check_stopped.result _ c.from_residual-in_err-check_stopped.ensures.1 refl refl c.in_ok-check_lent.ensures c.in_err-check_stopped.ensures

pub returns : goal.returns
returns g c =
    let s = held g.A.Device g.B.Device g.C.Device g.D.Device c.args.self.now c.args.core.now in
    let l = c.in_ok-check_lent.ensures in
    stopped displaying _ _ _ refl l c.in_ok-check_stopped.ensures (ap (λ (w : ℕ). displayed (Ok (eighteen w))) (at_i_word s (fits_by s l) _ c.at_i.ensures.is))
    (i_changed s (fits_by s l) (λ n. advanced n 1) _ c.advance.ensures)
