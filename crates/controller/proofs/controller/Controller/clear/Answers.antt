use Rattle.std.proofs.Common.{refl}
use Rattle.controller.specs.Held.{plainly, held}
use Rattle.controller.proofs.Entering.{wrong, running, stopped}
use Rattle.controller.proofs.ByHand.{clears, core_cleared}
use Rattle.controller.proofs.controller.Controller.clear.Goals as goal

pub returns-in_err-check_lent : goal.returns-in_err-check_lent
returns-in_err-check_lent g c = wrong plainly c.from_residual.result _ c.from_residual.ensures.1 refl c.in_err-check_lent.ensures

pub returns-in_err-check_stopped : goal.returns-in_err-check_stopped
returns-in_err-check_stopped g c =
    running (clears c.args.mode) plainly c.from_residual-in_err-check_stopped.result _ c.from_residual-in_err-check_stopped.ensures.1 refl refl c.in_ok-check_lent.ensures c.in_err-check_stopped.ensures

pub returns : goal.returns
returns g c =
    let s = held g.A.Device g.B.Device g.C.Device g.D.Device c.args.self.now c.args.core.now in
    stopped (clears c.args.mode) _ _ _ refl c.in_ok-check_lent.ensures c.in_ok-check_stopped.ensures refl (core_cleared c.args.mode s _ c.clear_words.ensures)
