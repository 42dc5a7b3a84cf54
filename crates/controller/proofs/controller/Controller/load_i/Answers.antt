use Rattle.std.proofs.Common.{refl}
use Rattle.engine.specs.Instructions.{i_set}
use Rattle.controller.specs.Console.{data_switches, loading_i}
use Rattle.controller.specs.Held.{plainly, held}
use Rattle.controller.proofs.Entering.{wrong, running, stopped}
use Rattle.controller.proofs.ByHand.{fits_by, i_changed}
use Rattle.controller.proofs.controller.Controller.load_i.Goals as goal

pub returns-in_err-check_lent : goal.returns-in_err-check_lent
returns-in_err-check_lent g c = wrong plainly c.from_residual.result _ c.from_residual.ensures.1 refl c.in_err-check_lent.ensures

pub returns-in_err-check_stopped : goal.returns-in_err-check_stopped
returns-in_err-check_stopped g c =
    running loading_i plainly c.from_residual-in_err-check_stopped.result _ c.from_residual-in_err-check_stopped.ensures.1 refl refl c.in_ok-check_lent.ensures c.in_err-check_stopped.ensures

pub returns : goal.returns
returns g c =
    let s = held g.A.Device g.B.Device g.C.Device g.D.Device c.args.self.now c.args.core.now in
    let l = c.in_ok-check_lent.ensures in
    stopped loading_i _ _ _ refl l c.in_ok-check_stopped.ensures refl (i_changed s (fits_by s l) (λ n. i_set n (data_switches s)) _ c.jump.ensures)
