use Rattle.std.proofs.Common.{Ok, refl, ap}
use Rattle.controller.specs.Console.{searching}
use Rattle.controller.specs.Held.{searched}
use Rattle.controller.proofs.Entering.{wrong, running, stopped}
use Rattle.controller.proofs.controller.Controller.search.Goals as goal

pub returns-in_err-check_lent : goal.returns-in_err-check_lent
returns-in_err-check_lent g c = wrong searched c.from_residual.result _ c.from_residual.ensures.1 refl c.in_err-check_lent.ensures

pub returns-in_err-check_stopped : goal.returns-in_err-check_stopped
returns-in_err-check_stopped g c =
    running searching searched c.from_residual-in_err-check_stopped.result _ c.from_residual-in_err-check_stopped.ensures.1 refl refl c.in_ok-check_lent.ensures c.in_err-check_stopped.ensures

pub returns : goal.returns
returns g c = stopped searching _ _ _ refl c.in_ok-check_lent.ensures c.in_ok-check_stopped.ensures (ap (λ at. searched (Ok at)) c.first_wrong_parity.ensures.value) refl
