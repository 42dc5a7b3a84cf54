use Rattle.std.proofs.Common.{refl}
use Rattle.controller.specs.Held.{plainly}
use Rattle.controller.proofs.Entering.{wrong, right}
use Rattle.controller.proofs.controller.Controller.set_switches.Goals as goal

pub returns-in_err-check_lent : goal.returns-in_err-check_lent
returns-in_err-check_lent g c = wrong plainly c.from_residual.result _ c.from_residual.ensures.1 refl c.in_err-check_lent.ensures

pub returns : goal.returns
returns g c = right _ _ _ c.in_ok-check_lent.ensures refl refl
