use Rattle.std.proofs.Common.{refl}
use Rattle.engine.specs.Makes.{calling}
use Rattle.engine.proofs.Records.{dev_path, machine_path}
use Rattle.controller.specs.Held.{plainly}
use Rattle.controller.proofs.Entering.{wrong, right}
use Rattle.controller.proofs.controller.Controller.immediate_stop.Goals as goal

pub returns-in_err-check_lent : goal.returns-in_err-check_lent
returns-in_err-check_lent g c = wrong plainly c.from_residual.result _ c.from_residual.ensures.1 refl c.in_err-check_lent.ensures

pub returns : goal.returns
unfolding calling
returns g c =
    right _ _ _ c.in_ok-check_lent.ensures refl
    (machine_path _ _ c.at_rest-self.ensures refl
    (dev_path _ _ c.reset.ensures.control c.reset.ensures.words) (dev_path _ _ c.reset-2.ensures.control c.reset-2.ensures.words)
    (dev_path _ _ c.reset-3.ensures.control c.reset-3.ensures.words) (dev_path _ _ c.reset-4.ensures.control c.reset-4.ensures.words))
