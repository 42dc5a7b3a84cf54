use Rattle.std.proofs.Common.{refl}
use Rattle.engine.specs.Makes.{calling}
use Rattle.engine.proofs.Records.{dev_path, machine_path}
use Rattle.engine.proofs.engine.Engine.tell.Goals as goal

pub returns-clause-after : goal.returns-clause-after
unfolding calling
returns-clause-after g c core =
    machine_path _ _ refl refl
    (dev_path _ _ c.passed.ensures.control c.passed.ensures.words) (dev_path _ _ c.passed-2.ensures.control c.passed-2.ensures.words)
    (dev_path _ _ c.passed-3.ensures.control c.passed-3.ensures.words) (dev_path _ _ c.passed-4.ensures.control c.passed-4.ensures.words)
