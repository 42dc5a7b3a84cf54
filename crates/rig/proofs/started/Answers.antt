use Rattle.rig.specs.Rigs.{row}
use Rattle.rig.proofs.Starting.{start_answered, start_left, not_refused}
use Rattle.rig.proofs.started.Goals as goal

pub returns-in_err-start-clause-refused : goal.returns-in_err-start-clause-refused
returns-in_err-start-clause-refused c =
    absurd (not_refused _ _ c.in_err-start.was (start_answered _ c.args.core.now row _ _ _ _ _ c.in_ok-rig.ensures.accepted c.in_ok-rig.ensures.opened _ c.start.ensures.answer))

pub returns-clause-started : goal.returns-clause-started
returns-clause-started c = start_left _ c.args.core.now row _ _ _ _ _ c.in_ok-rig.ensures.accepted c.in_ok-rig.ensures.opened _ c.start.ensures.machine
