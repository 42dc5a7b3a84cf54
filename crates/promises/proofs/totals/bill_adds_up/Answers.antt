use Rattle.promises.proofs.Runs.{bill_adds_up}
use Rattle.promises.proofs.totals.bill_adds_up.Goals as goal

pub returns-clause-stand : goal.returns-clause-stand
returns-clause-stand c = bill_adds_up
