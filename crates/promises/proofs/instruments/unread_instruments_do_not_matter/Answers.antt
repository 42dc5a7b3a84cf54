use Rattle.promises.proofs.Runs.{opened_twins, unread_do_not_matter}
use Rattle.promises.proofs.instruments.unread_instruments_do_not_matter.Goals as goal

pub returns-clause-stand : goal.returns-clause-stand
returns-clause-stand c = unread_do_not_matter

pub returns-clause-opened : goal.returns-clause-opened
returns-clause-opened c = opened_twins
