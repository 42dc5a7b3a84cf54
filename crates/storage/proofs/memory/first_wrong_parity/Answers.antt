use Rattle.std.proofs.Common.{rules, tests, not}
use Rattle.std.proofs.lemmas.Iterator.{YieldsList-from_slice}
use Rattle.std.proofs.lemmas.Iterator.Search.{position_from_yields_List}
use Rattle.storage.specs.Word.{parity_right}
use Rattle.storage.proofs.Searches.{front_of_not}
use Rattle.storage.proofs.memory.first_wrong_parity.Goals as goal

pub returns-clause-value : goal.returns-clause-value
returns-clause-value c =
    let found = position_from_yields_List (λ w. not (parity_right w)) _ _ c.position.result c.position.ensures.ran (YieldsList-from_slice c.args.core.now cc) (λ x b q k. search (rules, tests)) in
    rw (front_of_not parity_right c.args.core.now) at found
