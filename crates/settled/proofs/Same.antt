-- One argument for every example: a test that is computed over the list, and the law that turns it into each fact.
use Rattle.std.proofs.Common.{◌≡◌, Bool, true, List, [], ◌∷◌, refl}
use lib.Count.{ones, ones_in}
use Rattle.std.proofs.lemmas.Slice.Eq.{bytes_eq-Decides}
use Rattle.std.specs.List.{list_all, AllByRecursion}
use Rattle.std.specs.Str.{bytes_eq}
use Rattle.std.proofs.lemmas.Bool.{and_parts}
use Rattle.settled.specs.Examples.{Example, examples, Holds, AllHold}

abbrev pub same : Example → Bool
same e = bytes_eq e.worked_out e.settled

pub each : (es : List Example) → list_all same es ≡ true → AllByRecursion Holds es
each [] t = tt
each (e ∷ es) t =
    let p = and_parts (same e) (list_all same es) t in
    ((bytes_eq-Decides e.worked_out e.settled).0 p.0, each es p.1)

pub all_hold : AllHold
unfolding ones ones_in
all_hold = each examples refl
