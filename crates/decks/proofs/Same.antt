-- The decks, by the one argument for settled examples: a test that is computed, and the law that turns it into the fact.
use Rattle.std.proofs.Common.{◌≡◌, true, List, [], ◌∷◌, map, refl, sym}
use lib.Count.{ones, ones_in}
use Rattle.std.proofs.lemmas.Slice.Eq.{bytes_eq-Decides}
use Rattle.std.specs.List.{AllByRecursion}
use Rattle.engine.specs.Makes.{calling}
use Rattle.engine.specs.Faults.{raise}
use Rattle.engine.specs.Cycle.{refer, tell, steal, offers, cycle, idle_cycle}
use Rattle.engine.specs.Levels.{level_status, due_now, sensed_status}
use Rattle.engine.specs.Instructions.{instruction}
use Rattle.engine.specs.Xio.{xio}
use Rattle.engine.specs.Interrupt.{forced_branch}
use Rattle.engine.specs.Step.{step}
use Rattle.controller.specs.Console.{call}
use Rattle.settled.specs.Examples.{Holds}
use Rattle.settled.proofs.Same.{same}
use Rattle.decks.specs.declared.Deck.{Deck}
use Rattle.decks.specs.declared.Deck.TheVariants.{Settled, BetweenReferences, UnreadSeven, UnreadNine, Parity, Carry, Stopped, Console, Clearing, Refusals, Limit, Immediate, Panel}
use Rattle.decks.specs.Decks.{DecksHold, all, shown, settled as settled_numbers, example}

-- what has to unfold for the definition to compute
unfoldable definition : Unit {0}
unfolding ones ones_in calling raise refer tell steal offers cycle idle_cycle level_status due_now sensed_status instruction xio forced_branch step call
definition = tt

-- the test, computed for each deck
settled : same (example Settled) ≡ true
unfolding definition
settled = refl

between_references : same (example BetweenReferences) ≡ true
unfolding definition
between_references = refl

unread_seven : same (example UnreadSeven) ≡ true
unfolding definition
unread_seven = refl

unread_nine : same (example UnreadNine) ≡ true
unfolding definition
unread_nine = refl

parity : same (example Parity) ≡ true
unfolding definition
parity = refl

carry : same (example Carry) ≡ true
unfolding definition
carry = refl

stopped : same (example Stopped) ≡ true
unfolding definition
stopped = refl

console : same (example Console) ≡ true
unfolding definition
console = refl

clearing : same (example Clearing) ≡ true
unfolding definition
clearing = refl

refusals : same (example Refusals) ≡ true
unfolding definition
refusals = refl

limit : same (example Limit) ≡ true
unfolding definition
limit = refl

immediate : same (example Immediate) ≡ true
unfolding definition
immediate = refl

panel : same (example Panel) ≡ true
unfolding definition
panel = refl

tested : (d : Deck) → same (example d) ≡ true
tested Settled = settled
tested BetweenReferences = between_references
tested UnreadSeven = unread_seven
tested UnreadNine = unread_nine
tested Parity = parity
tested Carry = carry
tested Stopped = stopped
tested Console = console
tested Clearing = clearing
tested Refusals = refusals
tested Limit = limit
tested Immediate = immediate
tested Panel = panel

holds : (d : Deck) → Holds (example d)
holds d = (bytes_eq-Decides (shown d) (settled_numbers d)).0 (tested d)

all_hold : (ds : List Deck) → AllByRecursion Holds (map example ds)
all_hold [] = tt
all_hold (d ∷ ds) = (holds d, all_hold ds)

pub decks_hold : DecksHold
decks_hold = all_hold all

pub each_shows : (d : Deck) → settled_numbers d ≡ shown d
each_shows d = sym (holds d)
