-- What the acceptance call promises of the values that it hands back. s and t are the two machines as opened; each side's machine afterwards is
-- what its controller and its core are then.
use Rattle.std.specs.Prelude.{◌≡◌, ℕ, ◌+◌, ◌*◌, ◌≤◌, false, List, [], ◌++◌, ◌∷◌, length, slice_index, Ok}
use Rattle.device.specs.declared.interface.Device.{Ghosts}
use Rattle.works.specs.declared.panel.Counts.{Counts}
use Rattle.engine.specs.declared.place.Position.{Position}
use Rattle.engine.specs.declared.state.Wiring.{Wiring}
use Rattle.engine.specs.Machine.{Machine, dev_at}
use Rattle.engine.specs.Makes.{Makes}
use Rattle.engine.specs.Code.{dev}
use Rattle.controller.specs.declared.call.Entry.{Entry}
use Rattle.controller.specs.Opening.{opened_machine}
use Rattle.controller.specs.Console.{Answer, told}
use Rattle.controller.specs.declared.call.Bill.{Bill}
use Rattle.controller.specs.declared.call.Outcome.TheVariants.{Counted}
use Rattle.controller.specs.Run.{enter, run, after, answers_of, events_of}
use Rattle.promises.specs.Ties.{outgoing}
use Rattle.promises.specs.Stains.{unstained, ReadsNoStain}
use Rattle.promises.specs.Protection.{Stands, at_yes, when_left_yes, AlwaysNo}
use Rattle.promises.specs.Unread.{Twins, stained_after}
use Rattle.promises.specs.Bill.{tellings, Fair, since_count, totals_of}
use Rattle.acceptance.specs.declared.sides.Devices.{Devices}

-- 1. A side is the definition's run: what it answered, in order, and what is left.
pub record IsTheRun (m : Makes) (es : List Entry) (s : Machine) (given : List Answer) (left : Machine) : Type 0 where
  pub answers : given ≡ answers_of (run m es s)
  pub machine : left ≡ after m es s

-- 2. Protected words stayed. With the write-protect switch at No, each word that was protected when the switch last left Yes, or at opening if it
-- never did, is what it was then. And so is each word that was protected after any call from which on the switch stayed at No.
pub record ProtectedWordsStayed (m : Makes) (es : List Entry) (s left : Machine) : Type 0 where
  pub since_left_yes : at_yes left ≡ false → Stands (when_left_yes m es s s.core) left.core
  pub since_any_call : (before rest : List Entry) → es ≡ before ++ rest → AlwaysNo m rest (after m before s) → Stands (after m before s).core left.core

-- 3. Unread instruments did not matter: the two sides cannot be told apart but by stained words and by the words that the devices have yet to bring.
pub record CannotBeToldApart (m : Makes) (es : List Entry) (s t : Machine) (first second : List Answer) (left right : Machine) : Type 0 where
  pub answers : first ≡ second
  pub processor : left.processor ≡ right.processor
  pub control : (p : Position) → (dev_at p left).control ≡ (dev_at p right).control
  pub handed : (p : Position) → outgoing p (events_of (run m es s)) ≡ outgoing p (events_of (run m es t))
  pub size : length left.core ≡ length right.core
  pub words : (a : ℕ) → stained_after m es s a ≡ false → slice_index left.core a ≡ slice_index right.core a

-- where the two machines as opened differ in no more than the words yet to come, and the first side read no stained word
abbrev pub UnreadDidNotMatter : Makes → List Entry → Machine → Machine → List Answer → List Answer → Machine → Machine → Type 0
UnreadDidNotMatter m es s t first second left right =
    Twins s t → ReadsNoStain unstained (events_of (run m es s)) → CannotBeToldApart m es s t first second left right

-- 4. The bill adds up: since the last accepted count, or opening, each of the four devices was told of as many cycles as the totals say, and at most
-- three of them were stolen for each other one. The same holds of each bill that an entry of the list was answered with.
pub record BillAddedUp (m : Makes) (es : List Entry) (s left : Machine) : Type 0 where
  pub adds : (p : Position) → tellings p (since_count m es s []) ≡ told (totals_of left)
  pub fair : Fair (totals_of left)
  pub counts : (before rest : List Entry) (e : Entry) (b : Bill) → es ≡ before ++ (e ∷ rest) → (enter m e (after m before s)).answer ≡ Ok (Counted b)
      → ((p : Position) → tellings p (since_count m before s []) ≡ b.told) × (b.told ≡ b.program + b.stolen + b.idle) × (b.stolen ≤ 3 * (b.program + b.idle))

-- the machine that is opened over a core, with a wiring and four devices
module _ {A P B Q C R D S : Type 0} (a : Ghosts A P) (b : Ghosts B Q) (c : Ghosts C R) (d : Ghosts D S) where
  abbrev pub opened_with : List ℕ → Wiring → Devices A B C D P Q R S → Machine
  opened_with core w x = opened_machine core w (dev a x.first) (dev b x.second) (dev c x.third) (dev d x.fourth)
