-- What takes place, in order of time. Events are output only: nothing that the machine does depends on them.
use Rattle.std.specs.Prelude.{ℕ, Bool, List, [], ◌++◌}
use Rattle.engine.specs.declared.place.Position.{Position}
use Rattle.engine.specs.Machine.{Machine}

-- a call of a device; its questions change nothing and are not told of
pub data Call : Type 0 where
  passed : Call
  command : ℕ → ℕ → ℕ → Call
  sense : ℕ → ℕ → Call
  put : ℕ → ℕ → Call
  get : ℕ → Call
  bring : Call
  take : ℕ → Call
  finish : Bool → Bool → Call
  reset : Call

-- a word of core is read; one is stored; one that came from a device is stored; a device is called
pub data Event : Type 0 where
  read_from : ℕ → Event
  stored_at : ℕ → Event
  brought_to : ℕ → Event
  called : Position → Call → Event

-- what was done: the machine after it, and what took place
pub record Did : Type 0 where
  pub machine : Machine
  pub events : List Event

-- nothing that shows
abbrev pub quiet : Machine → Did
quiet s = record { machine = s; events = [] }

-- one thing after another
infixl 40 ◌then◌
abbrev pub ◌then◌ : Did → (Machine → Did) → Did
d then f = record { machine = (f d.machine).machine; events = d.events ++ (f d.machine).events }
