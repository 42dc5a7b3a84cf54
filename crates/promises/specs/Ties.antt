-- How the events and the machine belong together.
use Rattle.std.specs.Prelude.{◌≡◌, ℕ, Bool, false, ◌||◌, List, [], ◌∷◌, length, ◌==◌, slice_index}
use Rattle.device.specs.Meaning.{Meaning}
use Rattle.engine.specs.declared.place.Position.{Position}
use Rattle.engine.specs.Machine.{Machine, Dev, dev_at, upon}
use Rattle.engine.specs.Events.{Event, read_from, stored_at, brought_to, called, Call, passed, command, sense, put, get, bring, take, finish, reset}
use Rattle.engine.specs.Makes.{Makes, make_at, made}

-- what a device becomes by its own calls among these events, in order
abbrev pub after_event : Meaning → Position → Event → Dev → Dev
after_event m p (read_from a) d = d
after_event m p (stored_at a) d = d
after_event m p (brought_to a) d = d
after_event m p (called q c) d = upon p q (made m c d) d

abbrev pub after_events : Meaning → Position → List Event → Dev → Dev
after_events m p [] d = d
after_events m p (e ∷ es) d = after_events m p es (after_event m p e d)

-- each device is, after something was done, what its own calls made of what it was before
pub record Tied (m : Makes) (s : Machine) (es : List Event) (t : Machine) : Type 0 where
  pub devices : (p : Position) → dev_at p t ≡ after_events (make_at p m) p es (dev_at p s)

-- whether a word is stored at an address
abbrev pub stores_at : ℕ → Event → Bool
stores_at a (read_from b) = false
stores_at a (stored_at b) = a == b
stores_at a (brought_to b) = a == b
stores_at a (called p c) = false

abbrev pub touched : ℕ → List Event → Bool
touched a [] = false
touched a (e ∷ es) = stores_at a e || touched a es

-- a word of core changes only where a store is told of
pub record CoreTied (s : Machine) (es : List Event) (t : Machine) : Type 0 where
  pub words : (a : ℕ) → touched a es ≡ false → slice_index t.core a ≡ slice_index s.core a
  pub size : length t.core ≡ length s.core

-- the words that are handed to a device, in order: those of put and of take
abbrev pub handed : Call → List ℕ → List ℕ
handed passed ws = ws
handed (command area function modifier) ws = ws
handed (sense area modifier) ws = ws
handed (put area w) ws = w ∷ ws
handed (get area) ws = ws
handed bring ws = ws
handed (take w) ws = w ∷ ws
handed (finish go_on tell) ws = ws
handed reset ws = ws

abbrev pub outgoing : Position → List Event → List ℕ
outgoing p [] = []
outgoing p (read_from a ∷ es) = outgoing p es
outgoing p (stored_at a ∷ es) = outgoing p es
outgoing p (brought_to a ∷ es) = outgoing p es
outgoing p (called q c ∷ es) = upon p q (handed c (outgoing p es)) (outgoing p es)
