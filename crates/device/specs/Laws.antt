-- The laws that every make shows, at every control.
use Rattle.std.specs.Prelude.{◌≡◌, ℕ, ◌+◌, ◌<◌, Bool, true, false, List, Some}
use Rattle.device.specs.Meaning.{Meaning, ChannelMeaning}
use Rattle.device.specs.Calls.{command_control, sense_control, put_control, get_place, get_control, bring_place, bring_control, take_control, how_many}

-- What stays through every call, from control c to control d: the areas it answers to and the functions it takes there.
-- And the words left are fewer by the one that the call removed, if it removed one.
pub record Keeps (m : Meaning) (removing : ℕ) (c d : List ℕ) : Type 0 where
  pub areas : (area : ℕ) → m.answers d area ≡ m.answers c area
  pub codes : (area function : ℕ) → m.takes d area function ≡ m.takes c area function
  pub words : m.left d + removing ≡ m.left c

pub record ChannelLawful (m : Meaning) (ch : ChannelMeaning) : Type 0 where
  pub within : (c : List ℕ) (p : ℕ) → bring_place ch c ≡ Some p → p < m.left c
  pub bring : (c : List ℕ) → Keeps m (how_many (bring_place ch c)) c (bring_control ch c)
  pub take : (c : List ℕ) (word : ℕ) → Keeps m 0 c (take_control ch c word)
  pub finish : (c : List ℕ) (go_on tell : Bool) → Keeps m 0 c (ch.finished c go_on tell)

pub record Lawful (m : Meaning) : Type 0 where
  -- areas are 1 to 31, and an area that is not the device's own has no functions
  pub range : (c : List ℕ) (area : ℕ) → m.answers c area ≡ true → (0 < area) × (area < 32)
  pub own : (c : List ℕ) (area function : ℕ) → m.takes c area function ≡ true → m.answers c area ≡ true
  -- a place is within the words
  pub within : (c : List ℕ) (area p : ℕ) → get_place m c area ≡ Some p → p < m.left c
  -- A raised area is the device's own and shows on the line, and is no longer raised once its line is turned off. It is the make that tells which
  -- areas are raised: of one that calls none raised this says nothing.
  pub shows : (c : List ℕ) (area : ℕ) → m.raised c area ≡ true → (m.answers c area ≡ true) × (m.line c ≡ true)
  pub off : (c : List ℕ) (area : ℕ) → m.raised (m.line_off c area) area ≡ false
  -- a device at rest does not operate
  pub rests : (c : List ℕ) → m.operating (m.reset c) ≡ false
  -- and through every call
  pub command : (c : List ℕ) (area function modifier : ℕ) → Keeps m 0 c (command_control m c area function modifier)
  pub sense : (c : List ℕ) (area modifier : ℕ) → Keeps m 0 c (sense_control m c area modifier)
  pub put : (c : List ℕ) (area word : ℕ) → Keeps m 0 c (put_control m c area word)
  pub get : (c : List ℕ) (area : ℕ) → Keeps m (how_many (get_place m c area)) c (get_control m c area)
  pub passed : (c : List ℕ) → Keeps m 0 c (m.passed c)
  pub reset : (c : List ℕ) → Keeps m 0 c (m.reset c)
  pub channel : ChannelLawful m m.channel

-- A device that was made over what its check refused answers to no area and takes nothing.
abbrev pub AnswersNone : Meaning → List ℕ → Type 0
AnswersNone m c = (area function : ℕ) → (m.answers c area ≡ false) × (m.takes c area function ≡ false)
