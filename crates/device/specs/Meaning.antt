-- What a make of device means.
-- A device means two lists of numbers: words, which are still to come from it, and control, by which it works. So a make is a record
-- of functions of control, and none of them sees the words.
use Rattle.std.specs.Prelude.{ℕ, Bool, List, None, Option}
use Rattle.device.specs.declared.answer.Asking.{Asking}
use Rattle.device.specs.declared.answer.Asking.TheVariants.{Nothing}

-- what a device means to its channel
pub record ChannelMeaning : Type 0 where
  pub asks : List ℕ → Asking
  -- where the next word to bring stands; control after a bring that was asked for
  pub place : List ℕ → Option ℕ
  pub brought : List ℕ → List ℕ
  -- control after a word that was asked for is taken
  pub taken : List ℕ → ℕ → List ℕ
  -- control after a table's end: go on, tell
  pub finished : List ℕ → Bool → Bool → List ℕ

-- a device that no channel serves asks for nothing
abbrev pub no_channel : ChannelMeaning
no_channel = record {
  asks = λ c. Nothing;
  place = λ c. None;
  brought = λ c. c;
  taken = λ c word. c;
  finished = λ c go_on tell. c;
}

pub record Meaning : Type 0 where
  -- the number of the make, which fault records carry
  pub kind : ℕ
  -- how many words are left to bring
  pub left : List ℕ → ℕ
  -- whether it answers to an area, and takes a function in that area
  pub answers : List ℕ → ℕ → Bool
  pub takes : List ℕ → ℕ → ℕ → Bool
  pub operating : List ℕ → Bool
  -- the interrupt line, and whether an area raises it
  pub line : List ℕ → Bool
  pub raised : List ℕ → ℕ → Bool
  -- control after an accepted command, by area, function and modifier
  pub commanded : List ℕ → ℕ → ℕ → ℕ → List ℕ
  -- the status of an area, by modifier; control after that area's line is turned off
  pub status : List ℕ → ℕ → ℕ → ℕ
  pub line_off : List ℕ → ℕ → List ℕ
  -- control after an area was handed a word
  pub put : List ℕ → ℕ → ℕ → List ℕ
  -- where among the words the next one of an area stands; control after it is taken from there
  pub place : List ℕ → ℕ → Option ℕ
  pub got : List ℕ → ℕ → List ℕ
  -- control after one cycle, and at rest
  pub passed : List ℕ → List ℕ
  pub reset : List ℕ → List ℕ
  -- and to its channel
  pub channel : ChannelMeaning
