-- Levels 0 to 23, level 0 the highest, and the internal level above them all.
use Rattle.std.specs.Prelude.{ℕ, ◌+◌, ◌-◌, ◌/◌, ◌%◌, ◌^◌, Bool, true, cond, not, ◌&&◌, List, [], ◌∷◌, ◌==◌, bit_or, nat_lt, slice_index, slice_set}
use Rattle.levels.specs.declared.state.Flags.{Flags}
use Rattle.levels.specs.declared.state.Masks.{Masks}
use Rattle.levels.specs.declared.state.LevelWish.{LevelWish}

-- the word of the internal level's flags: bit 0 parity, bit 1 operation, bit 2 protect
abbrev pub flag_word : Flags → ℕ
flag_word f = cond f.parity 32768 0 + cond f.operation 16384 0 + cond f.protect 8192 0

-- a level's status word is made of the points latched for it and the lines that are up
abbrev pub status : List ℕ → ℕ → ℕ → ℕ
status points level lines = cond (nat_lt level 24) (bit_or (slice_index points level) lines) lines

-- one more point, by its bit (bit 0 is the leftmost); and a level without its points
abbrev pub latched : ℕ → ℕ → List ℕ → List ℕ
latched level bit points = cond (nat_lt level 24 && nat_lt bit 16) (slice_set points level (bit_or (slice_index points level) (2 ^ (15 - bit)))) points

abbrev pub dropped : ℕ → List ℕ → List ℕ
dropped level points = cond (nat_lt level 24) (slice_set points level 0) points

-- the masks of levels 0 to 15 are the bits of one word, those of levels 16 to 23 the bits of one byte, from the left; on means
-- masked
abbrev pub is_masked : Masks → ℕ → Bool
is_masked m level =
    cond (nat_lt level 16) (m.low / 2 ^ (15 - level) % 2 == 1) (cond (nat_lt level 24) (m.high / 2 ^ (23 - level) % 2 == 1) true)

-- Which levels stand, from level n on, by what is in service and by the status words: a level stands where neither it nor anything
-- higher is in service, it is unmasked, and its status is not 0. `free` says that nothing higher is in service.
abbrev pub standing : Masks → Bool → ℕ → List Bool → List ℕ → List LevelWish
standing m free n [] words = []
standing m free n (s ∷ serving) [] = []
standing m free n (s ∷ serving) (w ∷ words) =
    record { level = n; wish = (free && not s) && (not (is_masked m n) && not (w == 0)) } ∷ standing m (free && not s) (n + 1) serving words
