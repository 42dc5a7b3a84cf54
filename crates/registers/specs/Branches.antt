-- Conditions, index registers and status.
use Rattle.std.specs.Prelude.{ℕ, ◌+◌, ◌*◌, ◌/◌, ◌%◌, Bool, false, if◌then◌else◌, not, ◌&&◌, ◌||◌, pos, ◌==◌, int_lt}
use Rattle.instruction.specs.declared.words.Index.{Index}
use Rattle.instruction.specs.declared.words.Conditions.{Conditions}
use Rattle.registers.specs.declared.state.Registers.{Registers}
use Rattle.registers.specs.Arithmetic.{signed}
use Rattle.registers.specs.Parts.{with_i, with_flags, index, with_index}

-- whether any condition that is named holds, of the accumulator and of all; zero is not plus
abbrev pub acc_holds : Conditions → ℕ → Bool
acc_holds c a =
    (c.zero && a == 0) || ((c.minus && int_lt (signed a) (pos 0)) || ((c.plus && int_lt (pos 0) (signed a)) || (c.even && a % 2 == 0)))

abbrev pub holds : Conditions → Registers → Bool
holds c r = acc_holds c r.a || ((c.carry_off && not r.carry) || (c.overflow_off && not r.overflow))

-- a test of Overflow turns it off
abbrev pub tested : Conditions → Registers → Registers
tested c r = with_flags r.carry (r.overflow && not c.overflow_off) r

-- MDX: the sum, and whether it skips: the sum is zero, or its sign is not the sign before
abbrev pub modified : ℕ → ℕ → ℕ
modified old by = (old + by) % 65536

abbrev pub below_zero : ℕ → Bool
below_zero n = int_lt (signed n) (pos 0)

abbrev pub skips : ℕ → ℕ → Bool
skips old by = modified old by == 0 || (if below_zero old then not (below_zero (modified old by)) else below_zero (modified old by))

-- MDX of I, with no tag, in the short form: it never skips
abbrev pub i_modified : ℕ → Registers → Registers
i_modified by r = with_i (modified r.i by) r

abbrev pub index_modified : Index → ℕ → Registers → Registers
index_modified x by r = with_index x (modified (index x r) by) r

-- LDS: Carry and Overflow are bits 14 and 15 of the instruction
abbrev pub status_loaded : ℕ → Registers → Registers
status_loaded word r = with_flags (word / 2 % 2 == 1) (word % 2 == 1) r

-- STS: bits 0 to 7 of the word stay, 8 to 13 are 0, Carry and Overflow are in 14 and 15; both are off afterwards
abbrev pub status_word : ℕ → Registers → ℕ
status_word word r = word / 256 * 256 + (if r.carry then 2 else 0) + (if r.overflow then 1 else 0)

abbrev pub status_stored : Registers → Registers
status_stored r = with_flags false false r
