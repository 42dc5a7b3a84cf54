-- Shifts. One shift is one step, and a count is so many steps.
use Rattle.std.specs.Prelude.{ℕ, zero, suc, ◌+◌, ◌*◌, ◌/◌, ◌%◌, Bool, true, false, if◌then◌else◌, Some, None, Option, ◌==◌, nat_le, nat_lt}
use Rattle.instruction.specs.declared.words.Index.{Index}
use Rattle.instruction.specs.declared.words.Fields.{Fields}
use Rattle.registers.specs.declared.state.Registers.{Registers}
use Rattle.registers.specs.declared.state.Shift.{Shift}
use Rattle.registers.specs.declared.state.Shift.TheVariants.{LeftA, LeftBoth, RightA, RightBoth, Rotate}
use Rattle.registers.specs.Parts.{with_a, both, with_both, with_flags, index, with_index}

-- bit 0 of A
abbrev pub first_bit : Registers → Bool
first_bit r = nat_le 32768 r.a

-- Left: bit 0 goes to Carry, and a 0 comes in at the right. Right: a 0, or of A and Q the sign, comes in at the left. Rotate: the
-- last bit of Q comes in at the left.
abbrev pub once : Shift → Registers → Registers
once LeftA r = with_flags (first_bit r) r.overflow (with_a (r.a * 2 % 65536) r)
once LeftBoth r = with_flags (first_bit r) r.overflow (with_both (both r * 2 % 4294967296) r)
once RightA r = with_a (r.a / 2) r
once RightBoth r = with_both (both r / 2 + both r / 2147483648 * 2147483648) r
once Rotate r = with_both (both r / 2 + both r % 2 * 2147483648) r

abbrev pub times : ℕ → Shift → Registers → Registers
times zero s r = r
times (suc n) s r = times n s (once s r)

-- Shift and count: as long as bit 0 of A is off and the count lasts. The registers then, and the count left.
abbrev pub counted : ℕ → Shift → Registers → Registers
counted zero s r = r
counted (suc n) s r = if first_bit r then r else counted n s (once s r)

abbrev pub count_left : ℕ → Shift → Registers → ℕ
count_left zero s r = 0
count_left (suc n) s r = if first_bit r then suc n else count_left n s (once s r)

-- the count: the low six bits of the displacement, or of the index register that the tag names
abbrev pub shift_count : Option Index → ℕ → Registers → ℕ
shift_count None n r = n % 64
shift_count (Some x) n r = index x r % 64

-- after shift and count the count left is in bits 10 to 15 of the index register, bits 8 and 9 are 0, bits 0 to 7 stay; Carry is on
-- exactly where the count left is not 0
abbrev pub count_kept : Index → ℕ → Registers → Registers
count_kept x left r = with_flags (nat_lt 0 left) r.overflow (with_index x (index x r / 256 * 256 + left) r)

-- SLCA and SLC with a tag: a count of 0 does nothing
abbrev pub counting : Index → ℕ → Shift → Registers → Registers
counting x n s r = if n == 0 then r else count_kept x (count_left n s r) (counted n s r)

-- SLA and SLT, and with a tag and bit 9 on SLCA and SLC; bit 8 is on for A and Q
abbrev pub left_kind : Bool → Shift
left_kind true = LeftBoth
left_kind false = LeftA

abbrev pub counting_if : Bool → Option Index → ℕ → Shift → Registers → Registers
counting_if true (Some x) n s r = counting x n s r
counting_if true None n s r = times n s r
counting_if false t n s r = times n s r

abbrev pub shifted_left : Fields → Registers → Registers
shifted_left f r = counting_if f.branch_out f.tag (shift_count f.tag f.count r) (left_kind f.indirect) r

-- SRA, which bit 9 does not change; SRT; RTE
abbrev pub right_kind : Bool → Bool → Shift
right_kind true true = Rotate
right_kind true false = RightBoth
right_kind false b = RightA

abbrev pub shifted_right : Fields → Registers → Registers
shifted_right f r = times (shift_count f.tag f.count r) (right_kind f.indirect f.branch_out) r
