-- Shifts by a whole count, in closed form.
use Rattle.std.specs.Prelude.{◌≡◌, ℕ, suc, ◌+◌, ◌-◌, ◌*◌, ◌/◌, ◌%◌, ◌^◌, ◌<◌, ◌≤◌, nat_le}
use Rattle.std.specs.Int.Signed.{shr_z}
use Rattle.registers.specs.declared.state.Registers.{Registers}
use Rattle.registers.specs.declared.state.Shift.{Shift}
use Rattle.registers.specs.declared.state.Shift.TheVariants.{LeftA, LeftBoth, RightA, RightBoth, Rotate}
use Rattle.registers.specs.Parts.{both}
use Rattle.registers.specs.Arithmetic.{signed_both}
use Rattle.registers.specs.Shifts.{times, counted, count_left}
use Rattle.register_laws.specs.Laws.{Sixteen}

-- a shift that counts makes so many steps as its count has lost; with count left over, bit 0 is on; before each step it was off
pub record Counts (n : ℕ) (s : Shift) (r : Registers) : Type 0 where
  pub bound : count_left n s r ≤ n
  pub steps : counted n s r ≡ times (n - count_left n s r) s r
  pub stops : 0 < count_left n s r → 32768 ≤ (counted n s r).a
  pub goes : (k : ℕ) → k < n - count_left n s r → (times k s r).a < 32768

pub record ShiftRules : Type 0 where
  -- left: times 2 to the count, cut off at the width; Carry is the bit that went out last, so it is off once all are out
  pub left : (n : ℕ) (r : Registers) → Sixteen r → (times n LeftA r).a ≡ r.a * 2 ^ n % 65536
  pub left_carry : (n : ℕ) (r : Registers) → Sixteen r → (times (suc n) LeftA r).carry ≡ nat_le 32768 (r.a * 2 ^ n % 65536)
  pub left_both : (n : ℕ) (r : Registers) → Sixteen r → both (times n LeftBoth r) ≡ both r * 2 ^ n % 4294967296
  pub left_both_carry : (n : ℕ) (r : Registers) → Sixteen r → (times (suc n) LeftBoth r).carry ≡ nat_le 2147483648 (both r * 2 ^ n % 4294967296)
  -- right: by 2 to the count, rounded down; of A and Q as a signed number, so in the end all sign
  pub right : (n : ℕ) (r : Registers) → (times n RightA r).a ≡ r.a / 2 ^ n
  pub right_both : (n : ℕ) (r : Registers) → Sixteen r → signed_both (both (times n RightBoth r)) ≡ shr_z (signed_both (both r)) (2 ^ n)
  -- around: the low bits come in at the left, and after 32 steps all is as before
  pub around : (n : ℕ) (r : Registers) → n ≤ 32 → Sixteen r → both (times n Rotate r) ≡ both r / 2 ^ n + both r % 2 ^ n * 2 ^ (32 - n)
  pub around_all : (n : ℕ) (r : Registers) → n ≡ 32 → Sixteen r → both (times n Rotate r) ≡ both r
  pub counts : (n : ℕ) (s : Shift) (r : Registers) → Counts n s r
