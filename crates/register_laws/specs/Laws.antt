-- The signed rules, in whole numbers: what the registers stand for after an operation.
use Rattle.std.specs.Prelude.{◌≡◌, ℕ, ◌+◌, ◌<◌, ◌≤◌, Bool, true, false, ◌⊎◌, ℤ, pos, negsuc, ◌+ℤ◌, ◌-ℤ◌, ◌*ℤ◌, neg_ℤ, ◌≤ℤ◌, ◌<ℤ◌, ◌≢◌, int_div, nat_le, unsigned_abs}
use Rattle.std.specs.Int.Signed.{mag}
use Rattle.registers.specs.declared.state.Registers.{Registers}
use Rattle.registers.specs.Parts.{both, with_flags}
use Rattle.registers.specs.Arithmetic.{signed, signed_both, outside, outside_both, added, subtracted, added_both, subtracted_both, multiplied, divided}

-- What `outside` and `outside_both` mean, in the order of whole numbers: beyond either end of the range, or within it.
abbrev pub Range : ℤ → ℤ → ℤ → Bool → Type 0
Range low high z true = (z <ℤ low) ⊎ (high <ℤ z)
Range low high z false = (low ≤ℤ z) × (z ≤ℤ high)

-- Bits of such a range stand for the one number in the range that is congruent to z, the result of an operation on two numbers of the
-- range: it is z, or z less or more by the size of the range.
pub record StandsFor (half : ℕ) (z x : ℤ) : Type 0 where
  pub in_range : (neg_ℤ (pos half) ≤ℤ x) × (x <ℤ pos half)
  pub congruent : (x ≡ z) ⊎ ((x +ℤ pos (half + half) ≡ z) ⊎ (x ≡ z +ℤ pos (half + half)))
  pub exact : nat_le half (mag z) ≡ false → x ≡ z

-- registers hold sixteen bits each
pub record Sixteen (r : Registers) : Type 0 where
  pub a : r.a < 65536
  pub q : r.q < 65536

-- division toward zero: z is the divisor so many times and a rest; the rest is smaller than the divisor, and the whole part no
-- larger than z, both in size
pub record Divides (z d whole rest : ℤ) : Type 0 where
  pub sum : whole *ℤ d +ℤ rest ≡ z
  pub less : unsigned_abs rest < unsigned_abs d
  pub toward_zero : unsigned_abs (whole *ℤ d) ≤ unsigned_abs z

pub record SignedRules : Type 0 where
  pub outside_is : (z : ℤ) → Range (negsuc 32767) (pos 32767) z (outside z)
  pub outside_both_is : (z : ℤ) → Range (negsuc 2147483647) (pos 2147483647) z (outside_both z)
  pub sum : (b : ℕ) (r : Registers) → b < 65536 → Sixteen r → StandsFor 32768 (signed r.a +ℤ signed b) (signed (added b r).a)
  pub difference : (b : ℕ) (r : Registers) → b < 65536 → Sixteen r → StandsFor 32768 (signed r.a -ℤ signed b) (signed (subtracted b r).a)
  pub double_sum : (b : ℕ) (r : Registers) → b < 4294967296 → Sixteen r → StandsFor 2147483648 (signed_both (both r) +ℤ signed_both b) (signed_both (both (added_both b r)))
  pub double_difference : (b : ℕ) (r : Registers) → b < 4294967296 → Sixteen r → StandsFor 2147483648 (signed_both (both r) -ℤ signed_both b) (signed_both (both (subtracted_both b r)))
  -- a product always fits
  pub product : (b : ℕ) (r : Registers) → b < 65536 → Sixteen r → signed_both (both (multiplied b r)) ≡ signed r.a *ℤ signed b
  -- where the divisor is not 0 and the quotient is in the range; else only Overflow goes on
  pub division : (b : ℕ) (r : Registers) → b < 65536 → Sixteen r → (b ≢ 0) → outside (int_div (signed_both (both r)) (signed b)) ≡ false → Divides (signed_both (both r)) (signed b) (signed (divided b r).a) (signed (divided b r).q)
  pub indicators : (b : ℕ) (r : Registers) → (b ≢ 0) → outside (int_div (signed_both (both r)) (signed b)) ≡ false → ((divided b r).carry ≡ r.carry) × ((divided b r).overflow ≡ r.overflow)
  pub no_division : (b : ℕ) (r : Registers) → (b ≡ 0) ⊎ (outside (int_div (signed_both (both r)) (signed b)) ≡ true) → divided b r ≡ with_flags r.carry true r
