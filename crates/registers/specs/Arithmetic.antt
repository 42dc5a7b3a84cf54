-- Arithmetic, in two's complement. `signed` is the whole number that sixteen bits stand for, `signed_both` that of 32.
use Rattle.std.specs.Prelude.{ℕ, ◌+◌, ◌-◌, ◌*◌, ◌%◌, Bool, true, if◌then◌else◌, ◌||◌, ℤ, ◌+ℤ◌, ◌-ℤ◌, ◌*ℤ◌, Some, None, Option, ◌==◌, bit_and, bit_or, bit_xor, int_div, int_rem, nat_le, nat_lt}
use Rattle.std.specs.Int.Signed.{mag}
use Rattle.std.specs.Int.{w16, w32}
use Rattle.std.proofs.Common.{to_z, of_z}
use Rattle.registers.specs.declared.state.Registers.{Registers}
use Rattle.std.specs.declared.cmp.Ordering.{Ordering}
use Rattle.std.specs.Ordering.{int_cmp}
use Rattle.registers.specs.Parts.{with_a, both, with_both, with_flags}

abbrev pub signed : ℕ → ℤ
signed n = to_z w16 n

abbrev pub signed_both : ℕ → ℤ
signed_both n = to_z w32 n

-- outside -32,768 to 32,767, and outside the like range of 32 bits (`mag` of a negative number is one less than its size)
abbrev pub outside : ℤ → Bool
outside z = nat_le 32768 (mag z)

abbrev pub outside_both : ℤ → Bool
outside_both z = nat_le 2147483648 (mag z)

-- What arithmetic works with: how many values there are, what the registers hold, the registers that hold a number, the signed number
-- of bits, and whether a signed number is outside the range. A word works with A, a double with A and Q as one number.
pub record Width : Type 0 where
  pub size : ℕ
  pub held : Registers → ℕ
  pub loaded : ℕ → Registers → Registers
  pub number : ℕ → ℤ
  pub beyond : ℤ → Bool

abbrev pub word : Width
word = record { size = 65536; held = λ r. r.a; loaded = with_a; number = signed; beyond = outside }

abbrev pub double : Width
double = record { size = 4294967296; held = both; loaded = with_both; number = signed_both; beyond = outside_both }

-- Carry is set, and Overflow goes on or stays as it was
abbrev pub indicated : Bool → Bool → Registers → Registers
indicated carry overflow r = with_flags carry (r.overflow || overflow) r

-- A and AD: Carry is the carry out of the highest bit; Overflow goes on where the sum leaves the range, and stays on
abbrev pub added_at : Width → ℕ → Registers → Registers
added_at w b r =
    indicated (nat_le w.size (w.held r + b)) (w.beyond (w.number (w.held r) +ℤ w.number b)) (w.loaded ((w.held r + b) % w.size) r)

abbrev pub added : ℕ → Registers → Registers
added b r = added_at word b r

abbrev pub added_both : ℕ → Registers → Registers
added_both b r = added_at double b r

-- S and SD: Carry is the borrow
abbrev pub borrows : Width → ℕ → Registers → Bool
borrows w b r = nat_lt (w.held r) b

abbrev pub subtracted_at : Width → ℕ → Registers → Registers
subtracted_at w b r =
    indicated (borrows w b r) (w.beyond (w.number (w.held r) -ℤ w.number b)) (w.loaded ((w.held r + (w.size - b)) % w.size) r)

abbrev pub subtracted : ℕ → Registers → Registers
subtracted b r = subtracted_at word b r

abbrev pub subtracted_both : ℕ → Registers → Registers
subtracted_both b r = subtracted_at double b r

-- CMP and DCM: by the signed numbers; Carry is the borrow here too, Overflow stays
abbrev pub comparison : ℤ → ℤ → Ordering
comparison x y = int_cmp x y

abbrev pub comparison_at : Width → ℕ → Registers → Ordering
comparison_at w b r = comparison (w.number (w.held r)) (w.number b)

abbrev pub compared_at : Width → ℕ → Registers → Registers
compared_at w b r = with_flags (borrows w b r) r.overflow r

abbrev pub compared : ℕ → Registers → Registers
compared b r = compared_at word b r

abbrev pub compared_both : ℕ → Registers → Registers
compared_both b r = compared_at double b r

-- M: one signed product of 32 bits in A and Q
abbrev pub multiplied : ℕ → Registers → Registers
multiplied b r = with_both (of_z w32 (signed r.a *ℤ signed b)) r

-- D: the quotient toward zero and the remainder, where the divisor is not 0 and the quotient stays in the range
abbrev pub quotient : ℕ → ℕ → Option (ℕ × ℕ)
quotient n b =
    if b == 0 || outside (int_div (signed_both n) (signed b)) then None
    else Some (of_z w16 (int_div (signed_both n) (signed b)), of_z w16 (int_rem (signed_both n) (signed b)))

abbrev pub with_quotient : Option (ℕ × ℕ) → Registers → Registers
with_quotient None r = with_flags r.carry true r
with_quotient (Some p) r = with_both (p.0 * 65536 + p.1) r

abbrev pub divided : ℕ → Registers → Registers
divided b r = with_quotient (quotient (both r) b) r

-- AND, OR and EOR
abbrev pub anded : ℕ → Registers → Registers
anded b r = with_a (bit_and r.a b) r

abbrev pub ored : ℕ → Registers → Registers
ored b r = with_a (bit_or r.a b) r

abbrev pub xored : ℕ → Registers → Registers
xored b r = with_a (bit_xor r.a b) r
