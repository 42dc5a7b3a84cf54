-- One step of a shift, and of a shift that counts.
use Rattle.std.proofs.Common.{◌≡◌, ℕ, suc, ◌+◌, ◌-◌, ◌*◌, ◌/◌, ◌%◌, ◌<◌, bit_or, w32, ap, ◌∙◌, arith}
use Rattle.std.specs.Int.{rotate_right}
use Rattle.std.proofs.lemmas.Nat.{or_comm, or_shifted}
use Rattle.std.proofs.lemmas.Bool.{lt-leb}
use Rattle.registers.specs.declared.state.Registers.{Registers}
use Rattle.registers.specs.declared.state.Shift.{Shift}
use Rattle.registers.specs.Shifts.{once, times, counted, count_left}

one_less : (n i : ℕ) → i < n → n - i ≡ suc (n - (i + 1))
one_less n i h = omega arith

pub times_more : (n i : ℕ) (s : Shift) (r : Registers) → i < n → times (n - i) s r ≡ times (n - (i + 1)) s (once s r)
times_more n i s r h = rw (one_less n i h)

pub counted_more : (n i : ℕ) (s : Shift) (r : Registers) → i < n → r.a < 32768 → counted (n - i) s r ≡ counted (n - (i + 1)) s (once s r)
counted_more n i s r h k = rw (one_less n i h, lt-leb 32768 r.a k)

pub left_more : (n i : ℕ) (s : Shift) (r : Registers) → i < n → r.a < 32768 → count_left (n - i) s r ≡ count_left (n - (i + 1)) s (once s r)
left_more n i s r h k = rw (one_less n i h, lt-leb 32768 r.a k)

-- one step of A and Q around
pub turned : (n : ℕ) → n < 4294967296 → rotate_right w32 n 1 ≡ n / 2 + n % 2 * 2147483648
turned n h =
    let e : n * 2147483648 % 4294967296 ≡ n % 2 * 2147483648 = omega arith in
    ap (bit_or (n / 2)) e ∙ or_comm (n / 2) (n % 2 * 2147483648) ∙ or_shifted (n % 2) 31 (n / 2) (omega arith) ∙ omega arith
