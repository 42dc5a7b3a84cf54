-- Division toward zero.
use Rattle.std.proofs.Common.{◌≡◌, ℕ, zero, suc, ◌/◌, ◌<◌, ◌≤◌, ℤ, pos, negsuc, ◌*ℤ◌, neg_ℤ, unsigned_abs, int_div, int_rem, refl, arith}
use Rattle.std.proofs.lemmas.Nat.{div-add-mod'}
use Rattle.std.proofs.lemmas.Int.{quot-rem, rem_below, unsigned_abs-mul}
use Rattle.register_laws.specs.Laws.{Divides}

size_neg : (n : ℕ) → unsigned_abs (neg_ℤ (pos n)) ≡ n
size_neg zero = refl
size_neg (suc n) = refl

size_quotient : (z d : ℤ) → unsigned_abs (int_div z d) ≡ unsigned_abs z / unsigned_abs d
size_quotient (pos a) (pos b) = refl
size_quotient (pos a) (negsuc b) = size_neg (a / suc b)
size_quotient (negsuc a) (pos b) = size_neg (suc a / b)
size_quotient (negsuc a) (negsuc b) = refl

no_larger : (z d : ℤ) → unsigned_abs (int_div z d *ℤ d) ≤ unsigned_abs z
no_larger z d = rw (unsigned_abs-mul (int_div z d) d, size_quotient z d) (omega (arith, div-add-mod' (unsigned_abs z) (unsigned_abs d)))

pub divides : (z d : ℤ) → 0 < unsigned_abs d → Divides z d (int_div z d) (int_rem z d)
divides z d h = record { sum = quot-rem z d; less = rem_below z d h; toward_zero = no_larger z d }
