-- What sums and differences of signed numbers stand for, at any width whose numbers are from -h to h - 1.
use Rattle.std.proofs.Common.{◌≡◌, ℕ, suc, ◌+◌, ◌-◌, ◌<◌, Bool, true, false, leb, ltb, ◌⊎◌, ℤ, pos, negsuc, ◌+ℤ◌, ◌-ℤ◌, refl, arith}
use lib.Signed.{mag}
use mir.Val.{sel}
use Rattle.std.proofs.lemmas.Int.{ints}
use Rattle.register_laws.specs.Laws.{Range, StandsFor}

pub range : (k : ℕ) (z : ℤ) → Range (negsuc k) (pos k) z (leb (suc k) (mag z))
range k z = by (leb (suc k) (mag z)) refl
  where
    by : (t : Bool) → leb (suc k) (mag z) ≡ t → Range (negsuc k) (pos k) z t
    by true e = grind (arith, ints)
    by false e = grind (arith, ints)

module _ (h : ℕ) where
  abbrev pub number : ℕ → ℤ
  number n = sel (ltb n h) (pos n) (negsuc (h + h - suc n))

  pub sum : (a b s : ℕ) → a < h + h → b < h + h → s < h + h → (s ≡ a + b) ⊎ (s + (h + h) ≡ a + b) → StandsFor h (number a +ℤ number b) (number s)
  sum a b s p q t e = record { in_range = (grind (arith, ints), grind (arith, ints)); congruent = grind (arith, ints); exact = λ x. grind (arith, ints) }

  pub difference : (a b s : ℕ) → a < h + h → b < h + h → s < h + h → (s ≡ a + (h + h - b)) ⊎ (s + (h + h) ≡ a + (h + h - b)) → StandsFor h (number a -ℤ number b) (number s)
  difference a b s p q t e = record { in_range = (grind (arith, ints), grind (arith, ints)); congruent = grind (arith, ints); exact = λ x. grind (arith, ints) }
