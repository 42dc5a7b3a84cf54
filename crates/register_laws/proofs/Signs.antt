-- The signed rules.
use Rattle.std.proofs.Common.{◌≡◌, ℕ, ◌+◌, ◌-◌, ◌%◌, ◌<◌, ◌≤◌, true, false, eqb, ◌⊎◌, ℤ, ◌+ℤ◌, ◌-ℤ◌, ◌*ℤ◌, unsigned_abs, int_div, int_rem, ◌≢◌, Some, None, Option, sym, refl, ap, ◌∙◌, subst, inl, inr, arith, w16, w32, SFits, of_z, eq-eqb, ne_eqb, leb-false}
use lib.Signed.{mag}
use Rattle.std.proofs.lemmas.Int.{ints, to_z-of_z, fits_signed_mul, fits_signed_from_abs}
use Rattle.std.proofs.lemmas.Bool.{or_right}
use Rattle.std.proofs.lemmas.Nat.{mod_low, shr_high}
use Rattle.std.proofs.Math.Facts.{Fits-of_z}
use Rattle.registers.specs.declared.state.Registers.{Registers}
use Rattle.registers.specs.Parts.{both, with_both}
use Rattle.registers.specs.Arithmetic.{signed, signed_both, outside, quotient, with_quotient, divided}
use Rattle.register_laws.specs.Laws.{StandsFor, Sixteen, Divides, SignedRules}
use Rattle.register_laws.proofs.Division.{divides}
use Rattle.register_laws.proofs.Sums.{range, sum, difference}

-- A and Q together are the number that was put into them
pub both_of : (n : ℕ) (r : Registers) → both (with_both n r) ≡ n
both_of n r = omega arith

pub below : (r : Registers) → Sixteen r → both r < 4294967296
below r s = let x = s.a in let y = s.q in omega arith

-- sizes
size_word : (n : ℕ) → n < 65536 → unsigned_abs (signed n) ≤ 32768
size_word n h = grind (arith, ints)

size_some : (n : ℕ) → n < 65536 → (n ≢ 0) → 0 < unsigned_abs (signed n)
size_some n h nz = grind (arith, ints)

some : (b : ℕ) (r : Registers) → (b ≡ 0 → ⊥) → outside (int_div (signed_both (both r)) (signed b)) ≡ false → quotient (both r) b ≡ Some (of_z w16 (int_div (signed_both (both r)) (signed b)), of_z w16 (int_rem (signed_both (both r)) (signed b)))
some b r nz f = rw (ne_eqb b 0 nz, f)

division : (b : ℕ) (r : Registers) → b < 65536 → Sixteen r → (b ≡ 0 → ⊥) → outside (int_div (signed_both (both r)) (signed b)) ≡ false → Divides (signed_both (both r)) (signed b) (signed (divided b r).a) (signed (divided b r).q)
division b r h s nz f =
    let z : ℤ = signed_both (both r) in
    let d : ℤ = signed b in
    let q : ℤ = int_div z d in
    let m : ℤ = int_rem z d in
    let dv = divides z d (size_some b h nz) in
    let mq : mag q < 32768 = leb-false 32768 (mag q) f in
    let fq : SFits w16 q = record { sfits = mq } in
    let fm : SFits w16 m = fits_signed_from_abs w16 m (omega (arith, dv.less, size_word b h)) in
    let fits = (Fits-of_z fm).fits in
    let e : quotient (both r) b ≡ Some (of_z w16 q, of_z w16 m) = some b r nz f in
    let ea : signed (divided b r).a ≡ q = ap (λ (o : Option (ℕ × ℕ)). signed (with_quotient o r).a) e ∙ ap signed (shr_high (of_z w16 q) 16 (of_z w16 m) fits) ∙ to_z-of_z w16 q fq in
    let eq : signed (divided b r).q ≡ m = ap (λ (o : Option (ℕ × ℕ)). signed (with_quotient o r).q) e ∙ ap signed (mod_low (of_z w16 q) 16 (of_z w16 m) fits) ∙ to_z-of_z w16 m fm in
    subst (λ (x : ℤ). Divides z d x (signed (divided b r).q)) (sym ea) (subst (λ (x : ℤ). Divides z d q x) (sym eq) dv)

nothing : (b : ℕ) (r : Registers) → (b ≡ 0) ⊎ (outside (int_div (signed_both (both r)) (signed b)) ≡ true) → quotient (both r) b ≡ None
nothing b r (inl e) = rw (eq-eqb b 0 e)
nothing b r (inr e) = rw (e, or_right (eqb b 0) true refl)

pub signed_rules : SignedRules
signed_rules = record {
  outside_is = range 32767;
  outside_both_is = range 2147483647;
  sum = λ b r h s. sum 32768 r.a b ((r.a + b) % 65536) s.a h (omega arith) (grind arith);
  difference = λ b r h s. let x = s.a in difference 32768 r.a b ((r.a + (65536 - b)) % 65536) x h (omega arith) (grind arith);
  double_sum = λ b r h s.
      subst (λ (n : ℕ). StandsFor 2147483648 (signed_both (both r) +ℤ signed_both b) (signed_both n)) (sym (both_of ((both r + b) % 4294967296) r)) (sum 2147483648 (both r) b ((both r + b) % 4294967296) (below r s) h (omega arith) (grind arith));
  double_difference = λ b r h s.
      subst (λ (n : ℕ). StandsFor 2147483648 (signed_both (both r) -ℤ signed_both b) (signed_both n)) (sym (both_of ((both r + (4294967296 - b)) % 4294967296) r)) (difference 2147483648 (both r) b ((both r + (4294967296 - b)) % 4294967296) (below r s) h (omega arith) (grind arith));
  product = λ b r h s.
      ap signed_both (both_of (of_z w32 (signed r.a *ℤ signed b)) r)
      ∙ to_z-of_z w32 (signed r.a *ℤ signed b) (fits_signed_mul w32 (signed r.a) (signed b) 32768 32768 (size_word r.a s.a) (size_word b h) (omega arith));
  division = division;
  indicators = λ b r nz f. let e = some b r nz f in (ap (λ (o : Option (ℕ × ℕ)). (with_quotient o r).carry) e, ap (λ (o : Option (ℕ × ℕ)). (with_quotient o r).overflow) e);
  no_division = λ b r c. ap (λ (o : Option (ℕ × ℕ)). with_quotient o r) (nothing b r c);
}
