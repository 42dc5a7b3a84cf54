-- The parity bit: the word that is made is sound, and no other is.
use Rattle.std.proofs.Common.{◌≡◌, ℕ, ◌+◌, ◌-◌, ◌%◌, ◌<◌, Bool, true, false, ◌⊎◌, refl, ap, ⊎_elim, add_comm, arith, eq-eqb, eqb-true}
use borrow.Author.Tests.{eqb-false}
use lib.Count.{ones, ones_cat, ones-ones}
use Rattle.storage.specs.Word.{protect_bit, eighteen, seventeen_bits, with_parity, word_of, Sound, OnlyWord}

-- the parity bit is one more one
pub ones_top : (x : ℕ) → x < 131072 → ones (x + 131072) ≡ ones x + 1
ones_top x h =
    let e = ones_cat 17 1 x h in
    let f = ones-ones 1 in
    let a = ap ones (add_comm x 131072) in omega arith

parity_made : (x : ℕ) → x < 131072 → ones (with_parity x) % 2 ≡ 1
parity_made x h = ⊎_elim even odd (parities (ones x))
  where
    parities : (n : ℕ) → (1 - n % 2 ≡ 1) ⊎ (1 - n % 2 ≡ 0)
    parities n = grind arith

    even : 1 - ones x % 2 ≡ 1 → ones (with_parity x) % 2 ≡ 1
    even e = let top = ones_top x h in rw e (omega arith)

    odd : 1 - ones x % 2 ≡ 0 → ones (with_parity x) % 2 ≡ 1
    odd e = let same : x + 0 ≡ x = omega arith in rw (e, same) (omega arith)

with_parity_is : (x : ℕ) → x < 131072 → (with_parity x % 131072 ≡ x) × (with_parity x < 262144)
with_parity_is x h = (omega arith, omega arith)

-- seventeen bits and right parity make a sound word
sound_from : (d w : ℕ) (p : Bool) → d < 65536 → w % 131072 ≡ seventeen_bits d p → w < 262144 → ones w % 2 ≡ 1 → Sound d p w
sound_from d w true h e lt odd =
    let small : eighteen w ≡ w = omega arith in
    record {
      data_is = omega arith;
      protect_is = eq-eqb (protect_bit w) 1 (omega arith);
      parity_is = rw small (eq-eqb (ones w % 2) 1 odd);
      high_is = lt;
    }
sound_from d w false h e lt odd =
    let small : eighteen w ≡ w = omega arith in
    let off : protect_bit w ≡ 0 = omega arith in
    record {
      data_is = omega arith;
      protect_is = rw off refl;
      parity_is = rw small (eq-eqb (ones w % 2) 1 odd);
      high_is = lt;
    }

below : (d : ℕ) (p : Bool) → d < 65536 → seventeen_bits d p < 131072
below d true h = omega arith
below d false h = omega arith

pub word_sound : (d : ℕ) (p : Bool) → d < 65536 → Sound d p (word_of d p)
word_sound d p h =
    let x : ℕ = seventeen_bits d p in
    let lt : x < 131072 = below d p h in
    sound_from d (word_of d p) p h (with_parity_is x lt).0 (with_parity_is x lt).1 (parity_made x lt)

-- a word is its seventeen bits, with the parity bit or without it
parity_only : (x w : ℕ) → w % 131072 ≡ x → w < 262144 → ones w % 2 ≡ 1 → w ≡ with_parity x
parity_only x w e lt odd = ⊎_elim off on without
  where
    without : (w ≡ x) ⊎ (w ≡ x + 131072)
    without = grind arith

    off : w ≡ x → w ≡ with_parity x
    off q = let o = ap ones q in omega arith

    on : w ≡ x + 131072 → w ≡ with_parity x
    on q = let top = ones_top x (omega arith) in let o = ap ones q in omega arith

pub only_word : OnlyWord
only_word d true w h s =
    let small : eighteen w ≡ w = omega (arith, s.high_is) in
    let on = eqb-true (protect_bit w) 1 s.protect_is in
    parity_only (seventeen_bits d true) w (omega (arith, s.data_is, s.high_is)) s.high_is (eqb-true (ones w % 2) 1 (rw small at s.parity_is))
only_word d false w h s =
    let small : eighteen w ≡ w = omega (arith, s.high_is) in
    let off = eqb-false (protect_bit w) 1 s.protect_is in
    parity_only (seventeen_bits d false) w (omega (arith, s.data_is, s.high_is)) s.high_is (eqb-true (ones w % 2) 1 (rw small at s.parity_is))

pub sound_as : (d : ℕ) (p : Bool) (w : ℕ) → d < 65536 → w ≡ word_of d p → Sound d p w
sound_as d p w h e = rw e (word_sound d p h)
