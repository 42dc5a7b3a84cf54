-- Two cores that agree but for stained words, through every store.
use Rattle.std.proofs.Common.{◌≡◌, ℕ, ◌<◌, ◌≤◌, Bool, true, false, eqb, ◌⊎◌, List, length, get_or, set, sym, refl, ap, ◌∙◌, subst, inl, inr, ⊎_elim, true≢false, arith, length-set, get_or-set_other, get_or-set_same, eqb-true}
use lib.ListN.{get_or-eq_default}
use borrow.Author.Tests.{eqb-false}
use Rattle.std.proofs.lemmas.Bool.{cases_lt, cases_Bool}
use Rattle.storage.specs.Word.{data_of, is_protected, parity_right, word_of}
use Rattle.storage.proofs.Parity.{word_sound}
use Rattle.engine.specs.Events.{stored_at, brought_to}
use Rattle.promises.specs.Stains.{Stain, stain, StainedSound, Cores}

-- a stored word has the data, is unprotected or protected as it was meant to be, and has right parity
data_small : (w : ℕ) → data_of w < 65536
data_small w = omega arith

pub made_data : (w : ℕ) (p : Bool) → data_of (word_of (data_of w) p) ≡ data_of w
made_data w p = (word_sound (data_of w) p (data_small w)).data_is

pub made_right : (w : ℕ) (p : Bool) → parity_right (word_of (data_of w) p) ≡ true
made_right w p = (word_sound (data_of w) p (data_small w)).parity_is

pub made_protected : (w : ℕ) (p : Bool) → is_protected (word_of (data_of w) p) ≡ p
made_protected w p = (word_sound (data_of w) p (data_small w)).protect_is

-- a store into one core keeps every stained word sound, if what it stores is, or ends the stain
pub set_sound : {st : Stain} {c : List ℕ} (st' : Stain) (a v : ℕ)
    → ((b : ℕ) → st' b ≡ true → eqb b a ≡ true → (is_protected v ≡ false) × (parity_right v ≡ true))
    → ((b : ℕ) → st' b ≡ true → eqb b a ≡ false → st b ≡ true)
    → StainedSound st c → StainedSound st' (set c a v)
set_sound {st} {c} st' a v at off h = record { unprotected = λ b k lt. (both b k lt).0; right = λ b k lt. (both b k lt).1 }
  where
    within : (b : ℕ) → b < length (set c a v) → b < length c
    within b lt = subst (λ (n : ℕ). b < n) (length-set c a v) lt

    here : (b : ℕ) → b < length c → st' b ≡ true → eqb b a ≡ true → (is_protected (get_or (set c a v) b 0) ≡ false) × (parity_right (get_or (set c a v) b 0) ≡ true)
    here b lt k e =
        let same : get_or (set c a v) b 0 ≡ v =
        ap (λ (x : ℕ). get_or (set c a v) x 0) (eqb-true b a e) ∙ get_or-set_same c a v 0 (subst (λ (x : ℕ). x < length c) (eqb-true b a e) lt) in
        (ap is_protected same ∙ (at b k e).0, ap parity_right same ∙ (at b k e).1)

    there : (b : ℕ) → b < length c → st' b ≡ true → eqb b a ≡ false → (is_protected (get_or (set c a v) b 0) ≡ false) × (parity_right (get_or (set c a v) b 0) ≡ true)
    there b lt k e =
        let same : get_or (set c a v) b 0 ≡ get_or c b 0 = get_or-set_other c a b v 0 (eqb-false b a e) in
        (ap is_protected same ∙ h.unprotected b (off b k e) lt, ap parity_right same ∙ h.right b (off b k e) lt)

    both : (b : ℕ) → st' b ≡ true → b < length (set c a v) → (is_protected (get_or (set c a v) b 0) ≡ false) × (parity_right (get_or (set c a v) b 0) ≡ true)
    both b k lt = ⊎_elim (here b (within b lt) k) (there b (within b lt) k) (cases_Bool (eqb b a))

-- what is read after a store, in both
set_same : {st : Stain} {c d : List ℕ} (st' : Stain) (a v w : ℕ)
    → ((b : ℕ) → st' b ≡ false → eqb b a ≡ true → v ≡ w)
    → ((b : ℕ) → st' b ≡ false → eqb b a ≡ false → st b ≡ false)
    → Cores st c d → (b : ℕ) → st' b ≡ false → get_or (set c a v) b 0 ≡ get_or (set d a w) b 0
set_same {st} {c} {d} st' a v w at off h b k = ⊎_elim here there (cases_Bool (eqb b a))
  where
    within : b ≡ a → v ≡ w → (a < length c) ⊎ (length c ≤ a) → get_or (set c a v) b 0 ≡ get_or (set d a w) b 0
    within e q (inl lt) =
        ap (λ (x : ℕ). get_or (set c a v) x 0) e ∙ get_or-set_same c a v 0 lt ∙ q
        ∙ sym (ap (λ (x : ℕ). get_or (set d a w) x 0) e ∙ get_or-set_same d a w 0 (subst (λ (n : ℕ). a < n) h.size lt))
    within e q (inr ge) =
        get_or-eq_default (set c a v) 0 (subst (λ (n : ℕ). n ≤ b) (sym (length-set c a v)) (subst (λ (x : ℕ). length c ≤ x) (sym e) ge))
        ∙ sym (get_or-eq_default (set d a w) 0 (subst (λ (n : ℕ). n ≤ b) (sym (length-set d a w)) (subst (λ (n : ℕ). n ≤ b) h.size (subst (λ (x : ℕ). length c ≤ x) (sym e) ge))))

    here : eqb b a ≡ true → get_or (set c a v) b 0 ≡ get_or (set d a w) b 0
    here e = within (eqb-true b a e) (at b k e) (cases_lt a (length c))

    there : eqb b a ≡ false → get_or (set c a v) b 0 ≡ get_or (set d a w) b 0
    there e = get_or-set_other c a b v 0 (eqb-false b a e) ∙ h.same b (off b k e) ∙ sym (get_or-set_other d a b w 0 (eqb-false b a e))

-- a store of data that did not come from a device ends the stain
pub own_sound : {st : Stain} {c : List ℕ} (a v : ℕ) → StainedSound st c → StainedSound (stain st (stored_at a)) (set c a v)
own_sound {st} a v h = set_sound (stain st (stored_at a)) a v (λ b k e. absurd (true≢false (sym (rw e at k)))) (λ b k e. rw e at k) h

-- a store of a device's word begins one
pub device_sound : {st : Stain} {c : List ℕ} (a v : ℕ) → (is_protected v ≡ false) × (parity_right v ≡ true)
    → StainedSound st c → StainedSound (stain st (brought_to a)) (set c a v)
device_sound {st} a v p h = set_sound (stain st (brought_to a)) a v (λ b k e. p) (λ b k e. rw e at k) h

-- so it is in both: data of the machine's own are the same in both
pub own_cores : {st : Stain} {c d : List ℕ} (a v w : ℕ) → v ≡ w → Cores st c d → Cores (stain st (stored_at a)) (set c a v) (set d a w)
own_cores {st} {c} {d} a v w q h = record {
  size = length-set c a v ∙ h.size ∙ sym (length-set d a w);
  same = set_same (stain st (stored_at a)) a v w (λ b k e. q) (λ b k e. rw e at k) h;
  first_sound = own_sound a v h.first_sound;
  second_sound = own_sound a w h.second_sound;
}

-- a device's word may be another in either
pub device_cores : {st : Stain} {c d : List ℕ} (a v w : ℕ)
    → (is_protected v ≡ false) × (parity_right v ≡ true) → (is_protected w ≡ false) × (parity_right w ≡ true)
    → Cores st c d → Cores (stain st (brought_to a)) (set c a v) (set d a w)
device_cores {st} {c} {d} a v w p q h = record {
  size = length-set c a v ∙ h.size ∙ sym (length-set d a w);
  same = set_same (stain st (brought_to a)) a v w (λ b k e. absurd (true≢false (rw e at k))) (λ b k e. rw e at k) h;
  first_sound = device_sound a v p h.first_sound;
  second_sound = device_sound a w q h.second_sound;
}

-- protect bits are the same in both, and so is whether parity is right
module _ {st : Stain} {c d : List ℕ} (h : Cores st c d) where
  pub same_bit : (a : ℕ) → is_protected (get_or c a 0) ≡ is_protected (get_or d a 0)
  same_bit a = by_stain (st a) refl
    where
      by_range : st a ≡ true → (a < length c) ⊎ (length c ≤ a) → is_protected (get_or c a 0) ≡ is_protected (get_or d a 0)
      by_range e (inl lt) = h.first_sound.unprotected a e lt ∙ sym (h.second_sound.unprotected a e (subst (λ (n : ℕ). a < n) h.size lt))
      by_range e (inr ge) = ap is_protected (get_or-eq_default c 0 ge ∙ sym (get_or-eq_default d 0 (subst (λ (n : ℕ). n ≤ a) h.size ge)))

      by_stain : (b : Bool) → st a ≡ b → is_protected (get_or c a 0) ≡ is_protected (get_or d a 0)
      by_stain true e = by_range e (cases_lt a (length c))
      by_stain false e = ap is_protected (h.same a e)

  pub same_parity : (a : ℕ) → a < length c → parity_right (get_or c a 0) ≡ parity_right (get_or d a 0)
  same_parity a lt = by_stain (st a) refl
    where
      by_stain : (b : Bool) → st a ≡ b → parity_right (get_or c a 0) ≡ parity_right (get_or d a 0)
      by_stain true e = h.first_sound.right a e lt ∙ sym (h.second_sound.right a e (subst (λ (n : ℕ). a < n) h.size lt))
      by_stain false e = ap parity_right (h.same a e)
