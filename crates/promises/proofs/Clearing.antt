-- Clear and search, on two cores that agree but for stained words.
use Rattle.std.proofs.Common.{◌≡◌, ℕ, zero, suc, ◌+◌, ◌<◌, ◌≤◌, Bool, true, false, cond, not, eqb, ltb, ◌⊎◌, List, [], ◌∷◌, map, length, get_or, Some, None, sym, refl, ap, ◌∙◌, subst, ap₂, inl, inr, ⊎_elim, true≢false, arith, eq-eqb}
use lib.ListN.{length-map, get_or-eq_default}
use Rattle.std.specs.List.{prefix_len}
use Rattle.std.proofs.lemmas.List.{get_or-map}
use Rattle.std.proofs.lemmas.Bool.{cases_lt, cases_Bool}
use Rattle.storage.specs.Word.{data_of, is_protected, parity_right, word_of}
use Rattle.storage.specs.Memory.{first_wrong_address}
use Rattle.engine.specs.Events.{Event, stored_at}
use Rattle.controller.specs.Console.{is_cleared, cleared, unprotected, swept}
use Rattle.promises.specs.Stains.{Stain, stain, stains, StainedSound, Cores}
use Rattle.promises.proofs.Cores.{made_right, made_protected, same_bit, same_parity}

-- every word changed by one rule that keeps what is stained sound
map_sound : (c : List ℕ) (st' : Stain) (f : ℕ → ℕ)
    → ((a : ℕ) → a < length c → st' a ≡ true → (is_protected (f (get_or c a 0)) ≡ false) × (parity_right (f (get_or c a 0)) ≡ true))
    → StainedSound st' (map f c)
map_sound c st' f g = record {
  unprotected = λ a k lt. let l = within a lt in ap is_protected (get_or-map f c a 0 0 l) ∙ (g a l k).0;
  right = λ a k lt. let l = within a lt in ap parity_right (get_or-map f c a 0 0 l) ∙ (g a l k).1;
}
  where
    within : (a : ℕ) → a < length (map f c) → a < length c
    within a lt = subst (λ (n : ℕ). a < n) (length-map c f) lt

-- what is read after it, in both
map_cores : {st : Stain} {c d : List ℕ} (st' : Stain) (f : ℕ → ℕ)
    → ((a : ℕ) → a < length c → st' a ≡ false → f (get_or c a 0) ≡ f (get_or d a 0))
    → StainedSound st' (map f c) → StainedSound st' (map f d) → Cores st c d → Cores st' (map f c) (map f d)
map_cores {st} {c} {d} st' f same first second h = record {
  size = length-map c f ∙ h.size ∙ sym (length-map d f);
  same = λ a k. by a k (cases_lt a (length c));
  first_sound = first;
  second_sound = second;
}
  where
    by : (a : ℕ) → st' a ≡ false → (a < length c) ⊎ (length c ≤ a) → get_or (map f c) a 0 ≡ get_or (map f d) a 0
    by a k (inl lt) = get_or-map f c a 0 0 lt ∙ same a lt k ∙ sym (get_or-map f d a 0 0 (subst (λ (n : ℕ). a < n) h.size lt))
    by a k (inr ge) =
        get_or-eq_default (map f c) 0 (subst (λ (n : ℕ). n ≤ a) (sym (length-map c f)) ge)
        ∙ sym (get_or-eq_default (map f d) 0 (subst (λ (n : ℕ). n ≤ a) (h.size ∙ sym (length-map d f)) ge))

-- a sweep of stores only ends stains, and ends them where it stores
either_falls : (x : Bool) (n : ℕ) (es : List Event) (st : Stain) (a : ℕ) → st a ≡ false → ((su : Stain) → su a ≡ false → stains su es a ≡ false) → stains st (cond x (stored_at n ∷ es) es) a ≡ false
either_falls true n es st a k h = h (stain st (stored_at n)) (falls (eqb a n))
  where
    falls : (b : Bool) → cond b false (st a) ≡ false
    falls true = refl
    falls false = k
either_falls false n es st a k h = h st k

swept_falls : (b : Bool) (n : ℕ) (c : List ℕ) (st : Stain) (a : ℕ) → st a ≡ false → stains st (swept b n c) a ≡ false
swept_falls b n [] st a k = k
swept_falls b n (w ∷ ws) st a k = either_falls (is_cleared b w) n (swept b (n + 1) ws) st a k (λ su q. swept_falls b (n + 1) ws su a q)

swept_only : (b : Bool) (n : ℕ) (c : List ℕ) (st : Stain) (a : ℕ) → stains st (swept b n c) a ≡ true → st a ≡ true
swept_only b n c st a k = ⊎_elim (λ e. e) (λ e. absurd (true≢false (sym k ∙ swept_falls b n c st a e))) (cases_Bool (st a))

swept_here : (b : Bool) (n w : ℕ) (ws : List ℕ) (st : Stain) → is_cleared b w ≡ true → stains st (swept b n (w ∷ ws)) n ≡ false
swept_here b n w ws st k =
    ap (λ (x : Bool). stains st (cond x (stored_at n ∷ swept b (n + 1) ws) (swept b (n + 1) ws)) n) k
    ∙ swept_falls b (n + 1) ws (stain st (stored_at n)) n (ap (λ (x : Bool). cond x false (st n)) (eq-eqb n n refl))

either_ends : (x : Bool) (n : ℕ) (es : List Event) (st : Stain) (a : ℕ) → ((su : Stain) → stains su es a ≡ false) → stains st (cond x (stored_at n ∷ es) es) a ≡ false
either_ends true n es st a h = h (stain st (stored_at n))
either_ends false n es st a h = h st

swept_ends : (b : Bool) (n : ℕ) (c : List ℕ) (st : Stain) (k : ℕ) → k < length c → is_cleared b (get_or c k 0) ≡ true → stains st (swept b n c) (n + k) ≡ false
swept_ends b n [] st k lt e = absurd (omega arith)
swept_ends b n (w ∷ ws) st zero lt e = let z : n + 0 ≡ n = omega arith in subst (λ (x : ℕ). stains st (swept b n (w ∷ ws)) x ≡ false) (sym z) (swept_here b n w ws st e)
swept_ends b n (w ∷ ws) st (suc k) lt e =
    let z : n + 1 + k ≡ n + suc k = omega arith in
    subst (λ (x : ℕ). stains st (swept b n (w ∷ ws)) x ≡ false) z
    (either_ends (is_cleared b w) n (swept b (n + 1) ws) st (n + 1 + k) (λ su. swept_ends b (n + 1) ws su k (omega arith) e))

-- what is cleared follows from the protect bit
same_cleared : (b : Bool) (v w : ℕ) → is_protected v ≡ is_protected w → is_cleared b v ≡ is_cleared b w
same_cleared true v w e = refl
same_cleared false v w e = ap not e

pub same_swept : (b : Bool) (n : ℕ) (c d : List ℕ) → length c ≡ length d → ((a : ℕ) → is_protected (get_or c a 0) ≡ is_protected (get_or d a 0)) → swept b n c ≡ swept b n d
same_swept b n [] [] e h = refl
same_swept b n [] (w ∷ ws) e h = absurd (omega arith)
same_swept b n (v ∷ vs) [] e h = absurd (omega arith)
same_swept b n (v ∷ vs) (w ∷ ws) e h =
    ap₂ (λ (x : Bool) (es : List Event). cond x (stored_at n ∷ es) es) (same_cleared b v w (h 0)) (same_swept b (n + 1) vs ws (omega arith) (λ a. h (suc a)))

-- clear, told Run
stays_or_not : (b : Bool) (x v w : ℕ) → is_protected v ≡ is_protected w → (is_cleared b v ≡ false → v ≡ w) → cleared b x v ≡ cleared b x w
stays_or_not b x v w e h = ⊎_elim on off (cases_Bool (is_cleared b v))
  where
    on : is_cleared b v ≡ true → cleared b x v ≡ cleared b x w
    on k = ap (λ (y : Bool). cond y (word_of (data_of x) false) v) k ∙ sym (ap (λ (y : Bool). cond y (word_of (data_of x) false) w) (sym (same_cleared b v w e) ∙ k))

    off : is_cleared b v ≡ false → cleared b x v ≡ cleared b x w
    off k = ap (cleared b x) (h k)

-- a word that is left alone is protected, so it is not stained
left_protected : (b : Bool) (w : ℕ) → is_cleared b w ≡ false → is_protected w ≡ true
left_protected true w e = absurd (true≢false e)
left_protected false w e = by (is_protected w) e
  where
    by : (x : Bool) → not x ≡ false → x ≡ true
    by true e = refl
    by false e = absurd (true≢false e)

unstained_left : {st : Stain} {c : List ℕ} (b : Bool) (a : ℕ) → StainedSound st c → a < length c → is_cleared b (get_or c a 0) ≡ false → st a ≡ false
unstained_left {st} {c} b a h lt e =
    ⊎_elim (λ k. absurd (true≢false (sym (left_protected b (get_or c a 0) e) ∙ h.unprotected a k lt))) (λ k. k) (cases_Bool (st a))

-- after a sweep of stores no word of core is stained
pub run_sound : {st : Stain} {c : List ℕ} (b : Bool) (x : ℕ) → StainedSound st c → StainedSound (stains st (swept b 0 c)) (map (cleared b x) c)
run_sound {st} {c} b x h =
    map_sound c (stains st (swept b 0 c)) (cleared b x)
    (λ a lt k. absurd (true≢false (sym (swept_only b 0 c st a k) ∙ unstained_left b a h lt (left a lt k))))
  where
    left : (a : ℕ) → a < length c → stains st (swept b 0 c) a ≡ true → is_cleared b (get_or c a 0) ≡ false
    left a lt k =
        let z : 0 + a ≡ a = omega arith in
        ⊎_elim (λ e. absurd (true≢false (sym k ∙ subst (λ (y : ℕ). stains st (swept b 0 c) y ≡ false) z (swept_ends b 0 c st a lt e)))) (λ e. e)
        (cases_Bool (is_cleared b (get_or c a 0)))

pub run_cores : {st : Stain} {c d : List ℕ} (b : Bool) (x : ℕ) → Cores st c d → Cores (stains st (swept b 0 c)) (map (cleared b x) c) (map (cleared b x) d)
run_cores {st} {c} {d} b x h = map_cores (stains st (swept b 0 c)) (cleared b x) same (run_sound b x h.first_sound) second h
  where
    same : (a : ℕ) → a < length c → stains st (swept b 0 c) a ≡ false → cleared b x (get_or c a 0) ≡ cleared b x (get_or d a 0)
    same a lt k = stays_or_not b x (get_or c a 0) (get_or d a 0) (same_bit h a) (λ e. h.same a (unstained_left b a h.first_sound lt e))

    second : StainedSound (stains st (swept b 0 c)) (map (cleared b x) d)
    second =
        subst (λ (es : List Event). StainedSound (stains st es) (map (cleared b x) d)) (sym (same_swept b 0 c d h.size (same_bit h)))
        (run_sound b x h.second_sound)

-- clear, told Display
bits_sound : (b : Bool) (w : ℕ) → (is_protected w ≡ false) × (parity_right w ≡ true) → (is_protected (unprotected b w) ≡ false) × (parity_right (unprotected b w) ≡ true)
bits_sound true w h = (made_protected w false, made_right w false)
bits_sound false w h = h

pub display_sound : {st : Stain} {c : List ℕ} (b : Bool) → StainedSound st c → StainedSound st (map (unprotected b) c)
display_sound {st} {c} b h = map_sound c st (unprotected b) (λ a lt k. bits_sound b (get_or c a 0) (h.unprotected a k lt, h.right a k lt))

pub display_cores : {st : Stain} {c d : List ℕ} (b : Bool) → Cores st c d → Cores st (map (unprotected b) c) (map (unprotected b) d)
display_cores {st} {c} {d} b h =
    map_cores st (unprotected b) (λ a lt k. ap (unprotected b) (h.same a k)) (display_sound b h.first_sound) (display_sound b h.second_sound) h

-- search finds the same: a stained word has right parity in both
leading_same : (p : ℕ → Bool) (c d : List ℕ) → length c ≡ length d → ((a : ℕ) → a < length c → p (get_or c a 0) ≡ p (get_or d a 0)) → prefix_len p c ≡ prefix_len p d
leading_same p [] [] e h = refl
leading_same p [] (w ∷ ws) e h = absurd (omega arith)
leading_same p (v ∷ vs) [] e h = absurd (omega arith)
leading_same p (v ∷ vs) (w ∷ ws) e h =
    ap₂ (λ (x : Bool) (n : ℕ). cond x (1 + n) 0) (h 0 (omega arith)) (leading_same p vs ws (omega arith) (λ a lt. h (suc a) (omega arith)))

pub same_search : {st : Stain} {c d : List ℕ} → Cores st c d → first_wrong_address c ≡ first_wrong_address d
same_search {st} {c} {d} h =
    ap₂ (λ (n k : ℕ). cond (ltb n k) (Some n) None) (leading_same parity_right c d h.size (same_parity h)) h.size
