-- Going down a list: the first that passes, and the levels that stand.
use Rattle.std.proofs.Common.{◌≡◌, ℕ, zero, suc, ◌+◌, ◌<◌, ◌≤◌, Bool, true, false, cond, not, ◌&&◌, eqb, ltb, List, [], ◌∷◌, length, get_or, Some, None, Option, refl, ◌∙◌, ⊎_elim, arith}
use Rattle.std.specs.Array.{IsFromFnResult, IsFromFnResultFrom}
use Rattle.std.specs.Fn.{Called}
use Rattle.std.specs.List.{position, position_or_len}
use Rattle.std.specs.Option.{unwrap_or}
use Rattle.std.proofs.lemmas.Bool.{cases_lt}
use Rattle.std.proofs.lemmas.Bool.Decides.{nat_tests}
use Rattle.std.proofs.lemmas.List.Quantifiers.{position-Some}
use Rattle.std.proofs.lemmas.List.Sums.{fails_before_first, prefix_len-le-length}
use denote.Param.Members.{Mut}
use Rattle.levels.specs.declared.state.Masks.{Masks}
use Rattle.levels.specs.declared.state.LevelWish.{LevelWish}
use Rattle.levels.specs.Choice.{Chosen}
use Rattle.levels.specs.Standing.{is_masked, standing}

-- where none is found, none passes
pub none_passes : {R : Type 0} (p : R → Bool) (xs : List R) (k : ℕ) (d : R) → position p xs ≡ None → k < length xs → p (get_or xs k d) ≡ false
none_passes p xs k d e h = fails_before_first p xs k d (grind (arith, nat_tests))

pub chosen : {R : Type 0} (p : R → Bool) (xs : List R) (r : Option ℕ) → position p xs ≡ r → Chosen p xs r
chosen p xs None e = λ k d h. none_passes p xs k d e h
chosen p xs (Some i) e = (
  grind (arith, nat_tests),
  (λ d. (position-Some p xs i d e).1),
  (λ k d h. (position-Some p xs i d e).2 k h),
)

-- the place of the first, or else the length
pub first_or_length : {R : Type 0} (p : R → Bool) (xs : List R) (n : ℕ) → length xs ≡ n → unwrap_or (position p xs) n ≡ position_or_len p xs
first_or_length p xs n e = rw (← e) (cut (position_or_len p xs) (length xs) (prefix_len-le-length _ xs))
  where
    cut : (a n : ℕ) → a ≤ n → unwrap_or (cond (ltb a n) (Some a) None) n ≡ a
    cut a n h = grind (arith, nat_tests)

-- what `array::from_fn` puts at an index, where each call of its closure f gives h of the index and leaves f as it is
module _ {F B : Type 0} (g : Mut F (ℕ × Unit {0}) B) (h : ℕ → B) (f : F) (pure : (i : ℕ) (y : B) (q : F) → Called g f (i, tt) y q → (q ≡ f) × (y ≡ h i)) where
  from : (ys : List B) (n i : ℕ) → IsFromFnResultFrom g f ys i n → (k : ℕ) (d : B) → i ≤ k → k < i + n → get_or ys k d ≡ h k
  from ys zero i e k d l u = absurd (omega arith)
  from ys (suc n) i e k d l u =
      let p = pure i e.1 e.0 e.3 in
      ⊎_elim (λ m. from ys n (i + 1) (rw p.0 at e.4) k d (omega arith) (omega arith))
      (λ m. let same : k ≡ i = omega arith in rw same (e.2.1 d ∙ p.1)) (cases_lt i k)

pub from_fn_at : {F B : Type 0} {g : Mut F (ℕ × Unit {0}) B} {f : F} {ys : List B} {n : ℕ} (h : ℕ → B) → IsFromFnResult g f ys n
    → ((i : ℕ) (y : B) (q : F) → Called g f (i, tt) y q → (q ≡ f) × (y ≡ h i)) → (k : ℕ) (d : B) → k < n → get_or ys k d ≡ h k
from_fn_at {g = g} {f = f} {ys = ys} {n = n} h r pure k d l = from g h f pure ys n 0 r.each k d (omega arith) (omega arith)

-- a level is free where it lies above the first in service
free_here : (s : Bool) (p : ℕ) → not s ≡ ltb 0 (cond (not s) (1 + p) 0)
free_here true p = grind (arith, nat_tests)
free_here false p = grind (arith, nat_tests)

free_below : (free s : Bool) (k p : ℕ) → ((free && not s) && ltb k p) ≡ (free && ltb (suc k) (cond (not s) (1 + p) 0))
free_below false s k p = refl
free_below true true k p = grind (arith, nat_tests)
free_below true false k p = grind (arith, nat_tests)

-- what a level wishes, at its place in the list
module _ (m : Masks) where
  wish_at : (free : Bool) (n : ℕ) (ss : List Bool) (ws : List ℕ) (k : ℕ) (d : LevelWish) → k < length ss → k < length ws
      → get_or (standing m free n ss ws) k d
      ≡ record { level = n + k; wish = (free && ltb k (position_or_len (λ on. on) ss)) && (not (is_masked m (n + k)) && not (eqb (get_or ws k 0) 0)) }
  wish_at free n [] ws k d h l = absurd (omega arith)
  wish_at free n (s ∷ ss) [] k d h l = absurd (omega arith)
  wish_at free n (s ∷ ss) (w ∷ ws) zero d h l = let e : n + 0 ≡ n = omega arith in rw (e, ← free_here s (position_or_len (λ on. on) ss))
  wish_at free n (s ∷ ss) (w ∷ ws) (suc k) d h l =
      let e : n + suc k ≡ n + 1 + k = omega arith in
      rw (e, ← free_below free s k (position_or_len (λ on. on) ss)) (wish_at (free && not s) (n + 1) ss ws k d (omega arith) (omega arith))

  pub standing_at : (free : Bool) (ss : List Bool) (ws : List ℕ) (k : ℕ) (d : LevelWish) → k < length ss → k < length ws
      → get_or (standing m free 0 ss ws) k d
      ≡ record { level = k; wish = (free && ltb k (position_or_len (λ on. on) ss)) && (not (is_masked m k) && not (eqb (get_or ws k 0) 0)) }
  standing_at free ss ws k d h l = let z : 0 + k ≡ k = omega arith in rw z at (wish_at free 0 ss ws k d h l)

  pub how_long : (free : Bool) (n : ℕ) (ss : List Bool) (ws : List ℕ) → length ss ≡ length ws → length (standing m free n ss ws) ≡ length ss
  how_long free n [] ws e = refl
  how_long free n (s ∷ ss) [] e = absurd (omega arith)
  how_long free n (s ∷ ss) (w ∷ ws) e = let r = how_long (free && not s) (n + 1) ss ws (omega arith) in omega arith
