-- A level that is due is one of those that have a status word.
use Rattle.std.proofs.Common.{◌≡◌, ℕ, zero, suc, ◌+◌, ◌<◌, ◌≤◌, Bool, true, false, cond, not, ◌&&◌, eqb, List, [], ◌∷◌, length, get_or, replicate, Some, None, Option, sym, refl, ap, ◌∙◌, ap₂, true≢false, arith}
use Rattle.std.specs.List.{position}
use Rattle.std.specs.Option.{option_map}
use Rattle.levels.specs.declared.state.Flags.{Flags}
use Rattle.levels.specs.declared.state.Interrupt.{Interrupt}
use Rattle.levels.specs.declared.state.Interrupt.TheVariants.{Internal, Level}
use Rattle.levels.specs.declared.state.LevelWish.{LevelWish}
use Rattle.levels.specs.declared.state.Masks.{Masks}
use Rattle.levels.specs.declared.state.Service.{Service}
use Rattle.levels.specs.Choice.{behind, first_behind}
use Rattle.levels.specs.Standing.{flag_word, is_masked, standing}
use Rattle.levels.specs.Interrupts.{due}
use Rattle.levels.proofs.Walks.{chosen}

standing_few : (m : Masks) (free : Bool) (n : ℕ) (serving : List Bool) (words : List ℕ) → length (standing m free n serving words) ≤ length words
standing_few m free n [] words = omega arith
standing_few m free n (s ∷ serving) [] = omega arith
standing_few m free n (s ∷ serving) (w ∷ words) = let h = standing_few m (free && not s) (n + 1) serving words in omega arith

is_level : Option Interrupt → Bool
is_level None = false
is_level (Some Internal) = false
is_level (Some (Level n)) = true

level_in : ℕ → Option Interrupt → ℕ
level_in d None = d
level_in d (Some Internal) = d
level_in d (Some (Level n)) = n

pub due_range : (f : Flags) (m : Masks) (words : List ℕ) (s : Service) (l : ℕ) → due f m words s ≡ Some (Level l) → l < length words
unfolding is_level level_in
due_range f m words s l e = by (not s.internal && not (eqb (flag_word f) 0)) e
  where
    found : (o : Option ℕ) → position (λ x. behind None x.level && x.wish) (standing m (not s.internal) 0 s.levels words) ≡ o → option_map Level o ≡ Some (Level l) → l < length words
    found None k q = absurd (true≢false (sym (ap is_level q)))
    found (Some i) k q =
        let lt = (chosen (λ (x : LevelWish). behind None x.level && x.wish) (standing m (not s.internal) 0 s.levels words) (Some i) k).0 in
        let le = standing_few m (not s.internal) 0 s.levels words in
        let same : i ≡ l = ap (level_in 0) q in
        omega arith

    by : (b : Bool) → cond b (Some Internal) (option_map Level (first_behind (λ x. x.level) (λ x. x.wish) None (standing m (not s.internal) 0 s.levels words))) ≡ Some (Level l) → l < length words
    by true q = absurd (true≢false (sym (ap is_level q)))
    by false q = found (first_behind (λ x. x.level) (λ x. x.wish) None (standing m (not s.internal) 0 s.levels words)) refl q

-- Nothing is due with no flag and no status.
never : (a b : Bool) → (a && (b && false)) ≡ false
never true true = refl
never true false = refl
never false b = refl

quiet_at : (m : Masks) (free : Bool) (n k i : ℕ) (serving : List Bool) → (get_or (standing m free n serving (replicate k 0)) i (record { level = 0; wish = false })).wish ≡ false
quiet_at m free n k i [] = refl
quiet_at m free n zero i (s ∷ serving) = refl
quiet_at m free n (suc k) zero (s ∷ serving) = never (free && not s) (not (is_masked m n))
quiet_at m free n (suc k) (suc i) (s ∷ serving) = quiet_at m (free && not s) (n + 1) k i serving

none_stands : (m : Masks) (free : Bool) (k : ℕ) (serving : List Bool) (o : Option ℕ) → first_behind (λ w. w.level) (λ w. w.wish) None (standing m free 0 serving (replicate k 0)) ≡ o → o ≡ None
none_stands m free k serving None e = refl
none_stands m free k serving (Some i) e =
    let h = (chosen (λ (w : LevelWish). behind None w.level && w.wish) (standing m free 0 serving (replicate k 0)) (Some i) e).1 (record { level = 0; wish = false }) in
    absurd (true≢false (sym h ∙ quiet_at m free 0 k i serving))

pub none_due : (f : Flags) (m : Masks) (words : List ℕ) (s : Service) (k : ℕ) → flag_word f ≡ 0 → words ≡ replicate k 0 → due f m words s ≡ None
none_due f m words s k e h =
    ap₂ (λ (x : ℕ) (ws : List ℕ). cond (not s.internal && not (eqb x 0)) (Some Internal) (option_map Level (first_behind (λ w. w.level) (λ w. w.wish) None (standing m (not s.internal) 0 s.levels ws)))) e h
    ∙ ap (λ (b : Bool). cond b (Some Internal) (option_map Level (first_behind (λ w. w.level) (λ w. w.wish) None (standing m (not s.internal) 0 s.levels (replicate k 0))))) (never true (not s.internal))
    ∙ ap (λ (o : Option ℕ). option_map Level o) (none_stands m (not s.internal) k s.levels _ refl)
