-- What is due, in the subject's own words.
use Rattle.std.specs.Prelude.{◌≡◌, ◌≢◌, ℕ, ◌<◌, ◌≤◌, true, false, List, length, Some, None, slice_index, slice_index_or}
use Rattle.levels.specs.declared.state.Flags.{Flags}
use Rattle.levels.specs.declared.state.Masks.{Masks}
use Rattle.levels.specs.declared.state.Service.{Service}
use Rattle.levels.specs.declared.state.Interrupt.TheVariants.{Internal, Level}
use Rattle.levels.specs.Standing.{flag_word, is_masked}
use Rattle.levels.specs.Interrupts.{due, highest}

-- a level stands: it has a status and no mask, and nothing from the internal level down to itself is in service
pub record Stands (m : Masks) (words : List ℕ) (s : Service) (n : ℕ) : Type 0 where
  pub status : slice_index words n ≢ 0
  pub unmasked : is_masked m n ≡ false
  pub not_internal : s.internal ≡ false
  pub none_higher : (k : ℕ) → k ≤ n → slice_index_or s.levels k false ≡ false

-- the internal level stands: it has a flag, and is not in service
pub record InternalStands (f : Flags) (s : Service) : Type 0 where
  pub flag : flag_word f ≢ 0
  pub idle : s.internal ≡ false

-- with a status word and a service for each of 24 levels
pub record InterruptRules : Type 0 where
  pub internal_first : (f : Flags) (m : Masks) (words : List ℕ) (s : Service) → InternalStands f s → due f m words s ≡ Some Internal
  pub internal_only : (f : Flags) (m : Masks) (words : List ℕ) (s : Service) → due f m words s ≡ Some Internal → InternalStands f s
  pub level_stands : (f : Flags) (m : Masks) (words : List ℕ) (s : Service) (n : ℕ) → length words ≡ 24 → length s.levels ≡ 24
      → due f m words s ≡ Some (Level n) → (n < 24) × Stands m words s n × ((k : ℕ) → k < n → Stands m words s k → ⊥)
  pub none_stands : (f : Flags) (m : Masks) (words : List ℕ) (s : Service) → length words ≡ 24 → length s.levels ≡ 24
      → due f m words s ≡ None → (InternalStands f s → ⊥) × ((k : ℕ) → k < 24 → Stands m words s k → ⊥)
  -- the highest in service: the internal level, or the level in service with none in service above it, or there is none
  pub highest_internal : (s : Service) → s.internal ≡ true → highest s ≡ Some Internal
  pub highest_level : (s : Service) (n : ℕ) → highest s ≡ Some (Level n) → (s.internal ≡ false) × (slice_index_or s.levels n false ≡ true) × ((k : ℕ) → k < n → slice_index_or s.levels k false ≡ false)
  pub highest_none : (s : Service) → highest s ≡ None → (s.internal ≡ false) × ((k : ℕ) → slice_index_or s.levels k false ≡ false)
