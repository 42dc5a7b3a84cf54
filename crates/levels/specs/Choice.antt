-- The choice of a requester: the first that stands behind a given rank, in the order of the list.
use Rattle.std.specs.Prelude.{◌≡◌, ℕ, ◌<◌, Bool, true, false, ◌&&◌, List, length, Some, None, Option, nat_lt, position, slice_index_or}

-- every rank lies behind none; behind a rank lie those that are greater
abbrev pub behind : Option ℕ → ℕ → Bool
behind None rank = true
behind (Some b) rank = nat_lt b rank

-- the place of the first that stands behind b and wishes
abbrev pub first_behind : {R : Type 0} → (R → ℕ) → (R → Bool) → Option ℕ → List R → Option ℕ
first_behind rank wish b xs = position (λ x. behind b (rank x) && wish x) xs

-- The law of the choice: the one that is chosen passes, and none before it does; or none does.
abbrev pub Chosen : {R : Type 0} → (R → Bool) → List R → Option ℕ → Type 0
Chosen {R} p xs None = (k : ℕ) (d : R) → k < length xs → p (slice_index_or xs k d) ≡ false
Chosen {R} p xs (Some i) = (i < length xs) × ((d : R) → p (slice_index_or xs i d) ≡ true) × ((k : ℕ) (d : R) → k < i → p (slice_index_or xs k d) ≡ false)
