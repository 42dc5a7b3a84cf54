-- Core as a whole: a list of storage words.
use Rattle.std.specs.Prelude.{◌≡◌, ℕ, ◌<◌, Bool, true, false, if◌then◌else◌, ◌||◌, List, length, Some, None, count_by, Option, Ok, Err, Result, ◌==◌, nat_lt, slice_index}
use Rattle.std.specs.List.{prefix_len}
use Rattle.refusal.specs.declared.Refusal.{Refusal}
use Rattle.refusal.specs.declared.Refusal.TheVariants.{Length}
use Rattle.storage.specs.declared.memory.CoreSize.{CoreSize}
use Rattle.storage.specs.declared.memory.CoreSize.TheVariants.{Words4096, Words8192, Words16384, Words32768}
use Rattle.storage.specs.Word.{is_protected, parity_right}

-- the four sizes
abbrev pub core_size : ℕ → Bool
core_size n = n == 4096 || (n == 8192 || (n == 16384 || n == 32768))

abbrev pub words_of_size : CoreSize → ℕ
words_of_size Words4096 = 4096
words_of_size Words8192 = 8192
words_of_size Words16384 = 16384
words_of_size Words32768 = 32768

-- the size of so many words, where that is one of the four
abbrev pub size_of : ℕ → CoreSize
size_of n = if n == 4096 then Words4096 else if n == 8192 then Words8192 else if n == 16384 then Words16384 else Words32768

-- the same of any number; what is no size is refused by length, which is 1
abbrev pub sizing : ℕ → Result CoreSize Refusal
sizing n = if core_size n then Ok (size_of n) else Err Length

abbrev pub protected_count : List ℕ → ℕ
protected_count core = count_by is_protected core

-- how many words stand before the first of wrong parity
abbrev pub right_before : List ℕ → ℕ
right_before core = prefix_len parity_right core

-- the address of the first word whose parity is wrong, if there is one
abbrev pub first_wrong_address : List ℕ → Option ℕ
first_wrong_address core = if nat_lt (right_before core) (length core) then Some (right_before core) else None

-- The law of a search: at the address that it finds parity is wrong, before it parity is right, and where it finds
-- none parity is right everywhere.
abbrev pub Searched : List ℕ → Option ℕ → Type 0
Searched core None = (k : ℕ) → k < length core → parity_right (slice_index core k) ≡ true
Searched core (Some at) =
    (at < length core) × (parity_right (slice_index core at) ≡ false) × ((k : ℕ) → k < at → parity_right (slice_index core k) ≡ true)
