-- Stained words: those where a word that was got from a device, or brought by its channel, was the last stored. A copy that the program makes of such a
-- word is none: to make it, the program reads a stained word, and its own store ends any stain where it stores.
use Rattle.std.specs.Prelude.{◌≡◌, ℕ, ◌<◌, Bool, true, false, cond, List, [], ◌∷◌, length, ◌==◌, slice_index}
use Rattle.storage.specs.Word.{is_protected, parity_right}
use Rattle.engine.specs.Machine.{Machine}
use Rattle.engine.specs.Events.{Event, read_from, stored_at, brought_to, called}

-- which addresses are stained; at opening none is
abbrev pub Stain : Type 0
Stain = ℕ → Bool

abbrev pub unstained : Stain
unstained a = false

-- A store of a device's word, as it was got or brought, marks the address; any other store clears the mark.
abbrev pub stain : Stain → Event → Stain
stain st (read_from a) b = st b
stain st (stored_at a) b = cond (b == a) false (st b)
stain st (brought_to a) b = cond (b == a) true (st b)
stain st (called p c) b = st b

abbrev pub stains : Stain → List Event → Stain
stains st [] = st
stains st (e ∷ es) = stains (stain st e) es

-- one event, and a list of them, that read no stained word
abbrev pub ReadsUnstained : Stain → Event → Type 0
ReadsUnstained st (read_from a) = st a ≡ false
ReadsUnstained st (stored_at a) = Unit {0}
ReadsUnstained st (brought_to a) = Unit {0}
ReadsUnstained st (called p c) = Unit {0}

abbrev pub ReadsNoStain : Stain → List Event → Type 0
ReadsNoStain st [] = Unit {0}
ReadsNoStain st (e ∷ es) = ReadsUnstained st e × ReadsNoStain (stain st e) es

-- what is stained has no protection, and good parity
pub record StainedSound (st : Stain) (c : List ℕ) : Type 0 where
  pub unprotected : (a : ℕ) → st a ≡ true → a < length c → is_protected (slice_index c a) ≡ false
  pub right : (a : ℕ) → st a ≡ true → a < length c → parity_right (slice_index c a) ≡ true

-- two cores that agree but for the stained words, which are unprotected and of right parity in both
pub record Cores (st : Stain) (c d : List ℕ) : Type 0 where
  pub size : length c ≡ length d
  pub same : (a : ℕ) → st a ≡ false → slice_index c a ≡ slice_index d a
  pub first_sound : StainedSound st c
  pub second_sound : StainedSound st d

-- two machines that nothing which reads no stained word can tell apart: all is equal but the stained words, and the words that the
-- devices have yet to bring
pub record Alike (st : Stain) (s t : Machine) : Type 0 where
  pub processor : s.processor ≡ t.processor
  pub first : s.first.control ≡ t.first.control
  pub second : s.second.control ≡ t.second.control
  pub third : s.third.control ≡ t.third.control
  pub fourth : s.fourth.control ≡ t.fourth.control
  pub cores : Cores st s.core t.core
