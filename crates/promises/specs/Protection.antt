-- Protected words, and when the write-protect switch last left Yes.
use Rattle.std.specs.Prelude.{◌≡◌, ℕ, Bool, true, false, List, [], ◌∷◌, ◌++◌, slice_index}
use Rattle.storage.specs.Word.{is_protected}
use Rattle.engine.specs.Machine.{Machine}
use Rattle.engine.specs.Makes.{Makes}
use Rattle.controller.specs.declared.call.Entry.{Entry}
use Rattle.controller.specs.Run.{enter, after}

abbrev pub at_yes : Machine → Bool
at_yes s = s.processor.books.switches.write_protect

-- the words that were protected in c are in d the very same numbers, so the same eighteen bits
pub record Stands (c d : List ℕ) : Type 0 where
  pub words : (a : ℕ) → is_protected (slice_index c a) ≡ true → slice_index d a ≡ slice_index c a

-- The core to be held to after an entry: the one that it left, if the switch left Yes by it; else the one held to until then.
abbrev pub held_by : Bool → Bool → List ℕ → List ℕ → List ℕ
held_by true false before left = left
held_by true true before left = before
held_by false false before left = before
held_by false true before left = before

-- the core as it was when the switch last left Yes within the list; c if it never did
abbrev pub when_left_yes : Makes → List Entry → Machine → List ℕ → List ℕ
when_left_yes m [] s c = c
when_left_yes m (e ∷ es) s c =
    let t = (enter m e s).machine in when_left_yes m es t (held_by (at_yes s) (at_yes t) c t.core)

-- the switch is at No from a machine on, through a list of calls, to its end
abbrev pub AlwaysNo : Makes → List Entry → Machine → Type 0
AlwaysNo m [] s = at_yes s ≡ false
AlwaysNo m (e ∷ es) s = (at_yes s ≡ false) × AlwaysNo m es (enter m e s).machine

-- Protected words stay, on any machine, not only on one just opened. If the switch is at No after the list, nothing has changed of what was protected
-- when it last went from Yes to No within the list, or, where it never did, when the list began. And from whatever call on the switch stayed at No,
-- nothing that was protected then has changed.
pub record ProtectedWordsStay (m : Makes) (es : List Entry) (s : Machine) : Type 0 where
  pub since_left_yes : at_yes (after m es s) ≡ false → Stands (when_left_yes m es s s.core) (after m es s).core
  pub since_any_call : (before rest : List Entry) → es ≡ before ++ rest → AlwaysNo m rest (after m before s)
      → Stands (after m before s).core (after m es s).core
