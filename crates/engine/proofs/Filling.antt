-- The status words of all levels, from the four lines, each asked once.
use Rattle.std.proofs.Common.{◌≡◌, ℕ, zero, suc, ◌+◌, ◌-◌, ◌^◌, ◌<◌, Bool, true, false, cond, ◌&&◌, eqb, List, [], ◌∷◌, length, get_or, set, refl, sym, ap, ◌∙◌, ap₂, arith}
use Rattle.std.specs.Prelude.{bit_or}
use Rattle.std.specs.Int.Bits.{or_zero_r}
use Rattle.std.proofs.lemmas.Bool.{lt-ltb}
use Rattle.std.proofs.lemmas.Bool.Decides.{nat_tests}
use Rattle.std.proofs.lemmas.List.{get_or-set_same, get_or-set_other}
use Rattle.std.proofs.lemmas.Nat.Bits.{bit_at_or, same_from_bits}
use Rattle.device.specs.Meaning.{Meaning}
use Rattle.engine.specs.declared.state.Wire.{Wire}
use Rattle.engine.specs.Machine.{Machine, Dev}
use Rattle.engine.specs.Makes.{Makes}
use Rattle.engine.specs.Levels.{line_bit, lines_at, level_status, statuses}

-- a bit is added to one word, and to no other
pub added : (words : List ℕ) (l x i : ℕ) → l < length words → get_or (set words l (bit_or (get_or words l 0) x)) i 0 ≡ bit_or (get_or words i 0) (cond (eqb l i && true) x 0)
added words l x i h = grind (arith, nat_tests, get_or-set_same, get_or-set_other, or_zero_r)

pub not_added : (w x : ℕ) (b c : Bool) → (b && c) ≡ false → w ≡ bit_or w (cond (b && c) x 0)
not_added w x b c e = sym (ap (λ (t : Bool). bit_or w (cond t x 0)) e ∙ or_zero_r w)

-- a level's word with one more line
pub with_line : (m : Meaning) (d : Dev) (w : Wire) (i x y z : ℕ) (b : Bool) → b ≡ m.line d.control → x ≡ bit_or y (cond (eqb w.level i && b) (2 ^ (15 - w.bit)) 0) → y ≡ z
    → x ≡ bit_or z (line_bit m d w i)
with_line m d w i x y z b h e k = e ∙ ap₂ (λ (v : ℕ) (c : Bool). bit_or v (cond (eqb w.level i && c) (2 ^ (15 - w.bit)) 0)) k h

or_assoc : (a b c : ℕ) → bit_or (bit_or a b) c ≡ bit_or a (bit_or b c)
or_assoc a b c = same_from_bits _ _ (λ i. rw (bit_at_or (bit_or a b) c i, bit_at_or a b i, bit_at_or a (bit_or b c) i, bit_at_or b c i) (omega arith))

-- a level's word is its points and then line after line
pub level_lines : (m : Makes) (s : Machine) (i p a b c d : ℕ) → i < 24 → p ≡ get_or s.processor.points.words i 0
    → a ≡ line_bit m.first s.first s.processor.books.wiring.first i → b ≡ line_bit m.second s.second s.processor.books.wiring.second i
    → c ≡ line_bit m.third s.third s.processor.books.wiring.third i → d ≡ line_bit m.fourth s.fourth s.processor.books.wiring.fourth i
    → bit_or (bit_or (bit_or (bit_or p a) b) c) d ≡ level_status m s i
unfolding level_status
level_lines m s i p a b c d lt e ea eb ec ed =
    or_assoc (bit_or (bit_or p a) b) c d ∙ or_assoc (bit_or p a) b (bit_or c d) ∙ or_assoc p a (bit_or b (bit_or c d))
    ∙ ap₂ bit_or e (ap₂ bit_or ea (ap₂ bit_or eb (ap₂ bit_or ec ed)))
    ∙ sym (ap (λ (t : Bool). cond t (bit_or (get_or s.processor.points.words i 0) (lines_at m s i)) (lines_at m s i)) (lt-ltb i 24 lt))

-- words that are each their level's are the status words
pub statuses_by : (m : Makes) (s : Machine) (level n : ℕ) (words : List ℕ) → length words ≡ n → ((i : ℕ) → i < n → get_or words i 0 ≡ level_status m s (level + i))
    → words ≡ statuses m s level n
statuses_by m s level zero [] e h = refl
statuses_by m s level (suc n) (w ∷ ws) e h =
    ap₂ (λ (x : ℕ) (xs : List ℕ). x ∷ xs) (h 0 (omega arith) ∙ ap (λ (k : ℕ). level_status m s k) (omega arith))
    (statuses_by m s (level + 1) n ws (omega arith) (λ i lt. h (suc i) (omega arith) ∙ ap (λ (k : ℕ). level_status m s k) (omega arith)))
statuses_by m s level (suc n) [] e h = absurd (omega arith)
statuses_by m s level zero (w ∷ ws) e h = absurd (omega arith)
