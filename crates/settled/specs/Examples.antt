-- The settled examples: numbers that were agreed by hand before there was any code, and worked examples of the machine's manual. One
-- list for the whole controller; an example says which numbers the definitions work out, and which were settled.
use Rattle.std.specs.Prelude.{◌≡◌, ℕ, Bool, true, false, if◌then◌else◌, List, [], ◌∷◌, ◌++◌, map, Some}
use Rattle.std.specs.List.{AllByRecursion}
use Rattle.storage.specs.Word.{word_of}
use Rattle.instruction.specs.declared.words.Index.TheVariants.{One}
use Rattle.instruction.specs.declared.words.Conditions.{Conditions}
use Rattle.instruction.specs.declared.words.Fields.{Fields}
use Rattle.registers.specs.declared.state.Registers.{Registers}
use Rattle.registers.specs.Arithmetic.{added, divided}
use Rattle.registers.specs.Shifts.{shifted_left}
use Rattle.registers.specs.Branches.{holds}

pub record Example : Type 0 where
  pub worked_out : List ℕ
  pub settled : List ℕ

-- the storage words of data 1, of data 1 protected, and of data 0
abbrev pub word_examples : List Example
word_examples =
    record { worked_out = word_of 1 false ∷ []; settled = 1 ∷ [] }
    ∷ (record { worked_out = word_of 1 true ∷ []; settled = 196609 ∷ [] }
    ∷ (record { worked_out = word_of 0 false ∷ []; settled = 131072 ∷ [] } ∷ []))

-- registers with A, Q and index register 1 as given, and the five numbers that an example looks at
abbrev pub holding : ℕ → ℕ → ℕ → Registers
holding a q x = record { i = 0; a = a; q = q; x1 = x; x2 = 0; x3 = 0; carry = false; overflow = false }

abbrev pub bit : Bool → ℕ
bit b = if b then 1 else 0

abbrev pub seen : Registers → List ℕ
seen r = r.a ∷ (r.q ∷ (r.x1 ∷ (bit r.carry ∷ (bit r.overflow ∷ []))))

-- 32,767 and 1 make -32,768 with Overflow on and Carry off; -1 and 1 make 0 with Carry on
abbrev pub sum_examples : List Example
sum_examples =
    record { worked_out = seen (added 1 (holding 32767 0 0)); settled = 32768 ∷ (0 ∷ (0 ∷ (0 ∷ (1 ∷ [])))) }
    ∷ (record { worked_out = seen (added 1 (holding 65535 0 0)); settled = 0 ∷ (0 ∷ (0 ∷ (1 ∷ (0 ∷ [])))) } ∷ [])

-- -7 by 2 is -3 with remainder -1; 32,768 by 1 only turns Overflow on
abbrev pub division_examples : List Example
division_examples =
    record { worked_out = seen (divided 2 (holding 65535 65529 0)); settled = 65533 ∷ (65535 ∷ (0 ∷ (0 ∷ (0 ∷ [])))) }
    ∷ (record { worked_out = seen (divided 1 (holding 0 32768 0)); settled = 0 ∷ (32768 ∷ (0 ∷ (0 ∷ (1 ∷ [])))) } ∷ [])

-- shift left and count A, by index register 1
abbrev pub no_conditions : Conditions
no_conditions = record { zero = false; minus = false; plus = false; even = false; carry_off = false; overflow_off = false }

abbrev pub count_a : Fields
count_a = record { long = false; tag = Some One; displacement = 64; indirect = false; branch_out = true; conditions = no_conditions; count = 0 }

-- with index register 0145 hexadecimal: A 1000 gives 8000, index 0102 and Carry on; A 0 gives index 0100 and Carry off
abbrev pub shift_examples : List Example
shift_examples =
    record { worked_out = seen (shifted_left count_a (holding 4096 0 325)); settled = 32768 ∷ (0 ∷ (258 ∷ (1 ∷ (0 ∷ [])))) }
    ∷ (record { worked_out = seen (shifted_left count_a (holding 0 0 325)); settled = 0 ∷ (0 ∷ (256 ∷ (0 ∷ (0 ∷ [])))) } ∷ [])

-- the manual's four examples of the same: A 0800, counts 3, 4, 5 and 6
abbrev pub counting_examples : List Example
counting_examples =
    record { worked_out = seen (shifted_left count_a (holding 2048 0 3)); settled = 16384 ∷ (0 ∷ (0 ∷ (0 ∷ (0 ∷ [])))) }
    ∷ (record { worked_out = seen (shifted_left count_a (holding 2048 0 4)); settled = 32768 ∷ (0 ∷ (0 ∷ (0 ∷ (0 ∷ [])))) }
    ∷ (record { worked_out = seen (shifted_left count_a (holding 2048 0 5)); settled = 32768 ∷ (0 ∷ (1 ∷ (1 ∷ (0 ∷ [])))) }
    ∷ (record { worked_out = seen (shifted_left count_a (holding 2048 0 6)); settled = 32768 ∷ (0 ∷ (2 ∷ (1 ∷ (0 ∷ [])))) } ∷ [])))

-- the manual's table of conditions: with zero, minus, plus and even named or not, whether a skip is taken at 0, 1, 2, -1 and -2
abbrev pub skips_at : Bool → Bool → Bool → Bool → List ℕ
skips_at z m p e =
    map (λ a. bit (holds (record { zero = z; minus = m; plus = p; even = e; carry_off = false; overflow_off = false }) (holding a 0 0)))
    (0 ∷ (1 ∷ (2 ∷ (65535 ∷ (65534 ∷ [])))))

abbrev pub row : Bool → Bool → Bool → Bool → ℕ → ℕ → ℕ → ℕ → ℕ → Example
row z m p e a b c d f = record { worked_out = skips_at z m p e; settled = a ∷ (b ∷ (c ∷ (d ∷ (f ∷ [])))) }

abbrev pub condition_examples : List Example
condition_examples =
    row true true true false 1 1 1 1 1
    ∷ (row false false false false 0 0 0 0 0
    ∷ (row false false true false 0 1 1 0 0
    ∷ (row true true false false 1 0 0 1 1
    ∷ (row false true false false 0 0 0 1 1
    ∷ (row true false true false 1 1 1 0 0
    ∷ (row true false false false 1 0 0 0 0
    ∷ (row false true true false 0 1 1 1 1
    ∷ (row false false false true 1 0 1 0 1
    ∷ (row false false true true 1 1 1 0 1
    ∷ (row false true false true 1 0 1 1 1 ∷ []))))))))))

abbrev pub examples : List Example
examples = word_examples ++ (sum_examples ++ (division_examples ++ (shift_examples ++ (counting_examples ++ condition_examples))))

abbrev pub Holds : Example → Type 0
Holds e = e.worked_out ≡ e.settled

abbrev pub AllHold : Type 0
AllHold = AllByRecursion Holds examples

-- what the definitions work out, one after the other
abbrev pub numbers : List Example → List ℕ
numbers [] = []
numbers (e ∷ es) = e.worked_out ++ numbers es
