-- The scanner, kind 1: brings the words of a lent list, first to last. Behind a terminal's five numbers its control has how many
-- words are left.
use Rattle.std.specs.Prelude.{ℕ, ◌-◌, Bool, cond, ◌||◌, List, [], ◌∷◌, length, Some, None, Option, ◌==◌, nat_lt, slice_index, slice_set}
use Rattle.device.specs.declared.answer.Asking.TheVariants.{Nothing, Bring}
use Rattle.device.specs.Meaning.{Meaning}
use Rattle.terminal.specs.declared.state.Terminal.{Terminal}
use Rattle.terminal.specs.Terminals.{in_front, Own, terminal}

abbrev pub scanner_control : Terminal → List ℕ → List ℕ
scanner_control t words = in_front t (length words ∷ [])

abbrev pub left_of : List ℕ → ℕ
left_of c = slice_index c 5

-- Read, Control and Initialize Read
abbrev pub scanner_codes : ℕ → Bool
scanner_codes function = function == 2 || (function == 4 || function == 6)

-- the first of so many words, if there is one
abbrev pub first_place : ℕ → Option ℕ
first_place n = cond (nat_lt 0 n) (Some 0) None

-- it ignores a word that is handed to it
abbrev pub scanner_own : Own
scanner_own = record {
  kind = 1;
  start = 6;
  codes = scanner_codes;
  left = left_of;
  place = λ c. first_place (left_of c);
  gone = λ c. slice_set c 5 (left_of c - 1);
  handed = λ c word. c;
  wish = λ c. cond (nat_lt 0 (left_of c)) Bring Nothing;
}

abbrev pub scanner : Meaning
scanner = terminal scanner_own
