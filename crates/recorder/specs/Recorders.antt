-- The recorder, kind 2: the same as the scanner with other functions, and taking, without a list. Behind a terminal's five
-- numbers its control has the count of words handed to it, which wraps at 32 bits, and the latest of them.
use Rattle.std.specs.Prelude.{ℕ, ◌+◌, ◌%◌, Bool, ◌||◌, List, [], ◌∷◌, None, ◌==◌, slice_index, slice_set}
use Rattle.device.specs.declared.answer.Asking.TheVariants.{Take}
use Rattle.device.specs.Meaning.{Meaning}
use Rattle.terminal.specs.declared.state.Terminal.{Terminal}
use Rattle.terminal.specs.Terminals.{in_front, Own, terminal}

abbrev pub recorder_control : Terminal → ℕ → ℕ → List ℕ
recorder_control t count latest = in_front t (count ∷ (latest ∷ []))

abbrev pub count_of : List ℕ → ℕ
count_of c = slice_index c 5

abbrev pub latest_of : List ℕ → ℕ
latest_of c = slice_index c 6

-- Write, Control and Initialize Write
abbrev pub recorder_codes : ℕ → Bool
recorder_codes function = function == 1 || (function == 4 || function == 5)

abbrev pub recorder_own : Own
recorder_own = record {
  kind = 2;
  start = 5;
  codes = recorder_codes;
  left = λ c. 0;
  place = λ c. None;
  gone = λ c. c;
  handed = λ c word. slice_set (slice_set c 5 ((count_of c + 1) % 4294967296)) 6 word;
  wish = λ c. Take;
}

abbrev pub recorder : Meaning
recorder = terminal recorder_own
