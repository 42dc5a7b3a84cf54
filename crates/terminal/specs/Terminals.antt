-- A terminal: what a scanner and a recorder have in common. It has an area, a gap, whether it operates, a wait in cycles, and
-- an interrupt line. These are the first five numbers of control; what comes behind them is the make's own.
use Rattle.std.specs.Prelude.{◌≡◌, ℕ, ◌+◌, ◌<◌, ◌-◌, ◌*◌, Bool, true, false, cond, ◌&&◌, List, ◌∷◌, None, Some, Option, ◌==◌, slice_index, slice_set}
use Rattle.device.specs.declared.answer.Asking.{Asking}
use Rattle.device.specs.declared.answer.Asking.TheVariants.{Nothing}
use Rattle.device.specs.Meaning.{Meaning, ChannelMeaning}
use Rattle.device.specs.Calls.{how_many}
use Rattle.terminal.specs.declared.state.Terminal.{Terminal}
use Rattle.terminal.specs.declared.setup.Setup.{Setup}
use Rattle.terminal.specs.Setups.{area_fits, area_made}

abbrev pub bit : Bool → ℕ
bit b = cond b 1 0

-- the number of an area in control: 0, which is no area, where there is none
abbrev pub area_number : Option ℕ → ℕ
area_number None = 0
area_number (Some area) = area

abbrev pub in_front : Terminal → List ℕ → List ℕ
in_front t rest = area_number t.area ∷ (t.gap ∷ (bit t.operating ∷ (t.wait ∷ (bit t.line ∷ rest))))

-- a terminal as it is made: at rest, and of no area where the check refuses
abbrev pub made_terminal : Setup → Terminal
made_terminal s = record { area = area_made s; gap = s.gap; operating = false; wait = 0; line = false }

-- the five numbers by their places
abbrev pub area_of : List ℕ → ℕ
area_of c = slice_index c 0

abbrev pub gap_of : List ℕ → ℕ
gap_of c = slice_index c 1

abbrev pub operates : List ℕ → Bool
operates c = slice_index c 2 == 1

abbrev pub wait_of : List ℕ → ℕ
wait_of c = slice_index c 3

abbrev pub line_on : List ℕ → Bool
line_on c = slice_index c 4 == 1

abbrev pub with_operating : Bool → List ℕ → List ℕ
with_operating b c = slice_set c 2 (bit b)

abbrev pub with_wait : ℕ → List ℕ → List ℕ
with_wait n c = slice_set c 3 n

abbrev pub with_line : Bool → List ℕ → List ℕ
with_line b c = slice_set c 4 (bit b)

-- it answers to its area, if that is an area at all
abbrev pub is_own : ℕ → ℕ → Bool
is_own own area = area_fits area && area == own

abbrev pub answers : List ℕ → ℕ → Bool
answers c area = is_own (area_of c) area

-- the function that starts it does so with wait 0; Control, which is 4, stops it and leaves wait and line; no other
-- function changes anything
abbrev pub obeyed : ℕ → List ℕ → ℕ → List ℕ
obeyed start c function =
    cond (function == start) (with_wait 0 (with_operating true c)) (cond (function == 4) (with_operating false c) c)

-- the line in bit 0, operating in bit 1
abbrev pub status : Bool → Bool → ℕ
status line operating = bit line * 32768 + bit operating * 16384

-- a cycle lowers a wait above 0, at rest too
abbrev pub passed : List ℕ → List ℕ
passed c = with_wait (wait_of c - 1) c

-- rest: stopped, no wait, line off
abbrev pub reset : List ℕ → List ℕ
reset c = with_line false (with_wait 0 (with_operating false c))

-- ready for a word: operating, and no wait
abbrev pub ready : List ℕ → Bool
ready c = operates c && wait_of c == 0

-- after a word has gone through the channel it waits for the gap
abbrev pub used : List ℕ → List ℕ
used c = with_wait (gap_of c) c

-- a table's end stops it unless it goes on, and raises the line if it tells; it never lowers the line
abbrev pub finished : List ℕ → Bool → Bool → List ℕ
finished c go_on tell = cond tell (with_line true (cond go_on c (with_operating false c))) (cond go_on c (with_operating false c))

-- What is a make's own: its kind, the function that starts it, the functions that it takes, the words that it has left and
-- the place of the next, control after that word is gone and after a word is handed over, and what it asks of its channel
-- when it is ready.
pub record Own : Type 0 where
  pub kind : ℕ
  pub start : ℕ
  pub codes : ℕ → Bool
  pub left : List ℕ → ℕ
  pub place : List ℕ → Option ℕ
  pub gone : List ℕ → List ℕ
  pub handed : List ℕ → ℕ → List ℕ
  pub wish : List ℕ → Asking

-- What a terminal asks of what is a make's own: the count of words left stands behind the five numbers, a place is within them, and
-- a word that goes or is handed over leaves the area, and changes that count by the word that is gone.
pub record Apart (own : Own) : Type 0 where
  pub left : (c : List ℕ) (k v : ℕ) → k < 5 → own.left (slice_set c k v) ≡ own.left c
  pub within : (c : List ℕ) (p : ℕ) → own.place c ≡ Some p → p < own.left c
  pub gone_area : (c : List ℕ) → area_of (own.gone c) ≡ area_of c
  pub gone_left : (c : List ℕ) → own.left (own.gone c) + how_many (own.place c) ≡ own.left c
  pub handed_area : (c : List ℕ) (word : ℕ) → area_of (own.handed c word) ≡ area_of c
  pub handed_left : (c : List ℕ) (word : ℕ) → own.left (own.handed c word) ≡ own.left c

abbrev pub terminal_channel : Own → ChannelMeaning
terminal_channel own = record {
  asks = λ c. cond (ready c) (own.wish c) Nothing;
  place = own.place;
  brought = λ c. used (own.gone c);
  taken = λ c word. used (own.handed c word);
  finished = finished;
}

abbrev pub terminal : Own → Meaning
terminal own = record {
  kind = own.kind;
  left = own.left;
  answers = answers;
  takes = λ c area function. answers c area && own.codes function;
  operating = operates;
  line = line_on;
  raised = λ c area. answers c area && line_on c;
  commanded = λ c area function modifier. obeyed own.start c function;
  status = λ c area modifier. status (line_on c) (operates c);
  line_off = λ c area. with_line false c;
  put = λ c area word. own.handed c word;
  place = λ c area. own.place c;
  got = λ c area. own.gone c;
  passed = passed;
  reset = reset;
  channel = terminal_channel own;
}
