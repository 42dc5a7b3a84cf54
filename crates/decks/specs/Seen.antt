-- What is seen of a deck: numbers of the machine and of what it answers, a line after each step or call.
use Rattle.std.specs.Prelude.{ℕ, ◌+◌, false, List, [], ◌∷◌, ◌++◌, Some, None, Option, Ok, Err, slice_index, slice_index_or}
use Rattle.refusal.specs.Numbers.{number}
use Rattle.registers.specs.declared.state.Registers.{Registers}
use Rattle.levels.specs.declared.state.Points.{Points}
use Rattle.levels.specs.Standing.{flag_word}
use Rattle.terminal.specs.Terminals.{operates, line_on}
use Rattle.works.specs.declared.channel.Channel.{Channel}
use Rattle.works.specs.declared.channel.Channel.TheVariants.{Idle, Head, Data, NextHead}
use Rattle.engine.specs.declared.state.Books.{Books}
use Rattle.engine.specs.declared.state.Report.{Report}
use Rattle.engine.specs.declared.state.Works.{Works}
use Rattle.engine.specs.Machine.{Machine, Dev}
use Rattle.controller.specs.declared.call.Outcome.TheVariants.{Done, Stepped, Displayed, Found, Counted}
use Rattle.controller.specs.Console.{Answer, Done as CameTo, i_of, is_stopped}
use Rattle.settled.specs.Examples.{bit}

-- What is seen after each step: I, A, its program cycles and its stolen cycles; or I and its cycles of the three sorts; or I, A, Carry and its
-- faults.
abbrev pub cycles_seen : Machine → Report → List ℕ
cycles_seen s r = i_of s ∷ s.processor.works.registers.a ∷ r.counts.program ∷ r.counts.stolen ∷ []

abbrev pub sorts_of : Report → List ℕ
sorts_of r = r.counts.program ∷ r.counts.stolen ∷ r.counts.idle ∷ []

abbrev pub sorts_seen : Machine → Report → List ℕ
sorts_seen s r = i_of s ∷ sorts_of r

abbrev pub checks_seen : Machine → Report → List ℕ
checks_seen s r = i_of s ∷ s.processor.works.registers.a ∷ bit s.processor.works.registers.carry ∷ r.faults ∷ []

abbrev pub of_steps : (Machine → Report → List ℕ) → Machine → Answer → List ℕ
of_steps f s (Ok (Stepped r)) = f s r
of_steps f s (Ok Done) = []
of_steps f s (Ok (Displayed w)) = []
of_steps f s (Ok (Found a)) = []
of_steps f s (Ok (Counted b)) = []
of_steps f s (Err r) = []

-- What is seen of an answer: 0 where a call answers nothing, a step's cycles of the three sorts, the word that is displayed, one more than the address
-- that is found or 0 for none, the four numbers of a count, the number of a refusal.
abbrev pub after_found : Option ℕ → ℕ
after_found None = 0
after_found (Some a) = a + 1

abbrev pub answer_seen : Answer → List ℕ
answer_seen (Ok Done) = 0 ∷ []
answer_seen (Ok (Stepped r)) = sorts_of r
answer_seen (Ok (Displayed w)) = w ∷ []
answer_seen (Ok (Found a)) = after_found a ∷ []
answer_seen (Ok (Counted b)) = b.program ∷ b.stolen ∷ b.idle ∷ b.told ∷ []
answer_seen (Err r) = number r ∷ []

-- what is seen after each call: I and its answer
abbrev pub answers_seen : Machine → Answer → List ℕ
answers_seen s r = i_of s ∷ answer_seen r

abbrev pub seen_in : (Machine → Answer → List ℕ) → List CameTo → List ℕ
seen_in f [] = []
seen_in f (d ∷ ds) = f d.machine d.answer ++ seen_in f ds

-- All that an immediate stop changes or keeps: the registers; the levels; channel 1, the first device, and whether it is stopped; what the books have.
abbrev pub registers_seen : Registers → List ℕ
registers_seen r = r.i ∷ r.a ∷ r.q ∷ r.x1 ∷ r.x2 ∷ r.x3 ∷ bit r.carry ∷ bit r.overflow ∷ []

abbrev pub levels_seen : Works → Points → List ℕ
levels_seen w p =
    w.masks.low ∷ w.masks.high ∷ flag_word w.flags ∷ bit w.service.internal ∷ bit (slice_index_or w.service.levels 0 false) ∷ slice_index p.words 0 ∷ []

abbrev pub channel_place : Channel → ℕ
channel_place Idle = 0
channel_place (Head a) = a
channel_place (Data a n end) = a
channel_place (NextHead a) = a

abbrev pub running_seen : Works → Dev → List ℕ
running_seen w d = channel_place w.channel1 ∷ bit (operates d.control) ∷ bit (line_on d.control) ∷ bit (is_stopped w.run) ∷ []

abbrev pub books_seen : Books → List ℕ
books_seen b = b.switches.«data» ∷ b.switches.sense ∷ bit b.switches.write_protect ∷ b.totals.program ∷ b.totals.stolen ∷ b.totals.idle ∷ []

abbrev pub state_seen : Machine → List ℕ
state_seen s =
    registers_seen s.processor.works.registers
    ++ levels_seen s.processor.works s.processor.points
    ++ running_seen s.processor.works s.first
    ++ books_seen s.processor.books
