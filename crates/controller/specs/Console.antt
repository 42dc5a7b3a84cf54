-- The twelve calls, each with its refusals in order of their numbers. What is refused leaves the machine as it was. Cycles are made by steps alone.
use Rattle.std.specs.Prelude.{ℕ, ◌+◌, Bool, true, false, cond, not, List, [], ◌∷◌, map, length, Ok, Err, Result}
use Rattle.refusal.specs.declared.Refusal.{Refusal}
use Rattle.refusal.specs.declared.Refusal.TheVariants.{Length, Wiring, NotStopped, Protected, CycleLimit}
use Rattle.storage.specs.Word.{eighteen, data_of, is_protected, word_of}
use Rattle.storage.specs.Memory.{first_wrong_address}
use Rattle.registers.specs.declared.state.Registers.{Registers}
use Rattle.levels.specs.Standing.{latched}
use Rattle.works.specs.declared.panel.Counts.{Counts}
use Rattle.works.specs.declared.panel.Switches.{Switches}
use Rattle.works.specs.declared.panel.RunState.{RunState}
use Rattle.works.specs.declared.panel.RunState.TheVariants.{Stopped, Running, Waiting}
use Rattle.engine.specs.declared.state.Books.{Books}
use Rattle.engine.specs.declared.state.Works.{Works}
use Rattle.engine.specs.declared.state.Processor.{Processor}
use Rattle.engine.specs.Machine.{Machine, place, word_in, with_processor, with_core, with_points, with_books, with_registers, with_run, work}
use Rattle.engine.specs.Events.{Event, read_from, stored_at, reset, Did, quiet, ◌then◌}
use Rattle.engine.specs.Makes.{Makes, calling_all}
use Rattle.engine.specs.declared.place.By.TheVariants.{Program}
use Rattle.engine.specs.Cycle.{storing, refer}
use Rattle.engine.specs.Instructions.{advanced, i_set}
pub use Rattle.engine.specs.Step.{told, below_limit, report_of, lent_right}
use Rattle.engine.specs.Step.{no_counts, no_tally, with_totals, step}
use Rattle.controller.specs.declared.call.Outcome.{Outcome}
use Rattle.controller.specs.declared.call.Outcome.TheVariants.{Done as Accepted, Stepped, Displayed, Found, Counted}
use Rattle.controller.specs.declared.call.Bill.{Bill}
use Rattle.controller.specs.declared.call.Call.{Call}
use Rattle.controller.specs.declared.call.Call.TheVariants.{Step, Start, Stop, ImmediateStop, SetSwitches, Point, LoadI, Load, Display, Clear, Search, Count}
use Rattle.controller.specs.declared.call.ClearMode.{ClearMode}
use Rattle.controller.specs.declared.call.ClearMode.TheVariants.{Run as ClearRun, Display as ClearDisplay}
use Rattle.controller.specs.Opening.{on_panel, opened_works, no_points}

-- a call answers an outcome, or the refusal that turned it down
abbrev pub Answer : Type 0
Answer = Result Outcome Refusal

-- what a call comes to: the machine after it, what took place, and the answer
pub record Done : Type 0 where
  pub machine : Machine
  pub events : List Event
  pub answer : Answer

abbrev pub answered : (Machine → Answer) → Did → Done
answered f d = record { machine = d.machine; events = d.events; answer = f d.machine }

abbrev pub accepted : Did → Done
accepted d = answered (λ s. Ok Accepted) d

abbrev pub refuse : Refusal → Machine → Done
refuse r s = record { machine = s; events = []; answer = Err r }

abbrev pub only_if : Bool → Refusal → (Machine → Done) → Machine → Done
only_if true r call s = call s
only_if false r call s = refuse r s

abbrev pub stepping : Makes → Machine → Done
stepping m s = answered (λ t. Ok (Stepped (report_of t.processor))) (step m s)

-- Immediate stop: the index registers, the totals, the switches and what opening was given stay, all else is as it was opened, and each device is
-- reset.
abbrev pub stopped_registers : Registers → Registers
stopped_registers r = record { i = 0; a = 0; q = 0; x1 = r.x1; x2 = r.x2; x3 = r.x3; carry = false; overflow = false }

abbrev pub stopped_works : Works → Works
stopped_works w = with_registers (stopped_registers w.registers) opened_works

abbrev pub at_rest : Processor → Processor
at_rest p = record { works = stopped_works p.works; points = no_points; tally = no_tally; books = p.books }

abbrev pub stopping : Makes → Machine → Done
stopping m s = accepted (calling_all m reset (with_processor (at_rest s.processor) s))

abbrev pub with_switches : Switches → Books → Books
with_switches w b = record { switches = w; totals = b.totals; size = b.size; accepted = b.accepted; wiring = b.wiring }

abbrev pub switching : Switches → Machine → Done
switching w s = accepted (quiet (with_processor (with_books (with_switches w s.processor.books) s.processor) s))

-- Point: a bit of a level's status word is latched.
abbrev pub latching : ℕ → ℕ → Machine → Done
latching level bit s = accepted (quiet (with_processor (with_points (record { words = latched level bit s.processor.points.words }) s.processor) s))

abbrev pub is_stopped : RunState → Bool
is_stopped Stopped = true
is_stopped Running = false
is_stopped Waiting = false

abbrev pub when_stopped : (Machine → Done) → Machine → Done
when_stopped call s = only_if (is_stopped s.processor.works.run) NotStopped call s

-- Load I, load and display: I from the data entry switches; a word from them at I, stored as any store; the word at I, unchecked. After
-- the last two I is one more.
abbrev pub data_switches : Machine → ℕ
data_switches s = s.processor.books.switches.«data»

abbrev pub change_i : (ℕ → Registers → Registers) → Machine → Machine
change_i f s = work (λ w. with_registers (f (length s.core) w.registers) w) s

abbrev pub loading_i : Machine → Done
loading_i s = accepted (quiet (change_i (λ n. i_set n (data_switches s)) s))

abbrev pub i_of : Machine → ℕ
i_of s = s.processor.works.registers.i

abbrev pub next_i : Machine → Did
next_i s = quiet (change_i (λ n. advanced n 1) s)

abbrev pub loading : Machine → Done
loading s = accepted (refer Program (storing (i_of s) (data_switches s)) s then next_i)

abbrev pub displaying : Machine → Done
displaying s =
    answered (λ t. Ok (Displayed (eighteen (word_in (i_of s) s)))) (record { machine = s; events = read_from (place (i_of s) s) ∷ [] } then next_i)

-- Clear. Told Run: the switches' data everywhere, all protection gone; at No, protected words are spared. Told Display: protection gone, data
-- as they were, parity made right; at No, nothing.
abbrev pub is_cleared : Bool → ℕ → Bool
is_cleared true w = true
is_cleared false w = not (is_protected w)

abbrev pub cleared : Bool → ℕ → ℕ → ℕ
cleared at_yes d w = cond (is_cleared at_yes w) (word_of (data_of d) false) w

abbrev pub unprotected : Bool → ℕ → ℕ
unprotected true w = word_of (data_of w) false
unprotected false w = w

-- told Run it stores words; told Display it stores none
abbrev pub swept : Bool → ℕ → List ℕ → List Event
swept at_yes a [] = []
swept at_yes a (w ∷ ws) = cond (is_cleared at_yes w) (stored_at a ∷ swept at_yes (a + 1) ws) (swept at_yes (a + 1) ws)

abbrev pub clearing : ClearMode → Bool → Machine → Did
clearing ClearRun at_yes s = record { machine = with_core (map (cleared at_yes (data_switches s)) s.core) s; events = swept at_yes 0 s.core }
clearing ClearDisplay at_yes s = quiet (with_core (map (unprotected at_yes) s.core) s)

-- Search: the lowest address with wrong parity, if there is one. It is no read.
abbrev pub searching : Machine → Done
searching s = answered (λ t. Ok (Found (first_wrong_address t.core))) (quiet s)

-- Count answers the totals, and zeroes them.
abbrev pub bill_of : Counts → Bill
bill_of c = record { program = c.program; stolen = c.stolen; idle = c.idle; told = told c }

abbrev pub counting : Machine → Done
counting s =
    answered (λ t. Ok (Counted (bill_of s.processor.books.totals)))
    (quiet (with_processor (with_books (with_totals no_counts s.processor.books) s.processor) s))

-- each call, its own refusals first
abbrev pub made_call : Makes → Call → Machine → Done
made_call m Step s = only_if (below_limit s) CycleLimit (stepping m) s
made_call m Start s = accepted (quiet (work (with_run Running) s))
made_call m Stop s = accepted (quiet (work (with_run Stopped) s))
made_call m ImmediateStop s = stopping m s
made_call m (SetSwitches w) s = switching w s
made_call m (Point level bit) s = only_if (on_panel level bit) Wiring (latching level bit) s
made_call m LoadI s = when_stopped loading_i s
made_call m Load s = when_stopped (λ t. only_if (not (is_protected (word_in (i_of t) t))) Protected loading t) s
made_call m Display s = when_stopped displaying s
made_call m (Clear mode) s = when_stopped (λ t. accepted (clearing mode t.processor.books.switches.write_protect t)) s
made_call m Search s = when_stopped searching s
made_call m Count s = counting s

-- Before all else, refused with 1: a core that is not lent right.
unfoldable pub call : Makes → Call → Machine → Done
call m c s = only_if (lent_right s) Length (made_call m c) s
