-- A step: which plan is performed, Check Stop at its end, and what the books gain.
use Rattle.std.specs.Prelude.{ℕ, ◌+◌, Bool, true, false, ◌&&◌, length, Some, None, Option, ◌==◌, nat_lt}
use Rattle.registers.specs.declared.state.Registers.{Registers}
use Rattle.levels.specs.declared.state.Interrupt.{Interrupt}
use Rattle.works.specs.declared.panel.Counts.{Counts}
use Rattle.works.specs.declared.panel.RunState.{RunState}
use Rattle.works.specs.declared.panel.RunState.TheVariants.{Stopped, Running, Waiting}
use Rattle.engine.specs.declared.state.Tally.{Tally}
use Rattle.engine.specs.declared.state.Books.{Books}
use Rattle.engine.specs.declared.state.Processor.{Processor}
use Rattle.engine.specs.declared.state.Report.{Report}
use Rattle.engine.specs.Machine.{Machine, words_of_size, with_processor, with_works, with_tally, with_books, with_run}
use Rattle.engine.specs.Events.{Did, quiet, ◌then◌}
use Rattle.engine.specs.Makes.{Makes}
use Rattle.engine.specs.Levels.{due_now}
use Rattle.engine.specs.Plan.{Plan, done, rest, perform}
use Rattle.engine.specs.Instructions.{instruction}
use Rattle.engine.specs.Interrupt.{forced_branch}

-- An interrupt that is due is served, unless stopped; else an instruction if running; else one idle cycle.
abbrev pub plan_for : RunState → Option Interrupt → Makes → ℕ → Registers → Plan
plan_for Stopped due m n r = rest done
plan_for Running (Some i) m n r = forced_branch n i r
plan_for Running None m n r = instruction m n r
plan_for Waiting (Some i) m n r = forced_branch n i r
plan_for Waiting None m n r = rest done

abbrev pub step_plan : Makes → Machine → Plan
step_plan m s = plan_for s.processor.works.run (due_now m s) m (length s.core) s.processor.works.registers

-- A step begins with nothing in its tally.
abbrev pub no_counts : Counts
no_counts = record { program = 0; stolen = 0; idle = 0 }

abbrev pub no_tally : Tally
no_tally = record { counts = no_counts; faults = 0; first = None; checked = false }

abbrev pub begun : Machine → Machine
begun s = with_processor (with_tally no_tally s.processor) s

-- At its end, with Check Stop on, a check stops the machine, also where the step left it waiting; and the totals gain the step's counts.
abbrev pub check_stopped : Bool → Processor → Processor
check_stopped true p = with_works (with_run Stopped p.works) p
check_stopped false p = p

abbrev pub summed : Counts → Counts → Counts
summed c d = record { program = c.program + d.program; stolen = c.stolen + d.stolen; idle = c.idle + d.idle }

abbrev pub with_totals : Counts → Books → Books
with_totals c b = record { switches = b.switches; totals = c; size = b.size; accepted = b.accepted; wiring = b.wiring }

abbrev pub booked : Processor → Processor
booked p = with_books (with_totals (summed p.books.totals p.tally.counts) p.books) p

abbrev pub ended_step : Processor → Processor
ended_step p = booked (check_stopped (p.books.switches.check_stop && p.tally.checked) p)

unfoldable pub step : Makes → Machine → Did
step m s = perform m (step_plan m s) (begun s) then (λ t. quiet (with_processor (ended_step t.processor) t))

-- A step is refused with 1 where the core is not lent right: it is not as long as the one that was opened, or the opening was refused; and with 7
-- from 1,000,000,000,000 told cycles on. Every cycle is told, so that is the sum of the three totals.
abbrev pub lent_right : Machine → Bool
lent_right s = s.processor.books.accepted && length s.core == words_of_size s.processor.books.size

abbrev pub told : Counts → ℕ
told c = c.program + c.stolen + c.idle

abbrev pub below_limit : Machine → Bool
below_limit s = nat_lt (told s.processor.books.totals) 1000000000000

-- what a step answers
abbrev pub report_of : Processor → Report
report_of p = record { counts = p.tally.counts; run = p.works.run; faults = p.tally.faults; first = p.tally.first }
