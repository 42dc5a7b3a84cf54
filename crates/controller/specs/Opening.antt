-- Opening tests first; the making that follows always succeeds.
use Rattle.std.specs.Prelude.{ℕ, Bool, true, false, cond, ◌&&◌, List, length, replicate, Ok, Err, Result, nat_lt}
use Rattle.refusal.specs.declared.Refusal.{Refusal}
use Rattle.refusal.specs.declared.Refusal.TheVariants.{Length, Wiring as BadWiring}
use Rattle.storage.specs.Memory.{core_size, size_of}
use Rattle.registers.specs.declared.state.Registers.{Registers}
use Rattle.levels.specs.declared.state.Masks.{Masks}
use Rattle.levels.specs.declared.state.Points.{Points}
use Rattle.levels.specs.declared.state.Service.{Service}
use Rattle.works.specs.declared.channel.Channel.TheVariants.{Idle}
use Rattle.works.specs.declared.panel.Switches.{Switches}
use Rattle.works.specs.declared.panel.RunState.TheVariants.{Stopped}
use Rattle.engine.specs.declared.state.Wire.{Wire}
use Rattle.engine.specs.declared.state.Wiring.{Wiring}
use Rattle.engine.specs.declared.state.Works.{Works}
use Rattle.engine.specs.declared.state.Books.{Books}
use Rattle.engine.specs.declared.state.Processor.{Processor}
use Rattle.engine.specs.Machine.{Machine, Dev}
use Rattle.engine.specs.Levels.{no_flags}
use Rattle.engine.specs.Step.{no_counts, no_tally}

-- a level is 0 to 23, a bit 0 to 15
abbrev pub on_panel : ℕ → ℕ → Bool
on_panel level bit = nat_lt level 24 && nat_lt bit 16

abbrev pub wired : Wire → Bool
wired w = on_panel w.level w.bit

abbrev pub all_wired : Wiring → Bool
all_wired w = wired w.first && (wired w.second && (wired w.third && wired w.fourth))

-- refused by the core's length, which is 1, and then by the wiring, which is 2
abbrev pub opening : ℕ → Wiring → Result (Unit {0}) Refusal
opening n w = cond (core_size n) (cond (all_wired w) (Ok tt) (Err BadWiring)) (Err Length)

abbrev pub is_accepted : Result (Unit {0}) Refusal → Bool
is_accepted (Ok u) = true
is_accepted (Err e) = false

-- As opened: nothing runs, registers are 0, every level is masked, every switch is off. Off is No for the write-protect switch.
abbrev pub switches_off : Switches
switches_off = record { «data» = 0; sense = 0; check_stop = false; write_protect = false }

abbrev pub zero_registers : Registers
zero_registers = record { i = 0; a = 0; q = 0; x1 = 0; x2 = 0; x3 = 0; carry = false; overflow = false }

abbrev pub all_masked : Masks
all_masked = record { low = 65535; high = 255 }

abbrev pub none_in_service : Service
none_in_service = record { levels = replicate 24 false; internal = false }

abbrev pub no_points : Points
no_points = record { words = replicate 24 0 }

abbrev pub opened_works : Works
opened_works = record { registers = zero_registers; masks = all_masked; service = none_in_service; flags = no_flags; channel1 = Idle; channel2 = Idle; channel3 = Idle; run = Stopped }

abbrev pub opened_books : ℕ → Wiring → Books
opened_books n w = record { switches = switches_off; totals = no_counts; size = size_of n; accepted = is_accepted (opening n w); wiring = w }

abbrev pub opened : ℕ → Wiring → Processor
opened n w = record { works = opened_works; points = no_points; tally = no_tally; books = opened_books n w }

-- the machine that is opened over a core and four devices
abbrev pub opened_machine : List ℕ → Wiring → Dev → Dev → Dev → Dev → Machine
opened_machine core w a b c d = record { processor = opened (length core) w; core = core; first = a; second = b; third = c; fourth = d }
