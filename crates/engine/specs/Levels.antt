-- The levels of a machine: status words, what is due, and what a sense of interrupts answers.
use Rattle.std.specs.Prelude.{ℕ, zero, suc, ◌+◌, ◌-◌, ◌^◌, Bool, false, if◌then◌else◌, ◌&&◌, List, [], ◌∷◌, Some, None, Option, ◌==◌, bit_or}
use Rattle.levels.specs.declared.state.Flags.{Flags}
use Rattle.levels.specs.declared.state.Points.{Points}
use Rattle.levels.specs.declared.state.Interrupt.{Interrupt}
use Rattle.levels.specs.declared.state.Interrupt.TheVariants.{Internal, Level}
use Rattle.levels.specs.Standing.{flag_word, status, dropped}
use Rattle.levels.specs.Interrupts.{due, highest}
use Rattle.device.specs.Meaning.{Meaning}
use Rattle.engine.specs.declared.state.Wire.{Wire}
use Rattle.engine.specs.declared.state.Works.{Works}
use Rattle.engine.specs.Machine.{Machine, Dev, with_flags, with_points, with_processor}
use Rattle.engine.specs.Makes.{Makes}

-- the bit that a line gives to a level's status word (bit 0 is the leftmost): none unless it is wired there and up; and the same for a device
-- at its wire
abbrev pub wire_bit : Wire → Bool → ℕ → ℕ
wire_bit w raised level = if w.level == level && raised then 2 ^ (15 - w.bit) else 0

abbrev pub line_bit : Meaning → Dev → Wire → ℕ → ℕ
line_bit m d w level = wire_bit w (m.line d.control) level

abbrev pub lines_at : Makes → Machine → ℕ → ℕ
lines_at m s level =
    let w = s.processor.books.wiring in
    bit_or (line_bit m.first s.first w.first level)
    (bit_or (line_bit m.second s.second w.second level)
    (bit_or (line_bit m.third s.third w.third level) (line_bit m.fourth s.fourth w.fourth level)))

-- a level's status word, from the points latched for it and the lines that are up; and those of so many levels, from one on
unfoldable pub level_status : Makes → Machine → ℕ → ℕ
level_status m s level = status s.processor.points.words level (lines_at m s level)

abbrev pub statuses : Makes → Machine → ℕ → ℕ → List ℕ
statuses m s level zero = []
statuses m s level (suc n) = level_status m s level ∷ statuses m s (level + 1) n

-- the interrupt that is due, if one is
unfoldable pub due_now : Makes → Machine → Option Interrupt
due_now m s = due s.processor.works.flags s.processor.works.masks (statuses m s 0 24) s.processor.works.service

-- Sense Interrupt: the status of the highest in service, 0 where nothing is; sensing the internal level clears its flags.
abbrev pub status_of : Option Interrupt → Makes → Machine → ℕ
status_of None m s = 0
status_of (Some Internal) m s = flag_word s.processor.works.flags
status_of (Some (Level n)) m s = level_status m s n

unfoldable pub sensed_status : Makes → Machine → ℕ
sensed_status m s = status_of (highest s.processor.works.service) m s

abbrev pub no_flags : Flags
no_flags = record { parity = false; operation = false; protect = false }

abbrev pub cleared_by : Option Interrupt → Works → Works
cleared_by None w = w
cleared_by (Some Internal) w = with_flags no_flags w
cleared_by (Some (Level n)) w = w

-- a level's latched points are dropped
abbrev pub points_dropped : ℕ → Points → Points
points_dropped level q = record { words = dropped level q.words }

abbrev pub drop_points : ℕ → Machine → Machine
drop_points level s = with_processor (with_points (points_dropped level s.processor.points) s.processor) s
