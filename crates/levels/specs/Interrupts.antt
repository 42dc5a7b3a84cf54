-- Which interrupt is due, which is in service, and how service and masks change.
use Rattle.std.specs.Prelude.{ℕ, ◌/◌, Bool, false, cond, not, ◌&&◌, List, Some, None, Option, ◌==◌, nat_lt, option_map, position, slice_set}
use Rattle.levels.specs.declared.state.Flags.{Flags}
use Rattle.levels.specs.declared.state.Masks.{Masks}
use Rattle.levels.specs.declared.state.Service.{Service}
use Rattle.levels.specs.declared.state.Interrupt.{Interrupt}
use Rattle.levels.specs.declared.state.Interrupt.TheVariants.{Internal, Level}
use Rattle.levels.specs.Choice.{first_behind}
use Rattle.levels.specs.Standing.{flag_word, standing}

-- Due: the internal level first, if it has a flag and is not in service; it has no mask. Then the first level that stands.
abbrev pub due : Flags → Masks → List ℕ → Service → Option Interrupt
due f m words s =
    cond (not s.internal && not (flag_word f == 0)) (Some Internal)
    (option_map Level (first_behind (λ w. w.level) (λ w. w.wish) None (standing m (not s.internal) 0 s.levels words)))

-- the highest in service
abbrev pub highest : Service → Option Interrupt
highest s = cond s.internal (Some Internal) (option_map Level (position (λ on. on) s.levels))

abbrev pub with_service : Interrupt → Bool → Service → Service
with_service Internal on s = record { levels = s.levels; internal = on }
with_service (Level n) on s = record { levels = cond (nat_lt n 24) (slice_set s.levels n on) s.levels; internal = s.internal }

-- the end of the highest service, if there is one
abbrev pub ended_of : Option Interrupt → Service → Service
ended_of None s = s
ended_of (Some i) s = with_service i false s

abbrev pub ended : Service → Service
ended s = ended_of (highest s) s

-- the masks after a word was written for levels 0 to 15, and for levels 16 to 23, where bits 8 to 15 are ignored
abbrev pub masked_low : ℕ → Masks → Masks
masked_low word m = record { low = word; high = m.high }

abbrev pub masked_high : ℕ → Masks → Masks
masked_high word m = record { low = m.low; high = word / 256 }
