-- What a scanner or a recorder is given: its area and its gap.
use Rattle.std.specs.Prelude.{ℕ, Bool, cond, ◌&&◌, Some, None, Ok, Err, Option, Result, nat_lt}
use Rattle.refusal.specs.declared.Refusal.{Refusal}
use Rattle.refusal.specs.declared.Refusal.TheVariants.{Area, Gap}
use Rattle.terminal.specs.declared.setup.Setup.{Setup}

-- areas are 1 to 31, gaps 1 to 255
abbrev pub area_fits : ℕ → Bool
area_fits area = nat_lt 0 area && nat_lt area 32

abbrev pub gap_fits : ℕ → Bool
gap_fits gap = nat_lt 0 gap && nat_lt gap 256

abbrev pub checked : Setup → Result (Unit {0}) Refusal
checked s = cond (area_fits s.area) (cond (gap_fits s.gap) (Ok tt) (Err Gap)) (Err Area)

-- the area of what is made: none where the check refuses
abbrev pub area_made : Setup → Option ℕ
area_made s = cond (area_fits s.area && gap_fits s.gap) (Some s.area) None
