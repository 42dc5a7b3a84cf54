-- The line that a run prints of a step: the step's number, I and A in four hexadecimal digits, and the step's program and stolen cycles.
use Rattle.std.specs.Prelude.{ℕ, ◌-◌, ◌^◌, false, true, List, [], ◌++◌, codes, decimal}
use Rattle.std.specs.Fmt.{digits, padded_integral, format_spec}
use Rattle.registers.specs.declared.state.Registers.{Registers}
use Rattle.engine.specs.declared.state.Report.{Report}
use Rattle.rig.specs.declared.line.StepLine.{StepLine}

abbrev pub line_of : ℕ → Registers → Report → StepLine
line_of step r p = record { step = step; i = r.i; a = r.a; program = p.counts.program; stolen = p.counts.stolen }

-- a word as `{:04X}` prints it
abbrev pub hexadecimal : ℕ → List ℕ
hexadecimal w = padded_integral (format_spec 32 0 4 4 (2 ^ 64 - 1)) false [] (digits 16 true w)

-- with a blank between each two
abbrev pub line_text : StepLine → List ℕ
line_text l =
    (decimal l.step ++ codes " ") ++ ((hexadecimal l.i ++ (codes " " ++ (hexadecimal l.a ++ codes " "))) ++ (decimal l.program ++ (codes " " ++ decimal l.stolen)))
