-- What the programs run on: three scanners without words, in areas 1 to 3, and a recorder in area 4, each with gap 1; all four interrupt
-- lines on level 0, on bits 0 to 3.
use Rattle.std.specs.Prelude.{ℕ, List, []}
use Rattle.terminal.specs.declared.setup.Setup.{Setup}
use Rattle.terminal.specs.Terminals.{made_terminal}
use Rattle.scanner.specs.Scanners.{scanner_control}
use Rattle.recorder.specs.Recorders.{recorder_control}
use Rattle.engine.specs.declared.state.Wiring.{Wiring}
use Rattle.works.specs.declared.panel.RunState.TheVariants.{Running}
use Rattle.engine.specs.Machine.{Machine, Dev, with_run, work}
use Rattle.controller.specs.Opening.{opened_machine}

abbrev pub row : Wiring
row = record {
  first = record { level = 0; bit = 0 };
  second = record { level = 0; bit = 1 };
  third = record { level = 0; bit = 2 };
  fourth = record { level = 0; bit = 3 };
}

abbrev pub setup_in : ℕ → Setup
setup_in area = record { area = area; gap = 1 }

abbrev pub scanner_in : ℕ → Dev
scanner_in area = record { control = scanner_control (made_terminal (setup_in area)) []; words = [] }

abbrev pub recorder_in : ℕ → Dev
recorder_in area = record { control = recorder_control (made_terminal (setup_in area)) 0 0; words = [] }

abbrev pub opened_rig : List ℕ → Machine
opened_rig core = opened_machine core row (scanner_in 1) (scanner_in 2) (scanner_in 3) (recorder_in 4)

-- and started
abbrev pub started_rig : List ℕ → Machine
started_rig core = work (with_run Running) (opened_rig core)
