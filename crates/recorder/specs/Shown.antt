-- The recorder's meaning is lawful. There is nothing here to believe: the checker reads it.
use Rattle.std.specs.Prelude.{slice_set, refl}
use Rattle.std.proofs.Common.{◌∙◌, arith, get_or-set_other}
use Rattle.device.specs.Laws.{Lawful}
use Rattle.terminal.specs.Shown.{terminal_lawful}
use Rattle.terminal.specs.Terminals.{Apart}
use Rattle.recorder.specs.Recorders.{recorder, recorder_own}

pub recorder_apart : Apart recorder_own
recorder_apart = record {
  left = λ c k v h. refl;
  within = λ c p e. grind arith;
  gone_area = λ c. refl;
  gone_left = λ c. refl;
  handed_area = λ c word. get_or-set_other (slice_set c 5 _) 6 0 word 0 (omega arith) ∙ get_or-set_other c 5 0 _ 0 (omega arith);
  handed_left = λ c word. refl;
}

pub recorder_lawful : Lawful recorder
recorder_lawful = terminal_lawful recorder_own recorder_apart
