-- The scanner's meaning is lawful. There is nothing here to believe: the checker reads it.
use Rattle.std.specs.Prelude.{◌-◌, refl}
use Rattle.std.proofs.Common.{arith, get_or-set_other}
use Rattle.device.specs.Laws.{Lawful}
use Rattle.terminal.specs.Shown.{lowered, terminal_lawful}
use Rattle.terminal.specs.Terminals.{Apart}
use Rattle.scanner.specs.Scanners.{scanner, scanner_own, left_of}

pub scanner_apart : Apart scanner_own
scanner_apart = record {
  left = λ c k v h. get_or-set_other c k 5 v 0 (omega arith);
  within = λ c p e. grind arith;
  gone_area = λ c. get_or-set_other c 5 0 _ 0 (omega arith);
  gone_left = λ c. grind (arith, lowered c 5 (left_of c - 1) (omega arith));
  handed_area = λ c word. refl;
  handed_left = λ c word. refl;
}

pub scanner_lawful : Lawful scanner
scanner_lawful = terminal_lawful scanner_own scanner_apart
