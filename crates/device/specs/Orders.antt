-- A control word, as the second word of XIO's pair holds it: area in bits 0 to 4, function in 5 to 7, modifier in 8 to 15. And how a table ends, as
-- the word at its head holds it: go on in bit 0, tell in bit 1.
use Rattle.std.specs.Prelude.{ℕ, ◌/◌, ◌%◌, ◌==◌}
use Rattle.device.specs.declared.control.ControlWord.{ControlWord}
use Rattle.device.specs.declared.table.TableEnd.{TableEnd}

abbrev pub control_of : ℕ → ControlWord
control_of w = record { area = w / 2048 % 32; function = w / 256 % 8; modifier = w % 256 }

abbrev pub end_of : ℕ → TableEnd
end_of w = record { go_on = w / 32768 % 2 == 1; tell = w / 16384 % 2 == 1 }
