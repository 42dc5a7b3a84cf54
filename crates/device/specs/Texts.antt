-- What a program prints of a device's refusal.
use Rattle.std.specs.Prelude.{ℕ, List, codes}
use Rattle.device.specs.declared.answer.DeviceFault.{DeviceFault}
use Rattle.device.specs.declared.answer.DeviceFault.TheVariants.{NotTaken, Busy}

abbrev pub fault_text : DeviceFault → List ℕ
fault_text NotTaken = codes "not taken"
fault_text Busy = codes "busy"
