-- Faults. A cause has its number here; these numbers are apart from those of refusals.
use Rattle.std.specs.Prelude.{ℕ, Ok, Err, Result}
use Rattle.device.specs.declared.answer.DeviceFault.{DeviceFault}
use Rattle.device.specs.declared.answer.DeviceFault.TheVariants.{NotTaken, Busy}
use Rattle.works.specs.declared.fault.Cause.{Cause}
use Rattle.works.specs.declared.fault.Cause.TheVariants.{Channel, Parity, Protect, Operation, NoDevice}
use Rattle.works.specs.declared.fault.ChannelFault.{ChannelFault}
use Rattle.works.specs.declared.fault.ChannelFault.TheVariants.{Refused, Parity as ChannelParity, Protect as ChannelProtect}
use Rattle.works.specs.declared.fault.Fault.{Fault}

-- a check has one number, whether the program's reference met it or a channel's
abbrev pub parity_number : ℕ
parity_number = 1

abbrev pub protect_number : ℕ
protect_number = 2

abbrev pub channel_number : ChannelFault → ℕ
channel_number ChannelParity = parity_number
channel_number ChannelProtect = protect_number
channel_number (Refused Busy) = 4
channel_number (Refused NotTaken) = 5

abbrev pub cause_number : Cause → ℕ
cause_number (Channel f) = channel_number f
cause_number Parity = parity_number
cause_number Protect = protect_number
cause_number Operation = 3
cause_number NoDevice = 6

-- For the contracts of the code, which makes a device's record in two steps: a channel's fault as the controller's, before its place is set, and
-- with it.
abbrev pub bare : ChannelFault → Fault
bare f = record { cause = Channel f; address = 0; by = 0; kind = 0 }

abbrev pub placed : ℕ → ℕ → ℕ → Fault → Fault
placed address by kind f = record { cause = f.cause; address = address; by = by; kind = kind }

-- a command's answer as the channel hands it on, as the controller takes it, and as it records it
abbrev pub by_channel : Result (Unit {0}) DeviceFault → Result (Unit {0}) ChannelFault
by_channel (Ok u) = Ok u
by_channel (Err e) = Err (Refused e)

abbrev pub bared : Result (Unit {0}) ChannelFault → Result (Unit {0}) Fault
bared (Ok u) = Ok u
bared (Err e) = Err (bare e)

abbrev pub recorded : ℕ → ℕ → ℕ → Result (Unit {0}) ChannelFault → Result (Unit {0}) Fault
recorded address by kind (Ok u) = Ok u
recorded address by kind (Err e) = Err (placed address by kind (bare e))
