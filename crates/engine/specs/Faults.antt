-- Checks and other faults: the flag that a check raises, and what a step's tally keeps.
use Rattle.std.specs.Prelude.{ℕ, ◌+◌, true, ◌||◌, Some, None, Option, is_some}
use Rattle.std.specs.Option.{option_or}
use Rattle.levels.specs.declared.state.Flags.{Flags}
use Rattle.works.specs.declared.fault.Cause.{Cause}
use Rattle.works.specs.declared.fault.Cause.TheVariants.{Channel, Parity, Protect, Operation, NoDevice}
use Rattle.works.specs.declared.fault.ChannelFault.TheVariants.{Refused, Parity as ChannelParity, Protect as ChannelProtect}
use Rattle.works.specs.declared.fault.Fault.{Fault}
use Rattle.engine.specs.declared.checks.Check.{Check}
use Rattle.engine.specs.declared.checks.Check.TheVariants.{Parity as ParityCheck, Operation as OperationCheck, Protect as ProtectCheck}
use Rattle.engine.specs.declared.place.By.{By}
use Rattle.engine.specs.declared.place.By.TheVariants.{Program, Device}
use Rattle.engine.specs.declared.place.Position.{Position}
use Rattle.engine.specs.declared.state.Tally.{Tally}
use Rattle.engine.specs.declared.state.Processor.{Processor}
use Rattle.engine.specs.Machine.{Machine, position_number, with_flags, with_works, with_tally, with_processor}
use Rattle.engine.specs.Makes.{Makes, make_at}

-- a device, as the one whose cycle it is or whose command was refused
abbrev pub device : Makes → Position → By
device m p = Device p (make_at p m).kind

-- the program is number 0, of kind 0
abbrev pub fault_of : By → Cause → ℕ → Fault
fault_of Program cause address = record { cause = cause; address = address; by = 0; kind = 0 }
fault_of (Device p kind) cause address = record { cause = cause; address = address; by = position_number p; kind = kind }

-- a check that a channel met is kept as the channel's
abbrev pub parity_cause : By → Cause
parity_cause Program = Parity
parity_cause (Device p kind) = Channel ChannelParity

abbrev pub protect_cause : By → Cause
protect_cause Program = Protect
protect_cause (Device p kind) = Channel ChannelProtect

-- Parity, protect and operation are checks, whoever met them; a check raises its flag. What XIO alone meets is no check and raises none.
abbrev pub check_of : Cause → Option Check
check_of Parity = Some ParityCheck
check_of Protect = Some ProtectCheck
check_of Operation = Some OperationCheck
check_of NoDevice = None
check_of (Channel ChannelParity) = Some ParityCheck
check_of (Channel ChannelProtect) = Some ProtectCheck
check_of (Channel (Refused e)) = None

abbrev pub flagged : Option Check → Flags → Flags
flagged None f = f
flagged (Some ParityCheck) f = record { parity = true; operation = f.operation; protect = f.protect }
flagged (Some OperationCheck) f = record { parity = f.parity; operation = true; protect = f.protect }
flagged (Some ProtectCheck) f = record { parity = f.parity; operation = f.operation; protect = true }

-- the first fault of a step is kept whole, all are counted
abbrev pub noted : Fault → Tally → Tally
noted f t = record { counts = t.counts; faults = t.faults + 1; first = option_or t.first (Some f); checked = t.checked || is_some (check_of f.cause) }

abbrev pub faulted : Fault → Processor → Processor
faulted f p = with_tally (noted f p.tally) (with_works (with_flags (flagged (check_of f.cause) p.works.flags) p.works) p)

unfoldable pub raise : Fault → Machine → Machine
raise f s = with_processor (faulted f s.processor) s
