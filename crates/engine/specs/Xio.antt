-- XIO: what an address word and a control word do. at is the effective address of the pair, modulo the core's size n.
use Rattle.std.specs.Prelude.{ℕ, ◌*◌, ◌%◌, Bool, true, false, cond, ◌&&◌, ◌||◌, List, Some, None, Ok, Err, Option, Result, ◌==◌, nat_lt}
use Rattle.device.specs.declared.answer.DeviceFault.{DeviceFault}
use Rattle.device.specs.declared.answer.DeviceFault.TheVariants.{NotTaken}
use Rattle.device.specs.declared.control.ControlWord.{ControlWord}
pub use Rattle.device.specs.Orders.{control_of}
use Rattle.registers.specs.Parts.{with_a}
use Rattle.levels.specs.Interrupts.{highest, masked_low, masked_high}
use Rattle.works.specs.declared.channel.Channel.TheVariants.{Idle, Head}
use Rattle.works.specs.declared.fault.Cause.TheVariants.{Channel, NoDevice}
use Rattle.works.specs.declared.fault.ChannelFault.TheVariants.{Refused}
use Rattle.engine.specs.declared.place.By.TheVariants.{Program}
use Rattle.engine.specs.declared.place.Position.{Position}
use Rattle.engine.specs.declared.place.Position.TheVariants.{First, Second, Third, Fourth}
use Rattle.engine.specs.declared.place.ChannelNumber.{ChannelNumber}
use Rattle.engine.specs.declared.place.ChannelNumber.TheVariants.{Channel1, Channel2, Channel3}
use Rattle.engine.specs.declared.state.Works.{Works}
use Rattle.engine.specs.Machine.{with_registers, with_masks, with_channel}
use Rattle.engine.specs.Makes.{Makes, make_at}
use Rattle.engine.specs.Faults.{device, fault_of}
use Rattle.engine.specs.Levels.{cleared_by}
use Rattle.engine.specs.Plan.{Plan, done, act, look, read, store, fetch, give, order, inquire, fault, interrupts, drop}

-- what stands in A
abbrev pub to_a : ℕ → Works → Works
to_a v w = with_registers (with_a v w.registers) w

-- Cause 6: no device answers, or area 0 has nothing of the kind. It is the program's, at the pair.
abbrev pub nobody : ℕ → Plan
nobody at = fault (fault_of Program NoDevice at) done

-- Sense Interrupt, in every area. The flags clear after the status is taken.
abbrev pub sense_interrupt : Plan
sense_interrupt = interrupts (λ v. act (λ w. cleared_by (highest w.service) (to_a v w)) done)

-- Area 0: Write 0 and 1 set the masks once the cycle is told, Read 2 and Sense Device 2 give the sense switches in bits 0 to 7, Control L
-- drops the points of level L.
abbrev pub masks_set : Bool → ℕ → Works → Works
masks_set true v w = with_masks (masked_high v w.masks) w
masks_set false v w = with_masks (masked_low v w.masks) w

abbrev pub write_masks : Bool → ℕ → Plan
write_masks high address = read address (λ v. act (masks_set high v) done)

abbrev pub read_switches : ℕ → Plan
read_switches address = look (λ s. store address (s.switches.sense * 256) done)

abbrev pub sense_switches : Plan
sense_switches = look (λ s. act (to_a (s.switches.sense * 256)) done)

abbrev pub asks_for : ControlWord → ℕ → ℕ → Bool
asks_for c function modifier = c.function == function && c.modifier == modifier

abbrev pub area_zero : ℕ → ℕ → ControlWord → Plan
area_zero at address c =
    cond (asks_for c 1 0) (write_masks false address)
    (cond (asks_for c 1 1) (write_masks true address)
    (cond (asks_for c 2 2) (read_switches address)
    (cond (asks_for c 7 2) sense_switches
    (cond (c.function == 4 && nat_lt c.modifier 24) (drop c.modifier done) (nobody at)))))

-- the first device that answers to an area, by position
abbrev pub answering : Makes → (Position → List ℕ) → ℕ → Option Position
answering m control area =
    cond (m.first.answers (control First) area) (Some First)
    (cond (m.second.answers (control Second) area) (Some Second)
    (cond (m.third.answers (control Third) area) (Some Third)
    (cond (m.fourth.answers (control Fourth) area) (Some Fourth) None)))

-- Initialize (5 or 6) sets the channel to the head. After any command that was accepted the channel of a device at rest goes idle. Device 4 has none.
abbrev pub initializes : ℕ → Bool
initializes function = function == 5 || function == 6

abbrev pub channel_for : Position → Option ChannelNumber
channel_for First = Some Channel1
channel_for Second = Some Channel2
channel_for Third = Some Channel3
channel_for Fourth = None

abbrev pub started : Bool → ChannelNumber → ℕ → Works → Works
started true l head w = with_channel l (Head head) w
started false l head w = w

abbrev pub rested : Bool → ChannelNumber → Works → Works
rested true l w = w
rested false l w = with_channel l Idle w

abbrev pub channel_set : Option ChannelNumber → Bool → Bool → ℕ → Works → Works
channel_set None initialize operating head w = w
channel_set (Some l) initialize operating head w = rested operating l (started initialize l head w)

-- After the command Write, which is 1, moves the word at the address to the device, and Read, which is 2, one from the device to there.
abbrev pub move : Position → ControlWord → ℕ → Plan
move p c address =
    cond (c.function == 1) (read address (λ w. give p c.area w done))
    (cond (c.function == 2) (fetch p c.area address done) done)

-- A refused command ends XIO. It is the fault of the device that was asked, at the pair.
abbrev pub refused : Makes → Position → DeviceFault → ℕ → Plan
refused m p e at = fault (fault_of (device m p) (Channel (Refused e)) at) done

abbrev pub commanded : Makes → ℕ → ℕ → ℕ → ControlWord → Position → Result (Unit {0}) DeviceFault → Plan
commanded m n at address c p (Err e) = refused m p e at
commanded m n at address c p (Ok u) =
    look (λ s. act (channel_set (channel_for p) (initializes c.function) ((make_at p m).operating (s.control p)) (address % n)) (move p c address))

-- no device without a channel takes Initialize, and it is not called
abbrev pub without_channel : Option ChannelNumber → Bool
without_channel None = true
without_channel (Some l) = false

abbrev pub with_device : Makes → ℕ → ℕ → ℕ → ControlWord → Option Position → Plan
with_device m n at address c None = nobody at
with_device m n at address c (Some p) =
    cond (c.function == 7) (inquire p c.area c.modifier (λ v. act (to_a v) done))
    (cond (without_channel (channel_for p) && initializes c.function) (refused m p NotTaken at)
    (order p c.area c.function c.modifier (commanded m n at address c p)))

abbrev pub by_area : Makes → ℕ → ℕ → ℕ → ControlWord → Plan
by_area m n at address c =
    cond (c.function == 3) sense_interrupt
    (cond (c.area == 0) (area_zero at address c)
    (look (λ s. with_device m n at address c (answering m s.control c.area))))

unfoldable pub xio : Makes → ℕ → ℕ → ℕ → ℕ → Plan
xio m n at address control = by_area m n at address (control_of control)
