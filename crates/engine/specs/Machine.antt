-- The machine: the controller's own state, the core that is lent to it, and its four devices.
use Rattle.std.specs.Prelude.{ℕ, ◌%◌, List, length, slice_index}
pub use Rattle.storage.specs.Memory.{words_of_size}
use Rattle.levels.specs.declared.state.Flags.{Flags}
use Rattle.levels.specs.declared.state.Masks.{Masks}
use Rattle.levels.specs.declared.state.Points.{Points}
use Rattle.levels.specs.declared.state.Service.{Service}
use Rattle.registers.specs.declared.state.Registers.{Registers}
use Rattle.works.specs.declared.channel.Channel.{Channel}
use Rattle.works.specs.declared.panel.RunState.{RunState}
use Rattle.engine.specs.declared.place.Position.{Position}
use Rattle.engine.specs.declared.place.Position.TheVariants.{First, Second, Third, Fourth}
use Rattle.engine.specs.declared.place.ChannelNumber.{ChannelNumber}
use Rattle.engine.specs.declared.place.ChannelNumber.TheVariants.{Channel1, Channel2, Channel3}
use Rattle.engine.specs.declared.state.Works.{Works}
use Rattle.engine.specs.declared.state.Tally.{Tally}
use Rattle.engine.specs.declared.state.Books.{Books}
use Rattle.engine.specs.declared.state.Processor.{Processor}

-- a device, as the definition has it: control, by which it works, and the words that it has yet to bring
pub record Dev : Type 0 where
  pub control : List ℕ
  pub words : List ℕ

pub record Machine : Type 0 where
  pub processor : Processor
  pub core : List ℕ
  pub first : Dev
  pub second : Dev
  pub third : Dev
  pub fourth : Dev

-- an address is taken modulo the core's size, at the reference
abbrev pub place : ℕ → Machine → ℕ
place a s = a % length s.core

abbrev pub word_in : ℕ → Machine → ℕ
word_in a s = slice_index s.core (place a s)

-- the positions, as fault records number them; 0 is the program
abbrev pub position_number : Position → ℕ
position_number First = 1
position_number Second = 2
position_number Third = 3
position_number Fourth = 4

abbrev pub dev_at : Position → Machine → Dev
dev_at First s = s.first
dev_at Second s = s.second
dev_at Third s = s.third
dev_at Fourth s = s.fourth

-- whose a channel is
abbrev pub position_of : ChannelNumber → Position
position_of Channel1 = First
position_of Channel2 = Second
position_of Channel3 = Third

abbrev pub channel_at : ChannelNumber → Works → Channel
channel_at Channel1 w = w.channel1
channel_at Channel2 w = w.channel2
channel_at Channel3 w = w.channel3

-- One part of the machine with another value. Each field has its own head, so that a part that is not meant stays plainly the same.
abbrev pub with_processor : Processor → Machine → Machine
with_processor p s = record { processor = p; core = s.core; first = s.first; second = s.second; third = s.third; fourth = s.fourth }

abbrev pub with_core : List ℕ → Machine → Machine
with_core c s = record { processor = s.processor; core = c; first = s.first; second = s.second; third = s.third; fourth = s.fourth }

-- x at the position that is meant, y at the others
abbrev pub upon : {X : Type 0} → Position → Position → X → X → X
upon First First x y = x
upon First Second x y = y
upon First Third x y = y
upon First Fourth x y = y
upon Second First x y = y
upon Second Second x y = x
upon Second Third x y = y
upon Second Fourth x y = y
upon Third First x y = y
upon Third Second x y = y
upon Third Third x y = x
upon Third Fourth x y = y
upon Fourth First x y = y
upon Fourth Second x y = y
upon Fourth Third x y = y
upon Fourth Fourth x y = x

abbrev pub with_dev : Position → Dev → Machine → Machine
with_dev p d s = record {
  processor = s.processor;
  core = s.core;
  first = upon First p d s.first;
  second = upon Second p d s.second;
  third = upon Third p d s.third;
  fourth = upon Fourth p d s.fourth;
}

abbrev pub with_works : Works → Processor → Processor
with_works w p = record { works = w; points = p.points; tally = p.tally; books = p.books }

abbrev pub with_points : Points → Processor → Processor
with_points q p = record { works = p.works; points = q; tally = p.tally; books = p.books }

abbrev pub with_tally : Tally → Processor → Processor
with_tally t p = record { works = p.works; points = p.points; tally = t; books = p.books }

abbrev pub with_books : Books → Processor → Processor
with_books b p = record { works = p.works; points = p.points; tally = p.tally; books = b }

abbrev pub with_registers : Registers → Works → Works
with_registers r w = record { registers = r; masks = w.masks; service = w.service; flags = w.flags; channel1 = w.channel1; channel2 = w.channel2; channel3 = w.channel3; run = w.run }

abbrev pub with_masks : Masks → Works → Works
with_masks m w = record { registers = w.registers; masks = m; service = w.service; flags = w.flags; channel1 = w.channel1; channel2 = w.channel2; channel3 = w.channel3; run = w.run }

abbrev pub with_service : Service → Works → Works
with_service v w = record { registers = w.registers; masks = w.masks; service = v; flags = w.flags; channel1 = w.channel1; channel2 = w.channel2; channel3 = w.channel3; run = w.run }

abbrev pub with_flags : Flags → Works → Works
with_flags f w = record { registers = w.registers; masks = w.masks; service = w.service; flags = f; channel1 = w.channel1; channel2 = w.channel2; channel3 = w.channel3; run = w.run }

abbrev pub with_run : RunState → Works → Works
with_run r w = record { registers = w.registers; masks = w.masks; service = w.service; flags = w.flags; channel1 = w.channel1; channel2 = w.channel2; channel3 = w.channel3; run = r }

abbrev pub with_channel : ChannelNumber → Channel → Works → Works
with_channel l c w = record {
  registers = w.registers;
  masks = w.masks;
  service = w.service;
  flags = w.flags;
  channel1 = upon First (position_of l) c w.channel1;
  channel2 = upon Second (position_of l) c w.channel2;
  channel3 = upon Third (position_of l) c w.channel3;
  run = w.run;
}

-- a change of the works alone
abbrev pub work : (Works → Works) → Machine → Machine
work f s = with_processor (with_works (f s.processor.works) s.processor) s
