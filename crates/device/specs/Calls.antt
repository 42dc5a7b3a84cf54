-- The calls of a device: what each answers, and what control and words are after it, for a make of any meaning.
use Rattle.std.specs.Prelude.{ℕ, ◌+◌, ◌%◌, cond, not, ◌&&◌, List, ◌++◌, take, drop, Some, None, Ok, Err, Option, Result, ◌==◌, slice_index}
use Rattle.device.specs.declared.answer.Asking.{Asking}
use Rattle.device.specs.declared.answer.Asking.TheVariants.{Nothing, Bring, Take}
use Rattle.device.specs.declared.answer.DeviceFault.{DeviceFault}
use Rattle.device.specs.declared.answer.DeviceFault.TheVariants.{NotTaken, Busy}
use Rattle.device.specs.Meaning.{Meaning, ChannelMeaning}

-- Command: first whether the function is one of the area's, or it is not taken; then, for any function but Control, which is 4,
-- whether the device is at rest, or it is busy. Control changes only where neither stops the command.
abbrev pub command_answer : Meaning → List ℕ → ℕ → ℕ → Result (Unit {0}) DeviceFault
command_answer m c area function =
    cond (m.takes c area function) (cond (m.operating c && not (function == 4)) (Err Busy) (Ok tt)) (Err NotTaken)

abbrev pub when_accepted : Result (Unit {0}) DeviceFault → List ℕ → List ℕ → List ℕ
when_accepted (Ok u) after before = after
when_accepted (Err e) after before = before

abbrev pub command_control : Meaning → List ℕ → ℕ → ℕ → ℕ → List ℕ
command_control m c area function modifier =
    when_accepted (command_answer m c area function) (m.commanded c area function modifier) c

-- Sense: the status, and then, with the modifier's last bit on, that area's line goes off. For an area not its own, 0 and
-- no change.
abbrev pub sense_answer : Meaning → List ℕ → ℕ → ℕ → ℕ
sense_answer m c area modifier = cond (m.answers c area) (m.status c area modifier) 0

abbrev pub sense_control : Meaning → List ℕ → ℕ → ℕ → List ℕ
sense_control m c area modifier = cond (m.answers c area && modifier % 2 == 1) (m.line_off c area) c

-- Put: hands it a word, ignored for an area not its own.
abbrev pub put_control : Meaning → List ℕ → ℕ → ℕ → List ℕ
put_control m c area word = cond (m.answers c area) (m.put c area word) c

-- A place among the words: what stands there, the words without it, and how many that is.
abbrev pub word_at : Option ℕ → List ℕ → ℕ
word_at None words = 0
word_at (Some p) words = slice_index words p

abbrev pub removed : Option ℕ → List ℕ → List ℕ
removed None words = words
removed (Some p) words = take p words ++ drop (1 + p) words

abbrev pub how_many : Option ℕ → ℕ
how_many None = 0
how_many (Some p) = 1

-- Get: the word at the place that control has for the area, which is then gone. With no such place, 0 and no change.
abbrev pub get_place : Meaning → List ℕ → ℕ → Option ℕ
get_place m c area = cond (m.answers c area) (m.place c area) None

abbrev pub when_there : Option ℕ → List ℕ → List ℕ → List ℕ
when_there None after before = before
when_there (Some p) after before = after

abbrev pub get_control : Meaning → List ℕ → ℕ → List ℕ
get_control m c area = when_there (get_place m c area) (m.got c area) c

-- Bring, where the device asks for it: the word at the place that control has, which is then gone, or 0 with no such place; control
-- may change in either case. Where it does not ask, 0 and no change.
abbrev pub when_brings : {X : Type 0} → Asking → X → X → X
when_brings Nothing asked other = other
when_brings Bring asked other = asked
when_brings Take asked other = other

abbrev pub bring_place : ChannelMeaning → List ℕ → Option ℕ
bring_place ch c = when_brings (ch.asks c) (ch.place c) None

abbrev pub bring_control : ChannelMeaning → List ℕ → List ℕ
bring_control ch c = when_brings (ch.asks c) (ch.brought c) c

-- Take: if it asks to take, it is handed a word. Else no change.
abbrev pub when_takes : {X : Type 0} → Asking → X → X → X
when_takes Nothing asked other = other
when_takes Bring asked other = other
when_takes Take asked other = asked

abbrev pub take_control : ChannelMeaning → List ℕ → ℕ → List ℕ
take_control ch c word = when_takes (ch.asks c) (ch.taken c word) c
