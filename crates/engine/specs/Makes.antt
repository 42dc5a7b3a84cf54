-- The devices of a machine: what each make means, and what a call makes of a device.
use Rattle.std.specs.Prelude.{ℕ, List, [], ◌∷◌}
use Rattle.device.specs.Meaning.{Meaning}
use Rattle.device.specs.Calls.{command_control, sense_control, put_control, get_place, get_control, bring_place, bring_control, take_control, removed}
use Rattle.engine.specs.declared.place.Position.{Position}
use Rattle.engine.specs.declared.place.Position.TheVariants.{First, Second, Third, Fourth}
use Rattle.engine.specs.Machine.{Machine, Dev, dev_at, with_dev}
use Rattle.engine.specs.Events.{Call, passed, command, sense, put, get, bring, take, finish, reset, called, Did, ◌then◌}

-- the makes of the four devices, by position
pub record Makes : Type 0 where
  pub first : Meaning
  pub second : Meaning
  pub third : Meaning
  pub fourth : Meaning

abbrev pub make_at : Position → Makes → Meaning
make_at First m = m.first
make_at Second m = m.second
make_at Third m = m.third
make_at Fourth m = m.fourth

-- control and words after a call
abbrev pub control_after : Meaning → Call → List ℕ → List ℕ
control_after m passed c = m.passed c
control_after m (command area function modifier) c = command_control m c area function modifier
control_after m (sense area modifier) c = sense_control m c area modifier
control_after m (put area word) c = put_control m c area word
control_after m (get area) c = get_control m c area
control_after m bring c = bring_control m.channel c
control_after m (take word) c = take_control m.channel c word
control_after m (finish go_on tell) c = m.channel.finished c go_on tell
control_after m reset c = m.reset c

abbrev pub words_after : Meaning → Call → List ℕ → List ℕ → List ℕ
words_after m passed c words = words
words_after m (command area function modifier) c words = words
words_after m (sense area modifier) c words = words
words_after m (put area word) c words = words
words_after m (get area) c words = removed (get_place m c area) words
words_after m bring c words = removed (bring_place m.channel c) words
words_after m (take word) c words = words
words_after m (finish go_on tell) c words = words
words_after m reset c words = words

abbrev pub made : Meaning → Call → Dev → Dev
made m call d = record { control = control_after m call d.control; words = words_after m call d.control d.words }

-- a device is called: the one way in which a device changes
unfoldable pub calling : Makes → Position → Call → Machine → Did
calling m p call s = record { machine = with_dev p (made (make_at p m) call (dev_at p s)) s; events = called p call ∷ [] }

-- every device is told that a cycle has passed, and every device is reset, in order of position
abbrev pub calling_all : Makes → Call → Machine → Did
calling_all m call s = calling m First call s then calling m Second call then calling m Third call then calling m Fourth call
