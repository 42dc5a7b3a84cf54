-- Cycles: the one place where program and channels touch core. (The console has its own calls.)
use Rattle.std.specs.Prelude.{ℕ, zero, suc, ◌+◌, ◌-◌, ◌%◌, Bool, true, false, List, [], ◌∷◌, length, Some, None, Option, slice_index, slice_set}
use Rattle.storage.specs.Word.{data_of, is_protected, parity_right, word_of, stored}
use Rattle.instruction.specs.Decoding.{bits}
use Rattle.levels.specs.Choice.{first_behind}
use Rattle.device.specs.declared.answer.Asking.{Asking}
use Rattle.device.specs.declared.answer.Asking.TheVariants.{Nothing, Bring, Take}
use Rattle.device.specs.Calls.{bring_place, word_at}
use Rattle.device.specs.Orders.{end_of}
use Rattle.works.specs.declared.channel.Channel.{Channel}
use Rattle.works.specs.declared.channel.Channel.TheVariants.{Idle, Head, Data, NextHead}
use Rattle.works.specs.declared.channel.ChannelWish.{ChannelWish}
use Rattle.works.specs.declared.panel.Counts.{Counts}
use Rattle.works.specs.Channels.{wishes}
use Rattle.engine.specs.declared.place.By.{By}
use Rattle.engine.specs.declared.place.By.TheVariants.{Program}
use Rattle.engine.specs.declared.place.ChannelNumber.{ChannelNumber}
use Rattle.engine.specs.declared.place.ChannelNumber.TheVariants.{Channel1, Channel2, Channel3}
use Rattle.engine.specs.declared.state.Tally.{Tally}
use Rattle.engine.specs.Machine.{Machine, place, word_in, dev_at, position_of, channel_at, with_processor, with_core, with_tally, with_channel, work}
use Rattle.engine.specs.Events.{Event, read_from, stored_at, brought_to, passed, bring, take, finish, Did, quiet, ◌then◌}
use Rattle.engine.specs.Makes.{Makes, make_at, calling, calling_all}
use Rattle.engine.specs.Faults.{device, fault_of, parity_cause, protect_cause, raise}

-- A reference to core: a word is read; data are stored; a word that came from a device is stored; data are stored with a new protect
-- bit.
pub data Reference : Type 0 where
  reading : ℕ → Reference
  storing : ℕ → ℕ → Reference
  bringing : ℕ → ℕ → Reference
  marking : ℕ → Bool → ℕ → Reference

-- A word of wrong parity raises a parity check and is used all the same.
abbrev pub parity_checked : Bool → By → ℕ → Machine → Machine
parity_checked true by a s = s
parity_checked false by a s = raise (fault_of by (parity_cause by) a) s

-- Storing replaces the data, leaves the protect bit and sets parity. A protected word is left alone, with a protect check.
abbrev pub checked_store : Bool → By → ℕ → ℕ → Event → Machine → Did
checked_store true by a w e s = quiet (raise (fault_of by (protect_cause by) a) s)
checked_store false by a w e s = record { machine = with_core (slice_set s.core a (stored (slice_index s.core a) (data_of w))) s; events = e ∷ [] }

-- The protect bit changes only with the write-protect switch at Yes. The instruction that does this asks for the switch before it reads;
-- the switch is tested here too, so that no plan whatever can change a protect bit at No.
abbrev pub marked : Bool → ℕ → Bool → ℕ → Machine → Did
marked true a on w s = record { machine = with_core (slice_set s.core a (word_of (data_of w) on)) s; events = stored_at a ∷ [] }
marked false a on w s = quiet s

unfoldable pub refer : By → Reference → Machine → Did
refer by (reading a) s = record { machine = parity_checked (parity_right (word_in a s)) by (place a s) s; events = read_from (place a s) ∷ [] }
refer by (storing a w) s = checked_store (is_protected (word_in a s)) by (place a s) w (stored_at (place a s)) s
refer by (bringing a w) s = checked_store (is_protected (word_in a s)) by (place a s) w (brought_to (place a s)) s
refer by (marking a on w) s = marked s.processor.books.switches.write_protect (place a s) on w s

-- the data at an address, as a reading of it gives them
abbrev pub data_in : ℕ → Machine → ℕ
data_in a s = data_of (word_in a s)

-- Every cycle is counted by its sort, and every device is told.
abbrev pub one_program : Counts → Counts
one_program c = record { program = c.program + 1; stolen = c.stolen; idle = c.idle }

abbrev pub one_stolen : Counts → Counts
one_stolen c = record { program = c.program; stolen = c.stolen + 1; idle = c.idle }

abbrev pub one_idle : Counts → Counts
one_idle c = record { program = c.program; stolen = c.stolen; idle = c.idle + 1 }

abbrev pub with_counts : Counts → Tally → Tally
with_counts c t = record { counts = c; faults = t.faults; first = t.first; checked = t.checked }

abbrev pub counted : (Counts → Counts) → Machine → Machine
counted f s = with_processor (with_tally (with_counts (f s.processor.tally.counts) s.processor.tally) s.processor) s

unfoldable pub tell : Makes → (Counts → Counts) → Machine → Did
tell m f s = calling_all m passed (counted f s)

-- A stolen cycle, by where the channel stands in its table.
-- At a head it reads scan control and count: bit 0 go on, bit 1 tell, bits 4 to 15 the count.
-- In data it moves one word, as the device asks. Behind the data it reads the address of another head.
abbrev pub at_head : ℕ → ℕ → ℕ → Channel
at_head n a w = Data ((a + 1) % n) (bits w 4 15) (end_of w)

abbrev pub set_channel : ChannelNumber → Channel → Machine → Did
set_channel l c s = quiet (work (with_channel l c) s)

-- the word that a bring answers
abbrev pub brought_word : Makes → ChannelNumber → Machine → ℕ
brought_word m l s = word_at (bring_place (make_at (position_of l) m).channel (dev_at (position_of l) s).control) (dev_at (position_of l) s).words

abbrev pub moves : Asking → Makes → ChannelNumber → ℕ → Machine → Did
moves Nothing m l a s = quiet s
moves Bring m l a s = calling m (position_of l) bring s then refer (device m (position_of l)) (bringing a (brought_word m l s))
moves Take m l a s = refer (device m (position_of l)) (reading a) s then calling m (position_of l) (take (data_in a s))

abbrev pub transfer : Channel → Asking → Makes → ChannelNumber → Machine → Did
transfer Idle asking m l s = quiet s
transfer (Head a) asking m l s =
    refer (device m (position_of l)) (reading a) s then set_channel l (at_head (length s.core) a (data_in a s))
transfer (Data a n end) asking m l s =
    moves asking m l a s then set_channel l (Data ((a + 1) % length s.core) (n - 1) end)
transfer (NextHead a) asking m l s =
    refer (device m (position_of l)) (reading a) s then set_channel l (Head (data_in a s % length s.core))

-- Count 0 stands only until the cycle is told. Then the device's table is finished, and the channel idles, or goes on to the word after the data.
abbrev pub after_table : Bool → ℕ → Channel
after_table true a = NextHead a
after_table false a = Idle

abbrev pub ending : Channel → Makes → ChannelNumber → Machine → Did
ending Idle m l s = quiet s
ending (Head a) m l s = quiet s
ending (Data a zero end) m l s = calling m (position_of l) (finish end.go_on end.tell) s then set_channel l (after_table end.go_on a)
ending (Data a (suc n) end) m l s = quiet s
ending (NextHead a) m l s = quiet s

abbrev pub channel_of : ChannelNumber → Machine → Channel
channel_of l s = channel_at l s.processor.works

abbrev pub asking_of : Makes → ChannelNumber → Machine → Asking
asking_of m l s = (make_at (position_of l) m).channel.asks (dev_at (position_of l) s).control

abbrev pub finished : Makes → ChannelNumber → Machine → Did
finished m l s = ending (channel_of l s) m l s

abbrev pub transferring : Makes → ChannelNumber → Machine → Did
transferring m l s = transfer (channel_of l s) (asking_of m l s) m l s

unfoldable pub steal : Makes → ChannelNumber → Machine → Did
steal m l s = transferring m l s then tell m one_stolen then finished m l

-- The offers: channel after channel, by the one choice of a requester, each wish asked at its turn. Whoever is chosen steals one cycle, and
-- after it only those behind it are asked.
abbrev pub wish_of : Makes → ℕ → ChannelNumber → Machine → ChannelWish
wish_of m n l s = record { channel = n; wish = wishes (channel_of l s) (asking_of m l s) }

abbrev pub all_wishes : Makes → Machine → List ChannelWish
all_wishes m s = wish_of m 1 Channel1 s ∷ (wish_of m 2 Channel2 s ∷ (wish_of m 3 Channel3 s ∷ []))

abbrev pub chosen : Makes → Option ℕ → Machine → Option ℕ
chosen m behind s = first_behind (λ w. w.channel) (λ w. w.wish) behind (all_wishes m s)

-- the channel at a place of that list, whose number is one more
abbrev pub channel_in : ℕ → ChannelNumber
channel_in zero = Channel1
channel_in (suc zero) = Channel2
channel_in (suc (suc n)) = Channel3

abbrev pub served : Option ℕ → Makes → (Option ℕ → Machine → Did) → Machine → Did
served None m others s = quiet s
served (Some i) m others s = steal m (channel_in i) s then others (Some (i + 1))

abbrev pub turns : ℕ → Makes → Option ℕ → Machine → Did
turns zero m behind s = quiet s
turns (suc n) m behind s = served (chosen m behind s) m (turns n m) s

unfoldable pub offers : Makes → Machine → Did
offers m s = turns 3 m None s

-- A program cycle: the offers, then its reference, then the telling. An idle cycle has no reference.
unfoldable pub cycle : Makes → Reference → Machine → Did
cycle m r s = offers m s then refer Program r then tell m one_program

unfoldable pub idle_cycle : Makes → Machine → Did
idle_cycle m s = offers m s then tell m one_idle
