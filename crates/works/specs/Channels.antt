-- A channel's wish: in data it is the device's own; where the channel itself has to read core, at a head or at the address of another, it always
-- wishes.
use Rattle.std.specs.Prelude.{Bool, true, false}
use Rattle.device.specs.declared.answer.Asking.{Asking}
use Rattle.device.specs.declared.answer.Asking.TheVariants.{Nothing, Bring, Take}
use Rattle.works.specs.declared.channel.Channel.{Channel}
use Rattle.works.specs.declared.channel.Channel.TheVariants.{Idle, Head, Data, NextHead}

abbrev pub asks_word : Asking → Bool
asks_word Nothing = false
asks_word Bring = true
asks_word Take = true

abbrev pub wishes : Channel → Asking → Bool
wishes Idle a = false
wishes (Head address) a = true
wishes (Data address count end) a = asks_word a
wishes (NextHead address) a = true
