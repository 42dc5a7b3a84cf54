-- Stolen cycles, offers and cycles: what machines that are alike do stays the same in both.
use Rattle.std.proofs.Common.{◌≡◌, ℕ, zero, suc, ◌+◌, ◌-◌, ◌%◌, List, [], ◌∷◌, length, Some, None, Option, refl, ap, subst, ap₂}
use Rattle.device.specs.declared.answer.Asking.{Asking}
use Rattle.device.specs.declared.answer.Asking.TheVariants.{Nothing, Bring, Take}
use Rattle.works.specs.declared.channel.Channel.{Channel}
use Rattle.works.specs.declared.channel.Channel.TheVariants.{Idle, Head, Data, NextHead}
use Rattle.engine.specs.declared.place.By.TheVariants.{Program}
use Rattle.engine.specs.declared.place.ChannelNumber.{ChannelNumber}
use Rattle.engine.specs.declared.place.ChannelNumber.TheVariants.{Channel1, Channel2, Channel3}
use Rattle.engine.specs.declared.state.Processor.{Processor}
use Rattle.engine.specs.Machine.{Machine, position_of, channel_at, with_works, with_channel}
use Rattle.engine.specs.Events.{bring, take, finish, Did, ◌then◌}
use Rattle.engine.specs.Makes.{Makes, make_at, calling}
use Rattle.engine.specs.Faults.{device}
use Rattle.engine.specs.Cycle.{Reference, reading, bringing, refer, data_in, one_program, one_stolen, one_idle, tell, at_head, set_channel, brought_word, moves, transfer, after_table, ending, channel_of, asking_of, finished, transferring, steal, wish_of, chosen, channel_in, served, turns, offers, cycle, idle_cycle}
use Rattle.promises.specs.Stains.{Stain, Alike}
use Rattle.levels.specs.Choice.{first_behind}
use Rattle.works.specs.declared.channel.ChannelWish.{ChannelWish}
use Rattle.works.specs.Channels.{wishes}
use Rattle.promises.proofs.Alike.{unread_append, Same, Both, Kept, then_both, kept_then, control_at, alike_processor, calling_kept, calling_both, tell_kept, same_data, reading_kept, bringing_both, refer_kept, read_unstained}

-- the state of a channel
set_both : (l : ChannelNumber) (c d : Channel) → c ≡ d → Both (set_channel l c) (set_channel l d)
set_both l c d e st s t h cl = record {
  events = refl;
  alike = alike_processor _ _ (ap₂ (λ (x : Channel) (p : Processor). with_works (with_channel l x p.works) p) e h.processor) h;
}

same_size : {st : Stain} {s t : Machine} → Alike st s t → length s.core ≡ length t.core
same_size h = h.cores.size

-- one word moves
moves_both : (q : Asking) (m : Makes) (l : ChannelNumber) (a : ℕ) → Kept (moves q m l a)
moves_both Nothing m l a st s t h cl = record { events = refl; alike = h }
moves_both Bring m l a st s t h cl =
    then_both (refer (device m (position_of l)) (bringing a (brought_word m l s))) (refer (device m (position_of l)) (bringing a (brought_word m l t))) cl
    (calling_kept m (position_of l) bring st s t h)
    (λ x. bringing_both (device m (position_of l)) a (brought_word m l s) (brought_word m l t))
moves_both Take m l a st s t h cl =
    let by = device m (position_of l) in
    let parts = unread_append st (refer by (reading a) s).events _ cl in
    then_both (calling m (position_of l) (take (data_in a s))) (calling m (position_of l) (take (data_in a t))) cl
    (reading_kept by a st s t h)
    (λ x. calling_both m (position_of l) _ _ (ap take (same_data a h (read_unstained by a st s parts.0))))

-- a reading by a channel, and then its new state by what was read
reads_both : (m : Makes) (l : ChannelNumber) (a : ℕ) (next : ℕ → ℕ → Channel)
    → Kept (λ s. refer (device m (position_of l)) (reading a) s then set_channel l (next (length s.core) (data_in a s)))
reads_both m l a next st s t h cl =
    let by = device m (position_of l) in
    let parts = unread_append st (refer by (reading a) s).events _ cl in
    then_both (set_channel l (next (length s.core) (data_in a s))) (set_channel l (next (length t.core) (data_in a t))) cl
    (reading_kept by a st s t h)
    (λ x. set_both l _ _ (ap₂ next (same_size h) (same_data a h (read_unstained by a st s parts.0))))

transfer_kept : (c : Channel) (q : Asking) (m : Makes) (l : ChannelNumber) → Kept (transfer c q m l)
transfer_kept Idle q m l st s t h cl = record { events = refl; alike = h }
transfer_kept (Head a) q m l st s t h cl = reads_both m l a (λ n w. at_head n a w) st s t h cl
transfer_kept (Data a k end) q m l st s t h cl =
    then_both (set_channel l (Data ((a + 1) % length s.core) (k - 1) end)) (set_channel l (Data ((a + 1) % length t.core) (k - 1) end)) cl
    (moves_both q m l a st s t h)
    (λ x. set_both l _ _ (ap (λ (n : ℕ). Data ((a + 1) % n) (k - 1) end) (same_size h)))
transfer_kept (NextHead a) q m l st s t h cl = reads_both m l a (λ n w. Head (w % n)) st s t h cl

ending_kept : (c : Channel) (m : Makes) (l : ChannelNumber) → Kept (ending c m l)
ending_kept Idle m l st s t h cl = record { events = refl; alike = h }
ending_kept (Head a) m l st s t h cl = record { events = refl; alike = h }
ending_kept (Data a zero end) m l st s t h cl =
    then_both (set_channel l (after_table end.go_on a)) (set_channel l (after_table end.go_on a)) cl
    (calling_kept m (position_of l) (finish end.go_on end.tell) st s t h)
    (λ x. set_both l _ _ refl)
ending_kept (Data a (suc k) end) m l st s t h cl = record { events = refl; alike = h }
ending_kept (NextHead a) m l st s t h cl = record { events = refl; alike = h }

-- what a channel stands at and its device asks is the same in both
same_channel : {st : Stain} {s t : Machine} (l : ChannelNumber) → Alike st s t → channel_of l s ≡ channel_of l t
same_channel l h = ap (λ (p : Processor). channel_at l p.works) h.processor

same_asking : {st : Stain} {s t : Machine} (m : Makes) (l : ChannelNumber) → Alike st s t → asking_of m l s ≡ asking_of m l t
same_asking m l h = ap (λ (c : List ℕ). (make_at (position_of l) m).channel.asks c) (control_at (position_of l) h)

finished_kept : (m : Makes) (l : ChannelNumber) → Kept (finished m l)
finished_kept m l st s t h cl =
    subst (λ (c : Channel). Same st (finished m l s) (ending c m l t)) (same_channel l h) (ending_kept (channel_of l s) m l st s t h cl)

transferring_kept : (m : Makes) (l : ChannelNumber) → Kept (transferring m l)
transferring_kept m l st s t h cl =
    subst (λ (x : Did). Same st (transfer (channel_of l s) (asking_of m l s) m l s) x)
    (ap₂ (λ (c : Channel) (q : Asking). transfer c q m l t) (same_channel l h) (same_asking m l h))
    (transfer_kept (channel_of l s) (asking_of m l s) m l st s t h cl)

pub steal_kept : (m : Makes) (l : ChannelNumber) → Kept (steal m l)
unfolding steal
steal_kept m l =
    kept_then {f = λ s. transferring m l s then tell m one_stolen} {g = λ s. transferring m l s then tell m one_stolen} {h = finished m l} {k = finished m l}
    (kept_then {f = transferring m l} {g = transferring m l} {h = tell m one_stolen} {k = tell m one_stolen} (transferring_kept m l) (tell_kept m one_stolen))
    (finished_kept m l)

served_kept : (o : Option ℕ) (m : Makes) (f : Option ℕ → Machine → Did) → ((b : Option ℕ) → Kept (f b)) → Kept (served o m f)
served_kept None m f k st s t h cl = record { events = refl; alike = h }
served_kept (Some i) m f k st s t h cl =
    kept_then {f = steal m (channel_in i)} {g = steal m (channel_in i)} {h = f (Some (i + 1))} {k = f (Some (i + 1))} (steal_kept m (channel_in i)) (k (Some (i + 1))) st s t h cl

same_chosen : {st : Stain} {s t : Machine} (m : Makes) (b : Option ℕ) → Alike st s t → chosen m b s ≡ chosen m b t
same_chosen {st} {s} {t} m b h =
    ap (λ (ws : List ChannelWish). first_behind (λ w. w.channel) (λ w. w.wish) b ws)
    (ap₂ (λ (x : ChannelWish) (ws : List ChannelWish). x ∷ ws) (wish 1 Channel1)
    (ap₂ (λ (x : ChannelWish) (ws : List ChannelWish). x ∷ ws) (wish 2 Channel2)
    (ap (λ (x : ChannelWish). x ∷ []) (wish 3 Channel3))))
  where
    wish : (n : ℕ) (l : ChannelNumber) → wish_of m n l s ≡ wish_of m n l t
    wish n l = ap₂ (λ (c : Channel) (q : Asking). record { channel = n; wish = wishes c q }) (same_channel l h) (same_asking m l h)

turns_kept : (n : ℕ) (m : Makes) (b : Option ℕ) → Kept (turns n m b)
turns_kept zero m b st s t h cl = record { events = refl; alike = h }
turns_kept (suc n) m b st s t h cl =
    subst (λ (o : Option ℕ). Same st (served (chosen m b s) m (turns n m) s) (served o m (turns n m) t)) (same_chosen m b h)
    (served_kept (chosen m b s) m (turns n m) (turns_kept n m) st s t h cl)

pub offers_kept : (m : Makes) → Kept (offers m)
unfolding offers
offers_kept m = turns_kept 3 m None

-- a program cycle, by references that do the same, and an idle one
pub cycle_both : (m : Makes) (r q : Reference) → Both (refer Program r) (refer Program q) → Both (cycle m r) (cycle m q)
unfolding cycle
cycle_both m r q k =
    kept_then {f = λ s. offers m s then refer Program r} {g = λ s. offers m s then refer Program q} {h = tell m one_program} {k = tell m one_program}
    (kept_then {f = offers m} {g = offers m} {h = refer Program r} {k = refer Program q} (offers_kept m) k) (tell_kept m one_program)

pub cycle_kept : (m : Makes) (r : Reference) → Kept (cycle m r)
cycle_kept m r = cycle_both m r r (refer_kept Program r)

pub idle_kept : (m : Makes) → Kept (idle_cycle m)
unfolding idle_cycle
idle_kept m = kept_then {f = offers m} {g = offers m} {h = tell m one_idle} {k = tell m one_idle} (offers_kept m) (tell_kept m one_idle)
