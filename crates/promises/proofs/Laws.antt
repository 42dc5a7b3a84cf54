-- What holds of each thing that the machine can do holds of every plan: one induction for all promises of one machine.
use Rattle.std.proofs.Common.{◌≡◌, ℕ, zero, suc, ◌+◌, ◌-◌, ◌%◌, List, [], ◌++◌, length, Some, None, Option}
use Rattle.device.specs.declared.answer.Asking.{Asking}
use Rattle.device.specs.declared.answer.Asking.TheVariants.{Nothing, Bring, Take}
use Rattle.device.specs.Calls.{command_answer, sense_answer}
use Rattle.works.specs.declared.channel.Channel.{Channel}
use Rattle.works.specs.declared.channel.Channel.TheVariants.{Idle, Head, Data, NextHead}
use Rattle.works.specs.declared.fault.Fault.{Fault}
use Rattle.works.specs.declared.panel.Counts.{Counts}
use Rattle.controller.specs.Console.{told}
use Rattle.engine.specs.declared.place.By.{By}
use Rattle.engine.specs.declared.place.By.TheVariants.{Program}
use Rattle.engine.specs.declared.place.Position.{Position}
use Rattle.engine.specs.declared.place.ChannelNumber.{ChannelNumber}
use Rattle.engine.specs.declared.state.Works.{Works}
use Rattle.engine.specs.Machine.{Machine, dev_at, position_of, with_channel, work}
use Rattle.engine.specs.Events.{Event, Call, passed, command, sense, put, get, bring, take, finish, reset, Did, ◌then◌}
use Rattle.engine.specs.Makes.{Makes, make_at, calling}
use Rattle.engine.specs.Faults.{device, raise}
use Rattle.engine.specs.Cycle.{Reference, reading, storing, bringing, marking, refer, data_in, one_program, one_stolen, one_idle, tell, at_head, set_channel, brought_word, moves, transfer, after_table, ending, channel_of, asking_of, finished, steal, chosen, channel_in, served, turns, offers, cycle, idle_cycle}
use Rattle.engine.specs.Levels.{sensed_status, drop_points}
use Rattle.engine.specs.Plan.{Plan, done, act, look, read, store, mark, fetch, give, order, inquire, fault, interrupts, drop, rest, sight, got_word, perform}

-- every call but that of a cycle's passing
abbrev pub Other : Call → Type 0
Other passed = ⊥
Other (command area function modifier) = Unit {0}
Other (sense area modifier) = Unit {0}
Other (put area w) = Unit {0}
Other (get area) = Unit {0}
Other bring = Unit {0}
Other (take w) = Unit {0}
Other (finish go_on tell) = Unit {0}
Other reset = Unit {0}

-- from one machine, by what was done, to another
abbrev pub Doing : (Machine → List Event → Machine → Type 0) → Machine → Did → Type 0
Doing R s d = R s d.events d.machine

-- what does not tell the devices of a cycle
pub record PartLaw (m : Makes) (R : Machine → List Event → Machine → Type 0) : Type 0 where
  pub none : (s : Machine) → R s [] s
  pub more : (s t u : Machine) (es fs : List Event) → R s es t → R t fs u → R s (es ++ fs) u
  pub works : (f : Works → Works) (s : Machine) → R s [] (work f s)
  pub raises : (f : Fault) (s : Machine) → R s [] (raise f s)
  pub drops : (level : ℕ) (s : Machine) → R s [] (drop_points level s)
  pub calls : (p : Position) (c : Call) (s : Machine) → Other c → Doing R s (calling m p c s)
  pub refers : (by : By) (r : Reference) (s : Machine) → Doing R s (refer by r s)

-- what a plan is made of, with cycles as a whole
pub record CycleLaw (m : Makes) (R : Machine → List Event → Machine → Type 0) : Type 0 where
  pub parts : PartLaw m R
  pub cycles : (r : Reference) (s : Machine) → Doing R s (cycle m r s)
  pub idles : (s : Machine) → Doing R s (idle_cycle m s)

perform_doing : {m : Makes} {R : Machine → List Event → Machine → Type 0} → CycleLaw m R → (p : Plan) (s : Machine) → Doing R s (perform m p s)
perform_doing l done s = l.parts.none s
perform_doing {m} l (act f p) s = l.parts.more s (work f s) _ [] _ (l.parts.works f s) (perform_doing l p (work f s))
perform_doing l (look k) s = perform_doing l (k (sight s)) s
perform_doing {m} l (read a k) s =
    let t = (cycle m (reading a) s).machine in l.parts.more s t _ _ _ (l.cycles (reading a) s) (perform_doing l (k (data_in a t)) t)
perform_doing {m} l (store a w p) s =
    let t = (cycle m (storing a w) s).machine in l.parts.more s t _ _ _ (l.cycles (storing a w) s) (perform_doing l p t)
perform_doing {m} l (mark a on w p) s =
    let t = (cycle m (marking a on w) s).machine in l.parts.more s t _ _ _ (l.cycles (marking a on w) s) (perform_doing l p t)
perform_doing {m} l (fetch q area a p) s =
    let t = (calling m q (get area) s).machine in
    let u = (cycle m (bringing a (got_word m q area s)) t).machine in
    l.parts.more s u _ _ _ (l.parts.more s t u _ _ (l.parts.calls q (get area) s tt) (l.cycles (bringing a (got_word m q area s)) t)) (perform_doing l p u)
perform_doing {m} l (give q area w p) s =
    let t = (calling m q (put area w) s).machine in l.parts.more s t _ _ _ (l.parts.calls q (put area w) s tt) (perform_doing l p t)
perform_doing {m} l (order q area function modifier k) s =
    let t = (calling m q (command area function modifier) s).machine in
    l.parts.more s t _ _ _ (l.parts.calls q (command area function modifier) s tt) (perform_doing l (k (command_answer (make_at q m) (dev_at q s).control area function)) t)
perform_doing {m} l (inquire q area modifier k) s =
    let t = (calling m q (sense area modifier) s).machine in
    l.parts.more s t _ _ _ (l.parts.calls q (sense area modifier) s tt) (perform_doing l (k (sense_answer (make_at q m) (dev_at q s).control area modifier)) t)
perform_doing l (fault f p) s = l.parts.more s (raise f s) _ [] _ (l.parts.raises f s) (perform_doing l p (raise f s))
perform_doing {m} l (interrupts k) s = perform_doing l (k (sensed_status m s)) s
perform_doing l (drop level p) s = l.parts.more s (drop_points level s) _ [] _ (l.parts.drops level s) (perform_doing l p (drop_points level s))
perform_doing {m} l (rest p) s = let t = (idle_cycle m s).machine in l.parts.more s t _ _ _ (l.idles s) (perform_doing l p t)

pub perform_law : {m : Makes} (R : Machine → List Event → Machine → Type 0) → CycleLaw m R → (p : Plan) (s : Machine) → R s (perform m p s).events (perform m p s).machine
perform_law R l p s = perform_doing l p s

-- what a cycle is made of; each telling counts one cycle

abbrev pub AddsOne : (Counts → Counts) → Type 0
AddsOne f = (c : Counts) → told (f c) ≡ told c + 1

pub record Law (m : Makes) (R : Machine → List Event → Machine → Type 0) : Type 0 where
  pub parts : PartLaw m R
  pub tells : (f : Counts → Counts) (s : Machine) → AddsOne f → Doing R s (tell m f s)

module _ {m : Makes} {R : Machine → List Event → Machine → Type 0} (l : PartLaw m R) where
  pub joined : (s : Machine) (d : Did) (f : Machine → Did) → Doing R s d → Doing R d.machine (f d.machine) → Doing R s (d then f)
  joined s d f a b = l.more s d.machine _ _ _ a b

  -- a part of a cycle, and then the channel's new state
  then_set : (s : Machine) (d : Did) (n : ChannelNumber) (c : Channel) → Doing R s d → Doing R s (d then set_channel n c)
  then_set s d n c a = joined s d (set_channel n c) a (l.works (with_channel n c) d.machine)

  read_by : (n : ChannelNumber) (a : ℕ) (s : Machine) → Doing R s (refer (device m (position_of n)) (reading a) s)
  read_by n a s = l.refers (device m (position_of n)) (reading a) s

  moved : (q : Asking) (n : ChannelNumber) (a : ℕ) (s : Machine) → Doing R s (moves q m n a s)
  moved Nothing n a s = l.none s
  moved Bring n a s =
      let r = bringing a (brought_word m n s) in
      let d = calling m (position_of n) bring s in
      joined s d (refer (device m (position_of n)) r) (l.calls (position_of n) bring s tt) (l.refers (device m (position_of n)) r d.machine)
  moved Take n a s =
      let d = refer (device m (position_of n)) (reading a) s in
      joined s d (calling m (position_of n) (take (data_in a s))) (read_by n a s) (l.calls (position_of n) (take (data_in a s)) d.machine tt)

  pub transferred : (c : Channel) (q : Asking) (n : ChannelNumber) (s : Machine) → Doing R s (transfer c q m n s)
  transferred Idle q n s = l.none s
  transferred (Head a) q n s = then_set s (refer (device m (position_of n)) (reading a) s) n (at_head (length s.core) a (data_in a s)) (read_by n a s)
  transferred (Data a k end) q n s = then_set s (moves q m n a s) n (Data ((a + 1) % length s.core) (k - 1) end) (moved q n a s)
  transferred (NextHead a) q n s = then_set s (refer (device m (position_of n)) (reading a) s) n (Head (data_in a s % length s.core)) (read_by n a s)

  pub ended : (c : Channel) (n : ChannelNumber) (s : Machine) → Doing R s (ending c m n s)
  ended Idle n s = l.none s
  ended (Head a) n s = l.none s
  ended (Data a zero end) n s =
      then_set s (calling m (position_of n) (finish end.go_on end.tell) s) n (after_table end.go_on a) (l.calls (position_of n) (finish end.go_on end.tell) s tt)
  ended (Data a (suc k) end) n s = l.none s
  ended (NextHead a) n s = l.none s

module _ {m : Makes} {R : Machine → List Event → Machine → Type 0} (l : Law m R) where
  stolen : (n : ChannelNumber) (s : Machine) → Doing R s (steal m n s)
  unfolding steal
  stolen n s =
      let d = transfer (channel_of n s) (asking_of m n s) m n s in
      joined l.parts s (d then tell m one_stolen) (finished m n)
      (joined l.parts s d (tell m one_stolen) (transferred l.parts (channel_of n s) (asking_of m n s) n s) (l.tells one_stolen d.machine (λ c. arith_one c.program c.stolen c.idle)))
      (ended l.parts (channel_of n (d then tell m one_stolen).machine) n (d then tell m one_stolen).machine)
    where
      arith_one : (a b c : ℕ) → a + (b + 1) + c ≡ a + b + c + 1
      arith_one a b c = omega native.Mathlib.Omega.arith

  served_law : (o : Option ℕ) (k : Option ℕ → Machine → Did) → ((b : Option ℕ) (s : Machine) → Doing R s (k b s)) → (s : Machine) → Doing R s (served o m k s)
  served_law None k h s = l.parts.none s
  served_law (Some i) k h s = joined l.parts s (steal m (channel_in i) s) (k (Some (i + 1))) (stolen (channel_in i) s) (h (Some (i + 1)) _)

  turned : (n : ℕ) (b : Option ℕ) (s : Machine) → Doing R s (turns n m b s)
  turned zero b s = l.parts.none s
  turned (suc n) b s = served_law (chosen m b s) (turns n m) (turned n) s

  offered : (s : Machine) → Doing R s (offers m s)
  unfolding offers
  offered s = turned 3 None s

  cycled : (r : Reference) (s : Machine) → Doing R s (cycle m r s)
  unfolding cycle
  cycled r s =
      let d = offers m s in
      joined l.parts s (d then refer Program r) (tell m one_program) (joined l.parts s d (refer Program r) (offered s) (l.parts.refers Program r d.machine))
      (l.tells one_program _ (λ c. arith_one c.program c.stolen c.idle))
    where
      arith_one : (a b c : ℕ) → a + 1 + b + c ≡ a + b + c + 1
      arith_one a b c = omega native.Mathlib.Omega.arith

  idled : (s : Machine) → Doing R s (idle_cycle m s)
  unfolding idle_cycle
  idled s = joined l.parts s (offers m s) (tell m one_idle) (offered s) (l.tells one_idle _ (λ c. arith_one c.program c.stolen c.idle))
    where
      arith_one : (a b c : ℕ) → a + b + (c + 1) ≡ a + b + c + 1
      arith_one a b c = omega native.Mathlib.Omega.arith

  -- what holds of the parts of a cycle, and of the telling, holds of cycles
  pub cycle_law : CycleLaw m R
  cycle_law = record { parts = l.parts; cycles = cycled; idles = idled }
