-- What is promised of every list of calls on one machine, and how events and machine belong together.
use Rattle.std.specs.Prelude.{◌≡◌, ℕ, true, ◌≢◌, List, length, Ok, Err, slice_index}
use Rattle.refusal.specs.declared.Refusal.{Refusal}
use Rattle.refusal.specs.declared.Refusal.TheVariants.{Length}
use Rattle.storage.specs.Word.{data_of}
use Rattle.engine.specs.declared.place.Position.{Position}
use Rattle.engine.specs.declared.state.Wiring.{Wiring}
use Rattle.engine.specs.Machine.{words_of_size, Machine, Dev}
use Rattle.engine.specs.Makes.{Makes}
use Rattle.engine.specs.Plan.{Plan, perform}
use Rattle.controller.specs.declared.call.Call.{Call}
use Rattle.controller.specs.declared.call.Call.TheVariants.{Step, SetSwitches, Clear}
use Rattle.controller.specs.declared.call.ClearMode.TheVariants.{Display as ClearDisplay}
use Rattle.works.specs.declared.panel.Switches.{Switches}
use Rattle.controller.specs.declared.call.Entry.{Entry}
use Rattle.controller.specs.Opening.{opening, opened_machine}
use Rattle.controller.specs.Console.{refuse, lent_right, call}
use Rattle.controller.specs.Run.{enter, run, after, events_of}
use Rattle.promises.specs.Ties.{Tied, CoreTied}
use Rattle.promises.specs.Bill.{tellings, BillAddsUp}
use Rattle.promises.specs.Protection.{at_yes, ProtectedWordsStay}
use Rattle.promises.specs.Stains.{Stain, stains, StainedSound}
use Rattle.promises.specs.Unread.{stained_after}

-- Events and machine belong together. Replaying a device's own calls from its earlier state gives its later state, after a plan, a call, a list. A
-- word of core changes only where a store is told of (clear told Display makes every word anew, and is no store: it leaves each word's data as they
-- were). No call changes the core's length. A refused call comes to nothing. No call but a step tells a device of a cycle. Only a switches call moves
-- the write-protect switch. A core of another length is refused with 1; after an accepted opening the opened core never is; after a refused opening
-- everything is.
pub record TiesHold : Type 0 where
  pub plans : (m : Makes) (p : Plan) (s : Machine) → Tied m s (perform m p s).events (perform m p s).machine
  pub calls : (m : Makes) (c : Call) (s : Machine) → Tied m s (call m c s).events (call m c s).machine
  pub lists : (m : Makes) (es : List Entry) (s : Machine) → Tied m s (events_of (run m es s)) (after m es s)
  pub plans_core : (m : Makes) (p : Plan) (s : Machine) → CoreTied s (perform m p s).events (perform m p s).machine
  pub calls_core : (m : Makes) (c : Call) (s : Machine) → c ≢ Clear ClearDisplay → CoreTied s (call m c s).events (call m c s).machine
  pub calls_size : (m : Makes) (c : Call) (s : Machine) → length (call m c s).machine.core ≡ length s.core
  pub bits_only : (m : Makes) (s : Machine) (a : ℕ)
      → data_of (slice_index (call m (Clear ClearDisplay) s).machine.core a) ≡ data_of (slice_index s.core a)
  pub refusals : (m : Makes) (c : Call) (s : Machine) (r : Refusal) → (call m c s).answer ≡ Err r → call m c s ≡ refuse r s
  pub no_cycle : (m : Makes) (c : Call) (s : Machine) → c ≢ Step → (p : Position) → tellings p (call m c s).events ≡ 0
  pub switch : (m : Makes) (c : Call) (s : Machine) → ((w : Switches) → c ≢ SetSwitches w) → at_yes (call m c s).machine ≡ at_yes s
  pub another_length : (m : Makes) (c : Call) (s : Machine) → length s.core ≢ words_of_size s.processor.books.size → call m c s ≡ refuse Length s
  pub opened : (m : Makes) (es : List Entry) (core : List ℕ) (w : Wiring) (a b c d : Dev) → opening (length core) w ≡ Ok tt
      → lent_right (after m es (opened_machine core w a b c d)) ≡ true
  pub refused_opening : (m : Makes) (es : List Entry) (core : List ℕ) (w : Wiring) (a b c d : Dev) (r : Refusal) → opening (length core) w ≡ Err r
      → (e : Entry) → enter m e (after m es (opened_machine core w a b c d)) ≡ refuse Length (after m es (opened_machine core w a b c d))

-- the words that are protected stay, whatever machine and list
abbrev pub ProtectedWordsAlwaysStay : Type 0
ProtectedWordsAlwaysStay = (m : Makes) (es : List Entry) (s : Machine) → ProtectedWordsStay m es s

-- the bill adds up, for every list on a machine just opened
abbrev pub BillAlwaysAddsUp : Type 0
BillAlwaysAddsUp =
    (m : Makes) (es : List Entry) (core : List ℕ) (w : Wiring) (a b c d : Dev) → BillAddsUp m es (opened_machine core w a b c d)

-- Stained words stay sound, whatever is read: a plan, a call and a list keep them unprotected and of right parity, where those that were stained
-- before were so. At the beginning of a list none is stained, so after any list, on any machine, they are sound.
pub record StainedWordsStaySound : Type 0 where
  pub plans : (m : Makes) (p : Plan) (s : Machine) (st : Stain) → StainedSound st s.core
      → StainedSound (stains st (perform m p s).events) (perform m p s).machine.core
  pub calls : (m : Makes) (c : Call) (s : Machine) (st : Stain) → StainedSound st s.core → StainedSound (stains st (call m c s).events) (call m c s).machine.core
  pub lists : (m : Makes) (es : List Entry) (s : Machine) (st : Stain) → StainedSound st s.core
      → StainedSound (stains st (events_of (run m es s))) (after m es s).core
  pub runs : (m : Makes) (es : List Entry) (s : Machine) → StainedSound (stained_after m es s) (after m es s).core
