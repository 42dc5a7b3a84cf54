-- Unread instruments do not matter: two machines, one list of calls.
use Rattle.std.specs.Prelude.{◌≡◌, ℕ, false, List, length, slice_index}
use Rattle.engine.specs.declared.place.Position.{Position}
use Rattle.engine.specs.declared.state.Wiring.{Wiring}
use Rattle.engine.specs.Machine.{Machine, Dev, dev_at}
use Rattle.engine.specs.Makes.{Makes}
use Rattle.controller.specs.declared.call.Entry.{Entry}
use Rattle.controller.specs.Opening.{opened_machine}
use Rattle.controller.specs.Run.{run, after, answers_of, events_of}
use Rattle.promises.specs.Ties.{outgoing}
use Rattle.promises.specs.Stains.{Stain, unstained, stains, ReadsNoStain, StainedSound}

-- two machines that differ in nothing but the words that their devices have yet to bring
pub record Twins (s t : Machine) : Type 0 where
  pub processor : s.processor ≡ t.processor
  pub core : s.core ≡ t.core
  pub control : (p : Position) → (dev_at p s).control ≡ (dev_at p t).control

-- openings over one core and with one wiring, where each device has the same control in both, are such machines
abbrev pub OpenedAlikeAreTwins : Type 0
OpenedAlikeAreTwins =
    (core : List ℕ) (w : Wiring) (a b c d e f g h : Dev) → a.control ≡ e.control → b.control ≡ f.control → c.control ≡ g.control → d.control ≡ h.control
    → Twins (opened_machine core w a b c d) (opened_machine core w e f g h)

-- the words that are stained after a list of calls, where none is before it
abbrev pub stained_after : Makes → List Entry → Machine → Stain
stained_after m es s = stains unstained (events_of (run m es s))

-- What is then the same after the list: every answer; all of the controller's own state, so registers and totals; the devices' control;
-- all that took place, so the words handed to each device, in order; and every word of core but the stained ones. A stained word is
-- unprotected and of right parity in both.
pub record Unmoved (m : Makes) (es : List Entry) (s t : Machine) : Type 0 where
  pub answers : answers_of (run m es s) ≡ answers_of (run m es t)
  pub processor : (after m es s).processor ≡ (after m es t).processor
  pub control : (p : Position) → (dev_at p (after m es s)).control ≡ (dev_at p (after m es t)).control
  pub events : events_of (run m es s) ≡ events_of (run m es t)
  pub handed : (p : Position) → outgoing p (events_of (run m es s)) ≡ outgoing p (events_of (run m es t))
  pub size : length (after m es s).core ≡ length (after m es t).core
  pub words : (a : ℕ) → stained_after m es s a ≡ false → slice_index (after m es s).core a ≡ slice_index (after m es t).core a
  pub first_stained : StainedSound (stained_after m es s) (after m es s).core
  pub second_stained : StainedSound (stained_after m es s) (after m es t).core

-- if the first reads no stained word
abbrev pub UnreadInstrumentsDoNotMatter : Type 0
UnreadInstrumentsDoNotMatter =
    (m : Makes) (es : List Entry) (s t : Machine) → Twins s t → ReadsNoStain unstained (events_of (run m es s)) → Unmoved m es s t
