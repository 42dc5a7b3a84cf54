-- What the contracts of the controller's calls say, in terms of the definition.
use Rattle.std.specs.Prelude.{◌≡◌, ℕ, List, Option, Ok, Err, Result}
use Rattle.refusal.specs.declared.Refusal.{Refusal}
use Rattle.device.specs.declared.interface.Device.{Ghosts}
use Rattle.device.specs.declared.interface.Make.{Ghosts as Number}
use Rattle.works.specs.declared.panel.Switches.{Switches}
use Rattle.engine.specs.declared.state.Report.{Report}
use Rattle.engine.specs.Machine.{Machine}
use Rattle.engine.specs.Code.{view, makes}
use Rattle.controller.specs.declared.call.Call.{Call}
use Rattle.controller.specs.declared.call.Outcome.TheVariants.{Done as Accepted, Stepped, Displayed, Found, Counted}
use Rattle.controller.specs.declared.call.Bill.{Bill}
use Rattle.controller.specs.declared.call.ClearMode.{ClearMode}
use Rattle.controller.specs.declared.call.ClearMode.TheVariants.{Run as ClearRun, Display as ClearDisplay}
use Rattle.controller.specs.declared.controller.Controller.{Controller}
use Rattle.controller.specs.Console.{Answer, cleared, unprotected, call}

-- the answers of the calls as entries of a list have them
abbrev pub plainly : Result (Unit {0}) Refusal → Answer
plainly (Ok u) = Ok Accepted
plainly (Err r) = Err r

abbrev pub reported : Result Report Refusal → Answer
reported (Ok r) = Ok (Stepped r)
reported (Err r) = Err r

abbrev pub displayed : Result ℕ Refusal → Answer
displayed (Ok w) = Ok (Displayed w)
displayed (Err r) = Err r

abbrev pub searched : Result (Option ℕ) Refusal → Answer
searched (Ok at) = Ok (Found at)
searched (Err r) = Err r

abbrev pub billed : Result Bill Refusal → Answer
billed (Ok b) = Ok (Counted b)
billed (Err r) = Err r

-- a word as clear leaves it
abbrev pub wiped : ClearMode → Switches → ℕ → ℕ
wiped ClearRun w = cleared w.write_protect w.«data»
wiped ClearDisplay w = unprotected w.write_protect

module _ {A P B Q C R D S : Type 0} {ka : Number P} {kb : Number Q} {kc : Number R} {kd : Number S} (a : Ghosts A P) (b : Ghosts B Q) (c : Ghosts C R) (d : Ghosts D S) where
  -- the machine that a controller holds, with the core that is lent to it
  abbrev pub held : Controller A B C D P Q R S a ka b kb c kc d kd → List ℕ → Machine
  held x u = view a b c d x.engine u

  -- a call takes x with core u to y with core v, and answers r
  pub record MakesCall (k : Call) (x : Controller A B C D P Q R S a ka b kb c kc d kd) (u : List ℕ) (y : Controller A B C D P Q R S a ka b kb c kc d kd) (v : List ℕ) (r : Answer) : Type 0 where
    pub answer : r ≡ (call (makes a b c d) k (held x u)).answer
    pub machine : held y v ≡ (call (makes a b c d) k (held x u)).machine
