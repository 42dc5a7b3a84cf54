-- What every plan keeps, whatever instruction it may be the plan of.
use Rattle.std.specs.Prelude.{◌≡◌, ◌+◌, false}
use Rattle.engine.specs.declared.place.Position.{Position}
use Rattle.engine.specs.Machine.{Machine}
use Rattle.engine.specs.Makes.{Makes}
use Rattle.engine.specs.Plan.{Plan, perform}
use Rattle.controller.specs.Console.{told}
use Rattle.promises.specs.Bill.{tellings, tally_of, GrowsFairly}
use Rattle.promises.specs.Protection.{Stands, at_yes}
use Rattle.promises.specs.Stains.{Stain, stains, ReadsNoStain, StainedSound, Alike}

-- At No, what is protected stays. The books stay, and so the switches and the totals. Each device is told of as many cycles as the step's tally gains;
-- of these at most three are stolen for each other one. On machines that are alike, where the first reads no stained word, the same takes place, and they
-- are alike after it. Stained words stay sound, whatever is read.
pub record PlansKeep : Type 0 where
  pub at_no : (m : Makes) (p : Plan) (s : Machine) → at_yes s ≡ false → Stands s.core (perform m p s).machine.core
  pub books : (m : Makes) (p : Plan) (s : Machine) → (perform m p s).machine.processor.books ≡ s.processor.books
  pub adds : (m : Makes) (p : Plan) (s : Machine) (q : Position)
      → tellings q (perform m p s).events + told (tally_of s) ≡ told (tally_of (perform m p s).machine)
  pub fair : (m : Makes) (p : Plan) (s : Machine) → GrowsFairly (tally_of s) (tally_of (perform m p s).machine)
  pub same : (m : Makes) (p : Plan) (st : Stain) (s t : Machine) → Alike st s t → ReadsNoStain st (perform m p s).events
      → (perform m p s).events ≡ (perform m p t).events
  pub alike : (m : Makes) (p : Plan) (st : Stain) (s t : Machine) → Alike st s t → ReadsNoStain st (perform m p s).events
      → Alike (stains st (perform m p s).events) (perform m p s).machine (perform m p t).machine
  pub stained : (m : Makes) (p : Plan) (st : Stain) (s : Machine) → StainedSound st s.core
      → StainedSound (stains st (perform m p s).events) (perform m p s).machine.core
