-- A list of calls. Every call gets the opened core where the last left off, or a core of another length.
use Rattle.std.specs.Prelude.{List, [], ◌∷◌, ◌++◌}
use Rattle.refusal.specs.declared.Refusal.TheVariants.{Length}
use Rattle.engine.specs.Machine.{Machine}
use Rattle.engine.specs.Events.{Event}
use Rattle.engine.specs.Makes.{Makes}
use Rattle.controller.specs.declared.call.Call.{Call}
use Rattle.controller.specs.declared.call.Entry.{Entry}
use Rattle.controller.specs.declared.call.Lent.{Lent}
use Rattle.controller.specs.declared.call.Lent.TheVariants.{Opened, Other}
use Rattle.controller.specs.Console.{Answer, Done, refuse, call}

-- a core of another length is refused with 1
abbrev pub lending : Lent → Makes → Call → Machine → Done
lending Opened m c s = call m c s
lending Other m c s = refuse Length s

abbrev pub enter : Makes → Entry → Machine → Done
enter m e s = lending e.lent m e.call s

-- what each entry came to, in order
abbrev pub run : Makes → List Entry → Machine → List Done
run m [] s = []
run m (e ∷ es) s = enter m e s ∷ run m es (enter m e s).machine

-- the machine after the last entry, all the answers, and all that took place
abbrev pub after : Makes → List Entry → Machine → Machine
after m [] s = s
after m (e ∷ es) s = after m es (enter m e s).machine

abbrev pub answers_of : List Done → List Answer
answers_of [] = []
answers_of (d ∷ ds) = d.answer ∷ answers_of ds

abbrev pub events_of : List Done → List Event
events_of [] = []
events_of (d ∷ ds) = d.events ++ events_of ds
