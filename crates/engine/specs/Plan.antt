-- Instructions as trees of references, and how they are carried out.
-- A word that came from a device, by get or by its channel, goes to core and nowhere else: what comes after can have it only by reading
-- core.
use Rattle.std.specs.Prelude.{ℕ, Bool, List, Result}
use Rattle.device.specs.declared.answer.DeviceFault.{DeviceFault}
use Rattle.device.specs.Calls.{command_answer, sense_answer, get_place, word_at}
use Rattle.works.specs.declared.fault.Fault.{Fault}
use Rattle.works.specs.declared.panel.Switches.{Switches}
use Rattle.engine.specs.declared.place.Position.{Position}
use Rattle.engine.specs.declared.state.Works.{Works}
use Rattle.engine.specs.Machine.{Machine, dev_at, work}
use Rattle.engine.specs.Events.{command, sense, put, get, Did, quiet, ◌then◌}
use Rattle.engine.specs.Makes.{Makes, make_at, calling}
use Rattle.engine.specs.Faults.{raise}
use Rattle.engine.specs.Cycle.{reading, storing, bringing, marking, data_in, cycle, idle_cycle}
use Rattle.engine.specs.Levels.{sensed_status, drop_points}

-- what a plan may look at: the works, the switches, and the devices' control
pub record Sight : Type 0 where
  pub works : Works
  pub switches : Switches
  pub control : Position → List ℕ

pub data Plan : Type 0 where
  -- nothing more
  done : Plan
  -- change the works
  act : (Works → Works) → Plan → Plan
  -- look, and go on by what is seen
  look : (Sight → Plan) → Plan
  -- a cycle that reads an address, and go on with the data
  read : ℕ → (ℕ → Plan) → Plan
  -- a cycle that stores data at an address
  store : ℕ → ℕ → Plan → Plan
  -- a cycle that stores data at an address with a new protect bit
  mark : ℕ → Bool → ℕ → Plan → Plan
  -- get a word from a device by its area, and then a cycle that stores it at an address
  fetch : Position → ℕ → ℕ → Plan → Plan
  -- hand a device a word, by its area
  give : Position → ℕ → ℕ → Plan → Plan
  -- command a device (area, function, modifier), and go on by its answer
  order : Position → ℕ → ℕ → ℕ → (Result (Unit {0}) DeviceFault → Plan) → Plan
  -- sense a device (area, modifier), and go on with its status
  inquire : Position → ℕ → ℕ → (ℕ → Plan) → Plan
  -- a fault
  fault : Fault → Plan → Plan
  -- the status of the highest level in service; and dropping a level's points
  interrupts : (ℕ → Plan) → Plan
  drop : ℕ → Plan → Plan
  -- one idle cycle
  rest : Plan → Plan

abbrev pub sight : Machine → Sight
sight s = record { works = s.processor.works; switches = s.processor.books.switches; control = λ p. (dev_at p s).control }

-- the word that a get answers
abbrev pub got_word : Makes → Position → ℕ → Machine → ℕ
got_word m p area s = word_at (get_place (make_at p m) (dev_at p s).control area) (dev_at p s).words

abbrev pub perform : Makes → Plan → Machine → Did
perform m done s = quiet s
perform m (act f p) s = perform m p (work f s)
perform m (look k) s = perform m (k (sight s)) s
perform m (read a k) s = cycle m (reading a) s then (λ t. perform m (k (data_in a t)) t)
perform m (store a w p) s = cycle m (storing a w) s then perform m p
perform m (mark a on w p) s = cycle m (marking a on w) s then perform m p
-- get comes before its cycle's offers
perform m (fetch q area a p) s = calling m q (get area) s then cycle m (bringing a (got_word m q area s)) then perform m p
perform m (give q area w p) s = calling m q (put area w) s then perform m p
perform m (order q area function modifier k) s =
    calling m q (command area function modifier) s then perform m (k (command_answer (make_at q m) (dev_at q s).control area function))
perform m (inquire q area modifier k) s =
    calling m q (sense area modifier) s then perform m (k (sense_answer (make_at q m) (dev_at q s).control area modifier))
perform m (fault f p) s = perform m p (raise f s)
perform m (interrupts k) s = perform m (k (sensed_status m s)) s
perform m (drop level p) s = perform m p (drop_points level s)
perform m (rest p) s = idle_cycle m s then perform m p
