-- The bill: how often each device was told of a cycle, and what the totals say.
use Rattle.std.specs.Prelude.{◌≡◌, ◌≢◌, ℕ, ◌+◌, ◌*◌, ◌≤◌, List, [], ◌∷◌, ◌++◌, Ok, Err}
use Rattle.works.specs.declared.panel.Counts.{Counts}
use Rattle.engine.specs.declared.place.Position.{Position}
use Rattle.engine.specs.Machine.{Machine, upon}
use Rattle.engine.specs.Makes.{Makes}
use Rattle.engine.specs.Events.{Event, read_from, stored_at, brought_to, called, Call, passed, command, sense, put, get, bring, take, finish, reset}
use Rattle.controller.specs.declared.call.Outcome.TheVariants.{Done as Accepted, Stepped, Displayed, Found, Counted}
use Rattle.controller.specs.declared.call.Entry.{Entry}
use Rattle.controller.specs.Console.{Answer, told}
use Rattle.controller.specs.declared.call.Bill.{Bill}
use Rattle.engine.specs.declared.state.Report.{Report}
use Rattle.controller.specs.Run.{enter, run, after, events_of}

-- how often a device was told that a cycle passed
abbrev pub passes : Call → ℕ
passes passed = 1
passes (command area function modifier) = 0
passes (sense area modifier) = 0
passes (put area w) = 0
passes (get area) = 0
passes bring = 0
passes (take w) = 0
passes (finish go_on tell) = 0
passes reset = 0

abbrev pub telling : Position → Event → ℕ
telling p (read_from a) = 0
telling p (stored_at a) = 0
telling p (brought_to a) = 0
telling p (called q c) = upon p q (passes c) 0

abbrev pub tellings : Position → List Event → ℕ
tellings p [] = 0
tellings p (e ∷ es) = telling p e + tellings p es

-- stolen cycles are at most three times the others
abbrev pub Fair : Counts → Type 0
Fair c = c.stolen ≤ 3 * (c.program + c.idle)

-- from the first counts to the second, stolen cycles grew by at most three times what the others grew by
abbrev pub GrowsFairly : Counts → Counts → Type 0
GrowsFairly c d = d.stolen + 3 * (c.program + c.idle) ≤ c.stolen + 3 * (d.program + d.idle)

abbrev pub totals_of : Machine → Counts
totals_of s = s.processor.books.totals

-- what the step in hand has counted
abbrev pub tally_of : Machine → Counts
tally_of s = s.processor.tally.counts

-- a count, where it is not refused, begins anew
abbrev pub restarted_by_count : Answer → List Event → List Event
restarted_by_count (Ok (Counted bill)) so_far = []
restarted_by_count (Ok Accepted) so_far = so_far
restarted_by_count (Ok (Stepped report)) so_far = so_far
restarted_by_count (Ok (Displayed w)) so_far = so_far
restarted_by_count (Ok (Found a)) so_far = so_far
restarted_by_count (Err r) so_far = so_far

-- what took place since the last accepted count, where `so_far` took place since then before this list
abbrev pub since_count : Makes → List Entry → Machine → List Event → List Event
since_count m [] s so_far = so_far
since_count m (e ∷ es) s so_far =
    let d = enter m e s in since_count m es d.machine (restarted_by_count d.answer (so_far ++ d.events))

-- from a machine on, no entry of a list is answered with a bill
abbrev pub NoCount : Makes → List Entry → Machine → Type 0
NoCount m [] s = Unit {0}
NoCount m (e ∷ es) s = ((b : Bill) → (enter m e s).answer ≢ Ok (Counted b)) × NoCount m es (enter m e s).machine

-- From the last accepted count, or opening, the devices' tellings and the totals agree, and stolen cycles are at most three times the others. That
-- is what a count answers, if one comes next. What a step reports is what it told each device. In words of the list alone: where an entry of it was
-- answered with a bill, and none after that, what took place after that entry tells each device as often as the totals say; and where no entry was
-- answered with one, all that took place does.
pub record BillAddsUp (m : Makes) (es : List Entry) (s : Machine) : Type 0 where
  pub adds : (p : Position) → tellings p (since_count m es s []) ≡ told (totals_of (after m es s))
  pub fair : Fair (totals_of (after m es s))
  pub tail : (all : List Event) × (events_of (run m es s) ≡ all ++ since_count m es s [])
  pub answered : (e : Entry) (b : Bill) → (enter m e (after m es s)).answer ≡ Ok (Counted b)
      → ((p : Position) → tellings p (since_count m es s []) ≡ b.told) × (b.told ≡ b.program + b.stolen + b.idle) × (b.stolen ≤ 3 * (b.program + b.idle))
  pub reported : (e : Entry) (r : Report) → (enter m e (after m es s)).answer ≡ Ok (Stepped r) → (p : Position) → tellings p (enter m e (after m es s)).events ≡ told r.counts
  pub since_any_count : (before : List Entry) (e : Entry) (rest : List Entry) (b : Bill) → es ≡ before ++ (e ∷ rest)
      → (enter m e (after m before s)).answer ≡ Ok (Counted b) → NoCount m rest (enter m e (after m before s)).machine
      → (p : Position) → tellings p (events_of (run m rest (enter m e (after m before s)).machine)) ≡ told (totals_of (after m es s))
  pub since_opening : NoCount m es s → (p : Position) → tellings p (events_of (run m es s)) ≡ told (totals_of (after m es s))
