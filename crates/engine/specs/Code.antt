-- What the contracts of the code say, in terms of the definition.
use Rattle.std.specs.Prelude.{◌≡◌, ℕ, ◌+◌, ◌<◌, ◌≤◌, Bool, true, false, List, length, Some, None, Ok, Err, Option, Result}
use Rattle.refusal.specs.declared.Refusal.{Refusal}
use Rattle.refusal.specs.declared.Refusal.TheVariants.{Length, CycleLimit}
use Rattle.std.specs.Borrow.{MutBor}
use Rattle.device.specs.Meaning.{Meaning}
use Rattle.device.specs.declared.interface.Device.{Ghosts}
use Rattle.instruction.specs.declared.words.Operation.{Operation}
use Rattle.instruction.specs.declared.words.Fields.{Fields}
use Rattle.registers.specs.declared.state.Registers.{Registers}
use Rattle.registers.specs.Parts.{with_i}
use Rattle.works.specs.declared.channel.Channel.{Channel}
use Rattle.works.specs.declared.channel.Channel.TheVariants.{Idle, Head, Data, NextHead}
use Rattle.engine.specs.declared.engine.Engine.{Engine}
use Rattle.engine.specs.declared.place.By.{By}
use Rattle.engine.specs.declared.place.ChannelNumber.{ChannelNumber}
use Rattle.engine.specs.declared.state.Processor.{Processor}
use Rattle.engine.specs.declared.state.Report.{Report}
use Rattle.engine.specs.Machine.{Machine, Dev, position_of, with_core, with_processor, with_dev, with_works, with_registers, words_of_size}
use Rattle.engine.specs.Events.{Did}
use Rattle.engine.specs.Makes.{Makes, make_at}
use Rattle.engine.specs.Cycle.{Reference, refer, turns}
use Rattle.engine.specs.Plan.{Plan, done, perform}
use Rattle.engine.specs.Instructions.{operation}
use Rattle.engine.specs.Step.{lent_right, below_limit, report_of, step}

-- the core is as long as the processor's books say
abbrev pub Fits : Processor → List ℕ → Type 0
Fits p u = length u ≡ words_of_size p.books.size

-- what a step has counted so far, faults too: a bound for the code's numbers
abbrev pub spent : Processor → ℕ
spent p = p.tally.counts.program + p.tally.counts.stolen + p.tally.counts.idle + p.tally.faults

-- a processor with its registers as f makes them
abbrev pub moved : (Registers → Registers) → Processor → Processor
moved f p = with_works (with_registers (f p.works.registers) p.works) p

-- a reference takes processor p and core u to q and v, whatever the devices
abbrev pub Refers : By → Reference → Processor → List ℕ → Processor → List ℕ → Type 0
Refers by r p u q v = (o : Machine) → (refer by r (with_core u (with_processor p o))).machine ≡ with_core v (with_processor q o)

-- what a part of a step asks: a core that fits, and a tally with room for the code's numbers
pub record Room (n : ℕ) (p : Processor) (u : List ℕ) : Type 0 where
  pub fits : Fits p u
  pub small : spent p < n

-- what it leaves: the books as they were, and a tally that grew by at most so many
pub record Within (n : ℕ) (p q : Processor) : Type 0 where
  pub books : q.books ≡ p.books
  pub grows : spent q ≤ spent p + n

-- what a cycle leaves: the registers too
pub record Keeps (n : ℕ) (p q : Processor) : Type 0 where
  pub registers : q.works.registers ≡ p.works.registers
  pub within : Within n p q

-- what a call makes of the registers and an operand that fits, and what it answers, where only I has moved since r
abbrev pub Effect : {N T : Type 0} → (N → Type 0) → (MutBor Registers → N → T → MutBor Registers → Type 0) → Registers → (N → Registers → Registers) → (N → T) → Type 0
Effect {N} {T} fits call r f g = (v : N) (x y : MutBor Registers) (t : T) → fits v → x.now ≡ with_i x.now.i r → call x v t y → (y.now ≡ f v x.now) × (t ≡ g v)

-- a device as the definition has it
abbrev pub dev : {X Y : Type 0} → Ghosts X Y → X → Dev
dev g x = record { control = g.control x; words = g.words x }

-- whether a channel is in no table
abbrev pub is_idle : Channel → Bool
is_idle Idle = true
is_idle (Head a) = false
is_idle (Data a n end) = false
is_idle (NextHead a) = false

-- what is left of the offers after a turn: nothing if nobody was chosen, else so many turns behind the one that was
abbrev pub left_turns : ℕ → Makes → Option ℕ → Machine → Machine
left_turns n m None s = s
left_turns n m (Some b) s = (turns n m (Some b) s).machine

-- a machine with this processor, core and device of a channel; and what a channel's work, done on them, makes of them, whatever the rest
abbrev pub at_channel : ChannelNumber → Processor → List ℕ → Dev → Machine → Machine
at_channel n p u x o = with_core u (with_processor p (with_dev (position_of n) x o))

abbrev pub Serves : ChannelNumber → Meaning → (Makes → Machine → Did) → Processor → List ℕ → Dev → Processor → List ℕ → Dev → Type 0
Serves n mean f p u x q v y = (m : Makes) (o : Machine) → make_at (position_of n) m ≡ mean → (f m (at_channel n p u x o)).machine ≡ at_channel n q v y o

-- what a call of the step answers, and what it leaves, by whether the core is lent right and the step is still counted
abbrev pub step_answer : Bool → Bool → Makes → Machine → Result Report Refusal
step_answer true true m s = Ok (report_of (step m s).machine.processor)
step_answer true false m s = Err CycleLimit
step_answer false b m s = Err Length

abbrev pub step_machine : Bool → Bool → Makes → Machine → Machine
step_machine true true m s = (step m s).machine
step_machine true false m s = s
step_machine false b m s = s

module _ {A P B Q C R D S : Type 0} (a : Ghosts A P) (b : Ghosts B Q) (c : Ghosts C R) (d : Ghosts D S) where
  -- the machine that the code holds, with the core that is lent to it
  abbrev pub view : Engine A B C D P Q R S → List ℕ → Machine
  view x u = record { processor = x.processor; core = u; first = dev a x.first; second = dev b x.second; third = dev c x.third; fourth = dev d x.fourth }

  abbrev pub makes : Makes
  makes = record { first = a.means; second = b.means; third = c.means; fourth = d.means }

  -- something done takes x with core u to y with core v
  abbrev pub Does : (Makes → Machine → Did) → Engine A B C D P Q R S → List ℕ → Engine A B C D P Q R S → List ℕ → Type 0
  Does f x u y v = view y v ≡ (f makes (view x u)).machine

  -- the plan p comes from x to the same as what is left of it, q, from y
  abbrev pub Goes : Plan → Engine A B C D P Q R S → List ℕ → Plan → Engine A B C D P Q R S → List ℕ → Type 0
  Goes p x u q y v = (perform makes p (view x u)).machine ≡ (perform makes q (view y v)).machine

  -- the operation o, with these fields and the first word w, takes x with core u to y with core v
  abbrev pub Operates : Operation → Fields → ℕ → Engine A B C D P Q R S → List ℕ → Engine A B C D P Q R S → List ℕ → Type 0
  Operates o f w x u y v = Goes (operation makes (length u) o f w x.processor.works.registers) x u done y v

  -- a step, asked of x with core u, answers r and leaves y with core v
  pub record Steps (x : Engine A B C D P Q R S) (u : List ℕ) (r : Result Report Refusal) (y : Engine A B C D P Q R S) (v : List ℕ) : Type 0 where
    pub answer : r ≡ step_answer (lent_right (view x u)) (below_limit (view x u)) makes (view x u)
    pub after : view y v ≡ step_machine (lent_right (view x u)) (below_limit (view x u)) makes (view x u)
