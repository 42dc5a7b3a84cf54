-- A command's answer, as the controller has it and as the plan has it.
use Rattle.std.proofs.Common.{◌≡◌, ℕ, Bool, true, false, Ok, Err, Result, sym, refl, ap, ◌∙◌, true≢false}
use Rattle.device.specs.declared.answer.DeviceFault.{DeviceFault}
use Rattle.works.specs.declared.fault.Fault.{Fault}
use Rattle.works.specs.Faults.{by_channel, recorded}
use Rattle.device.specs.declared.control.ControlWord.{ControlWord}
use Rattle.engine.specs.declared.place.Position.{Position}
use Rattle.engine.specs.Machine.{Machine, position_number}
use Rattle.engine.specs.Makes.{Makes, make_at}
use Rattle.engine.specs.Faults.{raise}
use Rattle.engine.specs.Plan.{perform}
use Rattle.engine.specs.Xio.{commanded}

is_taken : Result (Unit {0}) Fault → Bool
is_taken (Ok u) = true
is_taken (Err f) = false

fault_in : Fault → Result (Unit {0}) Fault → Fault
fault_in d (Ok u) = d
fault_in d (Err f) = f

module _ (m : Makes) (n at address : ℕ) (c : ControlWord) (p : Position) (s : Machine) where
  pub order_refused : (a : Result (Unit {0}) DeviceFault) (f : Fault) (r : Result (Unit {0}) Fault) → r ≡ Err f → r ≡ recorded at (position_number p) (make_at p m).kind (by_channel a)
      → (perform m (commanded m n at address c p a) s).machine ≡ raise f s
  unfolding is_taken fault_in
  order_refused (Ok u) f r e k = absurd (true≢false (sym (ap is_taken k) ∙ ap is_taken e))
  order_refused (Err x) f r e k = ap (λ (z : Fault). raise z s) (ap (fault_in f) (sym k ∙ e))

  pub order_taken : (a : Result (Unit {0}) DeviceFault) (u : Unit {0}) (r : Result (Unit {0}) Fault) → r ≡ Ok u → r ≡ recorded at (position_number p) (make_at p m).kind (by_channel a)
      → (perform m (commanded m n at address c p a) s).machine ≡ (perform m (commanded m n at address c p (Ok tt)) s).machine
  unfolding is_taken
  order_taken (Ok u) v r e k = refl
  order_taken (Err x) v r e k = absurd (true≢false (sym (ap is_taken e) ∙ ap is_taken k))
