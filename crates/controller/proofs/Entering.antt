-- A call, by what its tests found. Step is the engine's, with its own refusals.
use Rattle.std.proofs.Common.{◌≡◌, Bool, true, false, if◌then◌else◌, List, ℕ, Ok, Err, Result, sym, refl, ap, ◌∙◌}
use Rattle.std.specs.Result.{IsErrAnd}
use Rattle.std.proofs.lemmas.Result.{err_from_is_err_and}
use Rattle.refusal.specs.declared.Refusal.{Refusal}
use Rattle.refusal.specs.declared.Refusal.TheVariants.{Length, NotStopped, CycleLimit}
use Rattle.device.specs.declared.interface.Device.{Ghosts}
use Rattle.device.specs.declared.interface.Make.{Ghosts as Number}
use Rattle.engine.specs.declared.state.Report.{Report}
use Rattle.engine.specs.Machine.{Machine}
use Rattle.engine.specs.Makes.{Makes}
use Rattle.engine.specs.Step.{lent_right, below_limit}
use Rattle.engine.specs.Code.{makes, step_answer, step_machine}
use Rattle.controller.specs.declared.call.Call.{Call}
use Rattle.controller.specs.declared.call.Call.TheVariants.{Step}
use Rattle.controller.specs.declared.controller.Controller.{Controller}
use Rattle.controller.specs.Console.{Answer, Done, refuse, only_if, is_stopped, when_stopped, stepping, made_call, call}
use Rattle.controller.specs.Held.{reported, held, MakesCall}

module _ (m : Makes) (s : Machine) where
  -- a step that is lent the right core, and any
  within_answer : (d : Bool) → reported (step_answer true d m s) ≡ (only_if d CycleLimit (stepping m) s).answer
  within_answer true = refl
  within_answer false = refl

  within_left : (d : Bool) → step_machine true d m s ≡ (only_if d CycleLimit (stepping m) s).machine
  within_left true = refl
  within_left false = refl

  lent_answer : (b : Bool) → reported (step_answer b (below_limit s) m s) ≡ (only_if b Length (made_call m Step) s).answer
  lent_answer true = within_answer (below_limit s)
  lent_answer false = refl

  lent_left : (b : Bool) → step_machine b (below_limit s) m s ≡ (only_if b Length (made_call m Step) s).machine
  lent_left true = within_left (below_limit s)
  lent_left false = refl

  pub step_answered : (r : Result Report Refusal) → r ≡ step_answer (lent_right s) (below_limit s) m s → reported r ≡ (call m Step s).answer
  unfolding call
  step_answered r e = ap reported e ∙ lent_answer (lent_right s)

  pub step_left : (t : Machine) → t ≡ step_machine (lent_right s) (below_limit s) m s → t ≡ (call m Step s).machine
  unfolding call
  step_left t e = e ∙ lent_left (lent_right s)

  -- any call, of a machine that is lent the right core
  pub right_answer : (c : Call) → lent_right s ≡ true → (made_call m c s).answer ≡ (call m c s).answer
  unfolding call
  right_answer c e = ap (λ (b : Bool). (only_if b Length (made_call m c) s).answer) (sym e)

  pub right_left : (c : Call) → lent_right s ≡ true → (made_call m c s).machine ≡ (call m c s).machine
  unfolding call
  right_left c e = ap (λ (b : Bool). (only_if b Length (made_call m c) s).machine) (sym e)

-- what a test answers, of what it found
abbrev pub Tested : Bool → Refusal → Result (Unit {0}) Refusal → Type 0
Tested b e r = r ≡ (if b then Ok tt else Err e)

-- what comes after a test that passed, and after one that refused
passed : (b : Bool) (e : Refusal) (f : Machine → Done) (s : Machine) → Tested b e (Ok tt) → only_if b e f s ≡ f s
passed true e f s h = refl
passed false e f s h = cc

failed : (b : Bool) (e z : Refusal) (f : Machine → Done) (s : Machine) → Tested b e (Err z) → only_if b e f s ≡ refuse z s
failed true e z f s h = cc
failed false e z f s h = let q : e ≡ z = cc in ap (λ (y : Refusal). refuse y s) q

module _ (m : Makes) (k : Call) (s : Machine) where
  lent : Tested (lent_right s) Length (Ok tt) → call m k s ≡ made_call m k s
  unfolding call
  lent l = passed (lent_right s) Length (made_call m k) s l

  not_lent : (z : Refusal) → Tested (lent_right s) Length (Err z) → call m k s ≡ refuse z s
  unfolding call
  not_lent z l = failed (lent_right s) Length z (made_call m k) s l

-- an error that a `?` hands on; f is how a call's answers are read
handed_on : {T : Type 0} (f : Result T Refusal → Answer) (r : Result T Refusal) (z : Refusal) → IsErrAnd r (λ y. y ≡ z) → f r ≡ f (Err z)
handed_on f r z h = let p = err_from_is_err_and r h in ap f (p.1 ∙ ap (λ (y : Refusal). Err y) p.2)

module _ {A P B Q C R D S : Type 0} {ka : Number P} {kb : Number Q} {kc : Number R} {kd : Number S} {a : Ghosts A P} {b : Ghosts B Q} {c : Ghosts C R} {d : Ghosts D S} {k : Call} {x : Controller A B C D P Q R S a ka b kb c kc d kd} {u : List ℕ} where
  -- a call that comes to z
  comes : (z : Done) (y : Controller A B C D P Q R S a ka b kb c kc d kd) (v : List ℕ) (r : Answer) → call (makes a b c d) k (held a b c d x u) ≡ z
      → r ≡ z.answer → held a b c d y v ≡ z.machine → MakesCall a b c d k x u y v r
  comes z y v r e p q = record { answer = p ∙ ap (λ (t : Done). t.answer) (sym e); machine = q ∙ ap (λ (t : Done). t.machine) (sym e) }

  -- any call of the code, lent a wrong core, and lent the right one
  pub wrong : {T : Type 0} (f : Result T Refusal → Answer) (r : Result T Refusal) (z : Refusal) → IsErrAnd r (λ y. y ≡ z) → f (Err z) ≡ Err z
      → Tested (lent_right (held a b c d x u)) Length (Err z) → MakesCall a b c d k x u x u (f r)
  wrong f r z h p l = comes (refuse z (held a b c d x u)) x u (f r) (not_lent (makes a b c d) k (held a b c d x u) z l) (handed_on f r z h ∙ p) refl

  pub right : (y : Controller A B C D P Q R S a ka b kb c kc d kd) (v : List ℕ) (r : Answer) → Tested (lent_right (held a b c d x u)) Length (Ok tt)
      → r ≡ (made_call (makes a b c d) k (held a b c d x u)).answer → held a b c d y v ≡ (made_call (makes a b c d) k (held a b c d x u)).machine
      → MakesCall a b c d k x u y v r
  right y v r l p q = comes (made_call (makes a b c d) k (held a b c d x u)) y v r (lent (makes a b c d) k (held a b c d x u) l) p q

  -- a call w that wants a stopped machine, of one that is not stopped, and of one that is
  pub running : {T : Type 0} (w : Machine → Done) (f : Result T Refusal → Answer) (r : Result T Refusal) (z : Refusal) → IsErrAnd r (λ y. y ≡ z) → f (Err z) ≡ Err z
      → made_call (makes a b c d) k (held a b c d x u) ≡ when_stopped w (held a b c d x u)
      → Tested (lent_right (held a b c d x u)) Length (Ok tt) → Tested (is_stopped x.engine.processor.works.run) NotStopped (Err z) → MakesCall a b c d k x u x u (f r)
  running w f r z h p e l n =
      comes (refuse z (held a b c d x u)) x u (f r) (lent (makes a b c d) k (held a b c d x u) l ∙ e ∙ failed (is_stopped x.engine.processor.works.run) NotStopped z w (held a b c d x u) n)
      (handed_on f r z h ∙ p) refl

  pub stopped : (w : Machine → Done) (y : Controller A B C D P Q R S a ka b kb c kc d kd) (v : List ℕ) (r : Answer)
      → made_call (makes a b c d) k (held a b c d x u) ≡ when_stopped w (held a b c d x u)
      → Tested (lent_right (held a b c d x u)) Length (Ok tt) → Tested (is_stopped x.engine.processor.works.run) NotStopped (Ok tt)
      → r ≡ (w (held a b c d x u)).answer → held a b c d y v ≡ (w (held a b c d x u)).machine → MakesCall a b c d k x u y v r
  stopped w y v r e l n p q =
      comes (w (held a b c d x u)) y v r (lent (makes a b c d) k (held a b c d x u) l ∙ e ∙ passed (is_stopped x.engine.processor.works.run) NotStopped w (held a b c d x u) n) p q
