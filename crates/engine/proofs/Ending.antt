-- A step, from its parts.
use Rattle.std.proofs.Common.{◌≡◌, length, Option, sym, refl, ap, ◌∙◌, ap₂}
use Rattle.levels.specs.declared.state.Interrupt.{Interrupt}
use Rattle.works.specs.declared.panel.RunState.{RunState}
use Rattle.engine.specs.declared.state.Tally.{Tally}
use Rattle.engine.specs.Machine.{Machine, with_tally, with_processor}
use Rattle.engine.specs.Makes.{Makes}
use Rattle.engine.specs.Levels.{level_status, due_now}
use Rattle.engine.specs.Plan.{perform}
use Rattle.engine.specs.Step.{plan_for, step_plan, no_tally, ended_step, step}

-- the tally of a step that begins has no part in what is due
pub same_plan : (m : Makes) (s : Machine) (y : Tally) → step_plan m (with_processor (with_tally y s.processor) s) ≡ step_plan m s
unfolding due_now level_status
same_plan m s y = refl

pub step_by : (m : Makes) (s t : Machine) (y : Tally) → y ≡ no_tally
    → (perform m (step_plan m (with_processor (with_tally y s.processor) s)) (with_processor (with_tally y s.processor) s)).machine ≡ t
    → with_processor (ended_step t.processor) t ≡ (step m s).machine
unfolding step
step_by m s t y e h =
    ap (λ (x : Machine). with_processor (ended_step x.processor) x)
    (sym h ∙ ap (λ p. (perform m p (with_processor (with_tally y s.processor) s)).machine) (same_plan m s y)
    ∙ ap (λ (z : Tally). (perform m (step_plan m s) (with_processor (with_tally z s.processor) s)).machine) e)

-- what a step does, by the run state and the interrupt that is due
pub step_goes : (m : Makes) (s t : Machine) (run : RunState) (due : Option Interrupt) → s.processor.works.run ≡ run → due ≡ due_now m s
    → (perform m (plan_for run due m (length s.core) s.processor.works.registers) s).machine ≡ t → (perform m (step_plan m s) s).machine ≡ t
step_goes m s t run due e k h =
    ap₂ (λ (x : RunState) (y : Option Interrupt). (perform m (plan_for x y m (length s.core) s.processor.works.registers) s).machine) e (sym k) ∙ h
