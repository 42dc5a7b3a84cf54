-- The forced branch: an interrupt's service begins by a BSI through the interrupt's own word.
use Rattle.std.specs.Prelude.{ℕ, ◌+◌, true}
use Rattle.registers.specs.declared.state.Registers.{Registers}
use Rattle.levels.specs.declared.state.Interrupt.{Interrupt}
use Rattle.levels.specs.declared.state.Interrupt.TheVariants.{Internal, Level}
use Rattle.levels.specs.Interrupts.{with_service as serving}
use Rattle.works.specs.declared.panel.RunState.TheVariants.{Running}
use Rattle.engine.specs.Machine.{with_service, with_run}
use Rattle.engine.specs.Plan.{Plan, act, read}
use Rattle.engine.specs.Instructions.{branch_store}

-- word 8 for the internal level, word 11 + L for level L
abbrev pub vector : Interrupt → ℕ
vector Internal = 8
vector (Level l) = 11 + l

unfoldable pub forced_branch : ℕ → Interrupt → Registers → Plan
forced_branch n i r = act (λ w. with_run Running (with_service (serving i true w.service) w)) (read (vector i) (λ v. branch_store n v r))
