use Rattle.std.proofs.Common.{ℕ, length, sym, ◌∙◌, ap₂}
use Rattle.registers.specs.declared.state.Registers.{Registers}
use Rattle.levels.specs.declared.state.Service.{Service}
use Rattle.works.specs.declared.panel.RunState.TheVariants.{Running}
use Rattle.engine.specs.Machine.{work, with_service, with_run}
use Rattle.engine.specs.Plan.{read, perform}
use Rattle.engine.specs.Instructions.{branch_store}
use Rattle.engine.specs.Interrupt.{forced_branch}
use Rattle.engine.specs.Code.{view, makes}
use Rattle.engine.proofs.engine.Engine.forced_branch.Goals as goal

pub returns-clause-goes : goal.returns-clause-goes
unfolding forced_branch
returns-clause-goes g c =
    let m = makes g.A.Device g.B.Device g.C.Device g.D.Device in
    let v = view g.A.Device g.B.Device g.C.Device g.D.Device in
    let u = c.args.core.now in
    let s = v c.args.self.now u in
    let p = c.args.self.now.processor in
    let x = c.read-word.new.self in
    let t = v x c.read-word.new.core in
    let w = c.read-word.result in
    let after = λ (z : Service). work (λ k. with_run Running (with_service z k)) s in
    ap₂ (λ (z : Service) (a : ℕ). (perform m (read a (λ (y : ℕ). branch_store (length u) y p.works.registers)) (after z)).machine) (sym c.begin.ensures) (sym c.vector.ensures)
    ∙ c.read-word.ensures.goes (λ (y : ℕ). branch_store (length u) y p.works.registers)
    ∙ ap₂ (λ (n : ℕ) (r : Registers). (perform m (branch_store n w r) t).machine) (sym c.read-word.auto.core) (sym c.read-word.ensures.keeps.registers)
    ∙ c.link.ensures.goes
