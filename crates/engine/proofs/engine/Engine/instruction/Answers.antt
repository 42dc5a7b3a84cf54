use Rattle.std.proofs.Common.{ℕ, ◌%◌, length, sym, refl, ap, ◌∙◌}
use Rattle.registers.specs.declared.state.Registers.{Registers}
use Rattle.instruction.specs.Decoding.{decoded}
use Rattle.engine.specs.Plan.{perform}
use Rattle.engine.specs.Instructions.{instruction, executed}
use Rattle.engine.specs.Code.{view, makes}
use Rattle.engine.proofs.Going.{by_length}
use Rattle.engine.proofs.engine.Engine.instruction.Goals as goal

pub returns-clause-goes : goal.returns-clause-goes
unfolding instruction
returns-clause-goes g c =
    let m = makes g.A.Device g.B.Device g.C.Device g.D.Device in
    let v = view g.A.Device g.B.Device g.C.Device g.D.Device in
    let u = c.args.core.now in
    let p = c.args.self.now.processor in
    let x = c.second-word.new.self in
    let t = v x c.second-word.new.core in
    let w = c.second-word.result in
    let r = x.processor.works.registers in
    let at = by_length (λ (n : ℕ). p.works.registers.i % n) c.place-at.result p p u c.requires.room.fits refl c.place-at.ensures.is in
    c.second-word.ensures.goes (λ (y : ℕ) (z : Registers). executed m (length u) (p.works.registers.i % length u) (decoded y) y z)
    ∙ ap (λ (y : ℕ). (perform m (executed m (length u) y (decoded w) w r) t).machine) (sym at)
    ∙ ap (λ (y : ℕ). (perform m (executed m y c.place-at.result (decoded w) w r) t).machine) (sym c.second-word.auto.core)
    ∙ c.execute.ensures.goes
