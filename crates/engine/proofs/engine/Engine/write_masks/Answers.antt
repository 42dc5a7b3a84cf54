use Rattle.std.proofs.Common.{ℕ, Bool, sym, ap, ◌∙◌}
use Rattle.levels.specs.declared.state.Masks.{Masks}
use Rattle.engine.specs.Machine.{work, with_masks}
use Rattle.engine.specs.Plan.{act, done}
use Rattle.engine.specs.Xio.{masks_set}
use Rattle.engine.specs.Code.{view}
use Rattle.engine.proofs.engine.Engine.write_masks.Goals as goal

pub returns-then-high-clause-goes : goal.returns-then-high-clause-goes
returns-then-high-clause-goes g c =
    let t = view g.A.Device g.B.Device g.C.Device g.D.Device c.read-word.new.self c.read-word.new.core in
    let r = c.read-word.result in
    c.read-word.ensures.goes (λ (x : ℕ). act (masks_set c.args.high x) done)
    ∙ ap (λ (b : Bool). work (masks_set b r) t) c.if-high.true ∙ ap (λ (k : Masks). work (with_masks k) t) (sym c.write_high.ensures)

pub returns-else-high-clause-goes : goal.returns-else-high-clause-goes
returns-else-high-clause-goes g c =
    let t = view g.A.Device g.B.Device g.C.Device g.D.Device c.read-word.new.self c.read-word.new.core in
    let r = c.read-word.result in
    c.read-word.ensures.goes (λ (x : ℕ). act (masks_set c.args.high x) done)
    ∙ ap (λ (b : Bool). work (masks_set b r) t) c.if-high.false ∙ ap (λ (k : Masks). work (with_masks k) t) (sym c.write_low.ensures)
