use Rattle.std.proofs.Common.{ℕ, Bool, cond, eqb, sym, ap, ◌∙◌, eq-eqb}
use Rattle.engine.specs.Plan.{read, give, fetch, done, perform}
use Rattle.engine.specs.Code.{view, makes}
use Rattle.engine.proofs.engine.Engine.move_word.Goals as goal

pub returns-in-1-clause-goes : goal.returns-in-1-clause-goes
returns-in-1-clause-goes g c =
    let m = makes g.A.Device g.B.Device g.C.Device g.D.Device in
    let s = view g.A.Device g.B.Device g.C.Device g.D.Device c.args.self.now c.args.core.now in
    let k = c.args.control in
    let p = c.args.position in
    let written = read c.args.address (λ (w : ℕ). give p k.area w done) in
    let other = cond (eqb k.function 2) (fetch p k.area c.args.address done) done in
    ap (λ (b : Bool). (perform m (cond b written other) s).machine) (eq-eqb k.function 1 c.in-1.is)
    ∙ c.read-word.ensures.goes (λ (w : ℕ). give p k.area w done)
    ∙ sym (c.put.ensures.after c.read-word.new.core)
