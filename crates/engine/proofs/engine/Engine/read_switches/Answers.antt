use Rattle.std.proofs.Common.{ℕ, sym, ap, ◌∙◌}
use Rattle.engine.specs.Plan.{store, done, perform}
use Rattle.engine.specs.Code.{view, makes}
use Rattle.engine.proofs.engine.Engine.read_switches.Goals as goal

pub returns-clause-goes : goal.returns-clause-goes
returns-clause-goes g c =
    let m = makes g.A.Device g.B.Device g.C.Device g.D.Device in
    let s = view g.A.Device g.B.Device g.C.Device g.D.Device c.args.self.now c.args.core.now in
    ap (λ (x : ℕ). (perform m (store c.args.address x done) s).machine) (sym c.sense_word-word.ensures) ∙ c.store.ensures.goes done
