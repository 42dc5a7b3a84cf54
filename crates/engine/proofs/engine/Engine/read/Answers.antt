use Rattle.std.proofs.Common.{ℕ, sym, ap, ◌∙◌}
use Rattle.engine.specs.Machine.{Machine, with_core, with_processor}
use Rattle.engine.specs.Cycle.{reading, data_in}
use Rattle.engine.specs.Plan.{perform}
use Rattle.engine.specs.Code.{view, makes}
use Rattle.engine.proofs.Cycling.{cycle_by}
use Rattle.engine.proofs.engine.Engine.read.Goals as goal

pub returns-clause-goes : goal.returns-clause-goes
returns-clause-goes g c =
    let m = makes g.A.Device g.B.Device g.C.Device g.D.Device in
    let v = view g.A.Device g.B.Device g.C.Device g.D.Device in
    let s = v c.args.self.now c.args.core.now in
    let o = v c.offers.new.self c.offers.new.core in
    let u = c.offers.new.core in
    let t = v c.tell.new.self u in
    let e = cycle_by m (reading c.args.address) s o (with_core u (with_processor c.read_word-word.new.self o)) t c.offers.ensures.after (sym (c.read_word-word.ensures.after o)) (c.tell.ensures.after u) in
    λ k. ap (λ (x : Machine). (perform m (k (data_in c.args.address x)) x).machine) (sym e) ∙ ap (λ (x : ℕ). (perform m (k x) t).machine) (sym c.read_word-word.ensures.word)
