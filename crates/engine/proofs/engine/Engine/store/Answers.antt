use Rattle.std.proofs.Common.{sym, ap, ◌∙◌}
use Rattle.engine.specs.declared.place.By.TheVariants.{Program}
use Rattle.engine.specs.Machine.{Machine, with_core, with_processor}
use Rattle.engine.specs.Cycle.{storing, bringing}
use Rattle.engine.specs.Plan.{perform}
use Rattle.engine.specs.Code.{view, makes}
use Rattle.engine.proofs.Serving.{bringing_stores}
use Rattle.engine.proofs.Cycling.{cycle_by}
use Rattle.engine.proofs.engine.Engine.store.Goals as goal

pub returns-clause-goes : goal.returns-clause-goes
returns-clause-goes g c =
    let m = makes g.A.Device g.B.Device g.C.Device g.D.Device in
    let v = view g.A.Device g.B.Device g.C.Device g.D.Device in
    let s = v c.args.self.now c.args.core.now in
    let o = v c.offers.new.self c.offers.new.core in
    let u = c.store_word.new.core in
    let t = v c.tell.new.self u in
    let e = cycle_by m (storing c.args.address c.args.value) s o (with_core u (with_processor c.store_word.new.self o)) t c.offers.ensures.after (sym (c.store_word.ensures.after o)) (c.tell.ensures.after u) in
    λ k. ap (λ (x : Machine). (perform m k x).machine) (sym e)

pub returns-clause-brings : goal.returns-clause-brings
returns-clause-brings g c =
    let m = makes g.A.Device g.B.Device g.C.Device g.D.Device in
    let v = view g.A.Device g.B.Device g.C.Device g.D.Device in
    let s = v c.args.self.now c.args.core.now in
    let o = v c.offers.new.self c.offers.new.core in
    let u = c.store_word.new.core in
    let t = v c.tell.new.self u in
    cycle_by m (bringing c.args.address c.args.value) s o (with_core u (with_processor c.store_word.new.self o)) t c.offers.ensures.after
    (sym (bringing_stores Program c.args.address c.args.value o ∙ c.store_word.ensures.after o)) (c.tell.ensures.after u)
