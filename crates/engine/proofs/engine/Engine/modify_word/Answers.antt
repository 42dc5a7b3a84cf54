use Rattle.std.proofs.Common.{ℕ, cond, length, ap, ◌∙◌}
use Rattle.engine.specs.Instructions.{advanced}
use Rattle.engine.specs.Code.{view, makes, moved}
use Rattle.engine.proofs.Going.{by_length, memory_goes}
use Rattle.engine.proofs.engine.Engine.modify_word.Goals as goal

pub returns-clause-goes : goal.returns-clause-goes
returns-clause-goes g c =
    let v = view g.A.Device g.B.Device g.C.Device g.D.Device in
    let u = c.args.core.now in
    let p = c.args.self.now.processor in
    let x = c.store.new.self.processor in
    let q = c.skip_if.new.self in
    let modified = c.modify-modified.result in
    let books = c.store.ensures.keeps.within.books ∙ c.read-old.ensures.keeps.within.books ∙ c.second-address.ensures.within.books in
    let e = by_length (λ (n : ℕ). cond modified.skip (moved (advanced n 1) x) x) q p x u c.requires.room.fits books c.skip_if.ensures in
    memory_goes (makes g.A.Device g.B.Device g.C.Device g.D.Device) (length u) c.args.fields.now p.works.registers c.second-address.new.self.processor.works.registers
    c.second-address.result c.read-old.result modified.word modified.skip
    (v c.args.self.now c.args.core.now)
    (v c.second-address.new.self c.second-address.new.core)
    (v c.read-old.new.self c.read-old.new.core)
    (v c.store.new.self c.store.new.core)
    q c.second-address.ensures.goes c.read-old.ensures.goes (ap (λ x. x.word) c.modify-modified.ensures) (ap (λ x. x.skip) c.modify-modified.ensures) c.store.ensures.goes e
