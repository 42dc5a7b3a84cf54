use Rattle.std.proofs.Common.{ℕ, ◌%◌, length, ◌∙◌}
use Rattle.engine.specs.Code.{view, makes}
use Rattle.engine.proofs.Going.{xio_goes, by_length}
use Rattle.engine.proofs.engine.Engine.execute_io.Goals as goal

pub returns-clause-goes : goal.returns-clause-goes
returns-clause-goes g c =
    let v = view g.A.Device g.B.Device g.C.Device g.D.Device in
    let u = c.args.core.now in
    let p = c.args.self.now.processor in
    let x = c.effective-ea.new.self in
    let y = c.read-address.new.self in
    let z = c.read-control.new.self in
    let books = c.read-control.ensures.keeps.within.books ∙ c.read-address.ensures.keeps.within.books ∙ c.effective-ea.ensures.within.books in
    λ w. xio_goes (makes g.A.Device g.B.Device g.C.Device g.D.Device) (length u) (length c.read-control.new.core) c.args.fields.now p.works.registers x.processor.works.registers
    (v c.args.self.now u) (v x c.effective-ea.new.core) (v y c.read-address.new.core) (v z c.read-control.new.core) (v c.xio.new.self c.xio.new.core)
    c.effective-ea.result c.odd.result c.place-at.result c.read-address.result c.read-control.result
    c.effective-ea.ensures.goes c.read-address.ensures.goes c.odd.ensures c.read-control.ensures.goes
    (by_length (λ (n : ℕ). c.effective-ea.result % n) c.place-at.result p z.processor u c.requires.room.fits books c.place-at.ensures.is)
    (c.read-control.auto.core ∙ c.read-address.auto.core ∙ c.effective-ea.auto.core) c.xio.ensures.goes
