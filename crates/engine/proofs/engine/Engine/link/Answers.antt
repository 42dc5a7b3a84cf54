use Rattle.std.proofs.Common.{ℕ, ◌+◌, ◌%◌, length}
use Rattle.engine.specs.Code.{view, makes}
use Rattle.engine.proofs.Going.{by_length, linked_goes}
use Rattle.engine.proofs.engine.Engine.link.Goals as goal

pub returns-clause-goes : goal.returns-clause-goes
returns-clause-goes g c =
    let see = view g.A.Device g.B.Device g.C.Device g.D.Device in
    let u = c.args.core.now in
    let p = c.args.self.now.processor in
    let a = c.args.address in
    let v = c.onward-self.result in
    let keeps = c.store.ensures.keeps in
    let e = by_length (λ (n : ℕ). (a + 1) % n) v p c.store.new.self.processor u c.requires.room.fits keeps.within.books c.onward-self.ensures in
    linked_goes (makes g.A.Device g.B.Device g.C.Device g.D.Device) (length u) a v p.works.registers
    (see c.args.self.now c.args.core.now)
    (see c.store.new.self c.store.new.core)
    c.store.ensures.goes e
