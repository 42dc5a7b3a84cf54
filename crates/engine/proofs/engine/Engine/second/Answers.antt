use Rattle.std.proofs.Common.{ℕ, length}
use Rattle.engine.specs.Instructions.{advanced}
use Rattle.engine.specs.Code.{view, makes, moved}
use Rattle.engine.proofs.Going.{by_length, second_goes}
use Rattle.engine.proofs.engine.Engine.second.Goals as goal

pub returns-clause-goes : goal.returns-clause-goes
returns-clause-goes g c =
    let v = view g.A.Device g.B.Device g.C.Device g.D.Device in
    let u = c.args.core.now in
    let p = c.args.self.now.processor in
    let x = c.read-word.new.self in
    let q = c.advance.new.self in
    let keeps = c.read-word.ensures.keeps in
    let e = by_length (λ (n : ℕ). moved (advanced n 1) x.processor) q p x.processor u c.requires.room.fits keeps.within.books c.advance.ensures in
    second_goes (makes g.A.Device g.B.Device g.C.Device g.D.Device) (length u) p.works.registers q c.read-word.result
    (v c.args.self.now u)
    (v x c.read-word.new.core) c.read-word.ensures.goes keeps.registers e
