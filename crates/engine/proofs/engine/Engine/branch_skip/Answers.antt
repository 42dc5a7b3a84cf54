use Rattle.std.proofs.Common.{ℕ, cond, length, refl}
use Rattle.instruction.specs.declared.words.Fields.{Fields}
use Rattle.registers.specs.declared.state.Registers.{Registers}
use Rattle.registers.specs.Branches.{holds, tested}
use Rattle.engine.specs.Machine.{words_of_size}
use Rattle.engine.specs.Plan.{Plan, done}
use Rattle.engine.specs.Instructions.{change, skip, leave, i_set}
use Rattle.engine.specs.Code.{view, makes}
use Rattle.engine.proofs.Going.{by_length, branch_goes}
use Rattle.engine.proofs.engine.Engine.branch_skip.Goals as goal

-- what the short form does
abbrev short : ℕ → Fields → Registers → Plan
short n f r = change (tested f.conditions) (cond (holds f.conditions r) (leave f (skip n 1 done)) done)

pub returns-in-Some-clause-goes : goal.returns-in-Some-clause-goes
returns-in-Some-clause-goes g c =
    let v = view g.A.Device g.B.Device g.C.Device g.D.Device in
    let u = c.args.core.now in
    let f = c.args.fields.now in
    let p = c.args.self.now.processor in
    let x = c.target.new.self.processor in
    let a = c.in-Some.address in
    let t = i_set (words_of_size x.books.size) a x.works.registers in
    let e = by_length (λ (n : ℕ). i_set n a x.works.registers) t p x u c.requires.room.fits c.target.ensures.within.books refl in
    λ w. rw c.jump.ensures (branch_goes (makes g.A.Device g.B.Device g.C.Device g.D.Device) (length u) f p.works.registers t a (short (length u) f p.works.registers) c.leave.new.service
    (v c.args.self.now c.args.core.now)
    (v c.target.new.self c.target.new.core)
    c.if-fields.true (λ k. c.target.ensures.goes k a c.in-Some.is) c.leave.ensures e)
