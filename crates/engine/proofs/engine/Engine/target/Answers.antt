use Rattle.std.proofs.Common.{◌∙◌, sym, length}
use Rattle.engine.specs.Code.{view, makes}
use Rattle.engine.proofs.Going.{branch_stays, branch_taken}
use Rattle.engine.proofs.engine.Engine.target.Goals as goal

pub returns-then-test-clause-stays : goal.returns-then-test-clause-stays
returns-then-test-clause-stays g c = λ k _.
    let v = view g.A.Device g.B.Device g.C.Device g.D.Device in
    let x = c.second-address.new.self in
    branch_stays (makes g.A.Device g.B.Device g.C.Device g.D.Device) (length c.args.core.now) c.args.fields.now
    c.args.self.now.processor.works.registers x.processor.works.registers c.test.new.self c.second-address.result
    (v c.args.self.now c.args.core.now) (v x c.second-address.new.core)
    c.second-address.ensures.goes c.test.ensures.after (sym c.test.ensures.answer ∙ c.if-test.true) k

pub returns-clause-goes : goal.returns-clause-goes
returns-clause-goes g c = λ k a e.
    let v = view g.A.Device g.B.Device g.C.Device g.D.Device in
    let x = c.second-address.new.self in
    branch_taken (makes g.A.Device g.B.Device g.C.Device g.D.Device) (length c.args.core.now) c.args.fields.now
    c.args.self.now.processor.works.registers x.processor.works.registers c.test.new.self c.second-address.result
    c.indexed-direct.result c.indirect.result
    (v c.args.self.now c.args.core.now) (v x c.second-address.new.core) (v c.indirect.new.self c.indirect.new.core)
    c.second-address.ensures.goes c.test.ensures.after (sym c.test.ensures.answer ∙ c.if-test.false)
    c.indexed-direct.ensures c.indirect.ensures.goes c.second-address.ensures.moved k a (cc)
