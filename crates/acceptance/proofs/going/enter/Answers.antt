use Rattle.std.proofs.Common.{refl, ap}
use Rattle.engine.specs.Machine.{Machine}
use Rattle.engine.specs.Code.{makes}
use Rattle.controller.specs.Held.{held}
use Rattle.acceptance.proofs.Spare.{spare_answer, spare_left, spare_machine}
use Rattle.acceptance.proofs.going.enter.Goals as goal

pub returns-in-Other-clause-answer : goal.returns-in-Other-clause-answer
returns-in-Other-clause-answer g c =
    let v = held g.A.Device g.B.Device g.C.Device g.D.Device in
    let x = c.make_call-in-Other in
    spare_answer (makes g.A.Device g.B.Device g.C.Device g.D.Device) c.args.entry.now (v c.args.controller.now c.args.core.now) (v c.args.controller.now c.args.spare.now) (v x.new.self x.new.core)
    c.in-Other.is c.requires.spare x.result x.ensures.answer

pub returns-in-Other-clause-machine : goal.returns-in-Other-clause-machine
returns-in-Other-clause-machine g c =
    let v = held g.A.Device g.B.Device g.C.Device g.D.Device in
    let x = c.make_call-in-Other in
    spare_machine (makes g.A.Device g.B.Device g.C.Device g.D.Device) c.args.entry.now (v c.args.controller.now c.args.core.now) (v c.args.controller.now c.args.spare.now) (v x.new.self x.new.core)
    c.in-Other.is c.requires.spare x.ensures.machine refl

pub returns-in-Other-clause-spare : goal.returns-in-Other-clause-spare
returns-in-Other-clause-spare g c =
    let v = held g.A.Device g.B.Device g.C.Device g.D.Device in
    let x = c.make_call-in-Other in
    ap (λ (s : Machine). s.core) (spare_left (makes g.A.Device g.B.Device g.C.Device g.D.Device) c.args.entry.now (v c.args.controller.now c.args.core.now) (v c.args.controller.now c.args.spare.now)
    (v x.new.self x.new.core) c.in-Other.is c.requires.spare x.ensures.machine)
