use Rattle.std.proofs.Common.{sym, ◌∙◌}
use Rattle.engine.specs.Code.{view, makes}
use Rattle.engine.proofs.Cycling.{offers_idle, offers_none, offers_one, offers_two}
use Rattle.engine.proofs.engine.Engine.offers.Goals as goal

pub returns-then-channels_idle-clause-after : goal.returns-then-channels_idle-clause-after
returns-then-channels_idle-clause-after g c =
    offers_idle (makes g.A.Device g.B.Device g.C.Device g.D.Device) (view g.A.Device g.B.Device g.C.Device g.D.Device c.args.self.now c.args.core.now) (sym c.channels_idle.ensures ∙ c.if-channels_idle.true)

pub returns-in_default-clause-after : goal.returns-in_default-clause-after
returns-in_default-clause-after g c =
    let m = makes g.A.Device g.B.Device g.C.Device g.D.Device in
    let v = view g.A.Device g.B.Device g.C.Device g.D.Device in
    offers_none m (v c.args.self.now c.args.core.now) (v c.turn.new.self c.turn.new.core) c.turn.result c.turn.ensures.after c.in_default.is

pub returns-in_default-turn-clause-after : goal.returns-in_default-turn-clause-after
returns-in_default-turn-clause-after g c =
    let m = makes g.A.Device g.B.Device g.C.Device g.D.Device in
    let v = view g.A.Device g.B.Device g.C.Device g.D.Device in
    let s = v c.args.self.now c.args.core.now in
    let t = v c.turn.new.self c.turn.new.core in
    let w = v c.turn-2.new.self c.turn-2.new.core in
    offers_one m s t w c.turn.result c.turn-2.result c.in-Some.first c.turn.ensures.after c.in-Some.is c.turn-2.ensures.after c.in_default-turn.is

pub returns-clause-after : goal.returns-clause-after
returns-clause-after g c =
    let m = makes g.A.Device g.B.Device g.C.Device g.D.Device in
    let v = view g.A.Device g.B.Device g.C.Device g.D.Device in
    let s = v c.args.self.now c.args.core.now in
    let t = v c.turn.new.self c.turn.new.core in
    let w = v c.turn-2.new.self c.turn-2.new.core in
    let x = v c.turn-3.new.self c.turn-3.new.core in
    offers_two m s t w x c.turn.result c.turn-2.result c.turn-3.result c.in-Some.first c.in-Some-turn.second
    c.turn.ensures.after c.in-Some.is c.turn-2.ensures.after c.in-Some-turn.is c.turn-3.ensures.after
