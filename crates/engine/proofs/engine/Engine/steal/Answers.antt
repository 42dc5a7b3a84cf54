use Rattle.std.proofs.Common.{◌∙◌}
use Rattle.engine.specs.Code.{view, makes}
use Rattle.engine.proofs.Cycling.{steal_by}
use Rattle.engine.proofs.engine.Engine.steal.Goals as goal

pub returns-clause-after : goal.returns-clause-after
returns-clause-after g c =
    let m = makes g.A.Device g.B.Device g.C.Device g.D.Device in
    let v = view g.A.Device g.B.Device g.C.Device g.D.Device in
    let s = v c.args.self.now c.args.core.now in
    let t = v c.serve.new.self c.serve.new.core in
    c.end_table.ensures.after c.serve.new.core ∙ steal_by m c.args.number s t (v c.tell.new.self c.serve.new.core) c.serve.ensures.after (c.tell.ensures.after c.serve.new.core)
