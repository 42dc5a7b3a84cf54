use Rattle.std.proofs.Common.{ℕ, ap, ◌∙◌}
use Rattle.levels.specs.Standing.{status}
use Rattle.engine.specs.Levels.{level_status}
use Rattle.engine.proofs.engine.Engine.level_status.Goals as goal

pub returns : goal.returns
unfolding level_status
returns g c = λ u. c.status.ensures ∙ ap (λ (x : ℕ). status c.args.self.now.processor.points.words c.args.level x) (c.lines_at.ensures u)
