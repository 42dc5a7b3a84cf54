use Rattle.std.proofs.Common.{List, ap, ◌∙◌}
use Rattle.works.specs.declared.channel.ChannelWish.{ChannelWish}
use Rattle.levels.specs.Choice.{first_behind}
use Rattle.engine.proofs.engine.Engine.chosen.Goals as goal

pub returns-clause-is : goal.returns-clause-is
returns-clause-is g c core =
    c.first_behind.ensures.value ∙ ap (λ (ws : List ChannelWish). first_behind (λ w. w.channel) (λ w. w.wish) c.args.behind ws) (c.wishes.ensures core)
