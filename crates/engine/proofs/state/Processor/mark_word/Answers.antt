use Rattle.std.proofs.Common.{◌∙◌}
use Rattle.engine.proofs.Referring.{same_place, mark_on, mark_off}
use Rattle.engine.proofs.state.Processor.mark_word.Goals as goal

pub returns-then-self-clause-after : goal.returns-then-self-clause-after
returns-then-self-clause-after c by =
    let u = c.args.core.now in
    let p = c.args.self.now in
    let at = c.from.ensures ∙ same_place p u c.args.address c.place.result c.requires.fits c.place.ensures.is in
    mark_on by c.args.address c.from.result c.args.on c.args.value c.word_of.result p u at c.ranges.value.fits c.if-self.true c.word_of.ensures.value

pub returns-else-self-clause-after : goal.returns-else-self-clause-after
returns-else-self-clause-after c by = mark_off by c.args.address c.args.on c.args.value c.args.self.now c.args.core.now c.if-self.false
