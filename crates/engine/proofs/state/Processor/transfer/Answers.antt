use Rattle.std.proofs.Common.{ℕ, ◌%◌, sym, ap, ◌∙◌}
use Rattle.works.specs.declared.channel.Channel.TheVariants.{Head}
use Rattle.engine.specs.declared.state.Works.{Works}
use Rattle.engine.specs.Machine.{with_works}
use Rattle.engine.specs.Cycle.{at_head}
use Rattle.engine.specs.Code.{dev}
use Rattle.engine.proofs.Referring.{same_size}
use Rattle.engine.proofs.Serving.{transfer_head, transfer_next}
use Rattle.engine.proofs.state.Processor.transfer.Goals as goal

pub returns-in-Head-clause-after : goal.returns-in-Head-clause-after
returns-in-Head-clause-after g c =
    let p = c.args.self.now in
    let u = c.args.core.now in
    let q = c.read_word-word.new.self in
    let n = c.args.number in
    let a = c.in-Head.address in
    let w = c.read_word-word.result in
    transfer_head n g.D.Device.means a c.serving-by.result c.at_head-next.result p q (with_works c.set_channel.new.self q) u (dev g.D.Device c.args.device.now) w
    (sym c.channel.ensures ∙ c.in-Head.is)
    c.serving-by.ensures
    c.read_word-word.ensures.after c.read_word-word.ensures.word
    (c.at_head-next.ensures ∙ ap (λ (x : ℕ). at_head x a w) (same_size p q u c.requires.room.fits c.read_word-word.ensures.keeps))
    (ap (λ (x : Works). with_works x q) c.set_channel.ensures)

pub returns-in-NextHead-clause-after : goal.returns-in-NextHead-clause-after
returns-in-NextHead-clause-after g c =
    let p = c.args.self.now in
    let u = c.args.core.now in
    let q = c.read_word-word-in-NextHead.new.self in
    let n = c.args.number in
    let a = c.in-NextHead.address in
    let w = c.read_word-word-in-NextHead.result in
    transfer_next n g.D.Device.means a c.serving-by.result (Head c.place.result) p q (with_works c.set_channel-in-NextHead.new.self q) u (dev g.D.Device c.args.device.now) w
    (sym c.channel.ensures ∙ c.in-NextHead.is)
    c.serving-by.ensures
    c.read_word-word-in-NextHead.ensures.after c.read_word-word-in-NextHead.ensures.word
    (ap (λ (x : ℕ). Head x) (c.place.ensures.is ∙ ap (λ (x : ℕ). w % x) (same_size p q u c.requires.room.fits c.read_word-word-in-NextHead.ensures.keeps)))
    (ap (λ (x : Works). with_works x q) c.set_channel-in-NextHead.ensures)
