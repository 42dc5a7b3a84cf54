use Rattle.std.proofs.Common.{sym, ◌∙◌}
use Rattle.engine.specs.Code.{dev}
use Rattle.engine.proofs.Records.{dev_path}
use Rattle.engine.proofs.Serving.{moves_bring, moves_take}
use Rattle.engine.proofs.state.Processor.move_word.Goals as goal

pub returns-in-Bring-clause-after : goal.returns-in-Bring-clause-after
returns-in-Bring-clause-after g c =
    let d = dev g.D.Device c.args.device.now in
    let e = dev g.D.Device c.bring-word.new.self in
    moves_bring c.args.number g.D.Device.means c.args.address c.serving-by.result c.bring-word.result
    c.args.self.now c.store_word.new.self c.args.core.now c.store_word.new.core d e
    c.serving-by.ensures
    (sym c.asks.ensures ∙ c.in-Bring.is) c.bring-word.ensures.answer (dev_path _ _ c.bring-word.ensures.control c.bring-word.ensures.words) c.store_word.ensures.after

pub returns-in-Take-clause-after : goal.returns-in-Take-clause-after
returns-in-Take-clause-after g c =
    let d = dev g.D.Device c.args.device.now in
    let e = dev g.D.Device c.take.new.self in
    moves_take c.args.number g.D.Device.means c.args.address c.serving-by.result c.read_word-word.result
    c.args.self.now c.read_word-word.new.self c.args.core.now d e
    c.serving-by.ensures
    (sym c.asks.ensures ∙ c.in-Take.is) c.read_word-word.ensures.word (dev_path _ _ c.take.ensures.control c.take.ensures.words) c.read_word-word.ensures.after
