use Rattle.std.proofs.Common.{ℕ, List, ◌++◌, sym, ap, ◌∙◌}
use Rattle.pair.proofs.Places.{brought_word, brought_words}
use Rattle.pair.proofs.PairChannelDevice.bring.Goals as goal

pub returns-then-work_to_first-clause-answer : goal.returns-then-work_to_first-clause-answer
returns-then-work_to_first-clause-answer g c =
    let one = c.args.self.now.first in
    let two = c.args.self.now.second in
    c.bring.ensures.answer
    ∙ brought_word _ g.B.Device.means g.A.Device.lawful _ (g.B.Device.control two) _ (g.B.Device.words two) (g.A.Device.numbered one) (sym c.if-work_to_first.ensures)

pub returns-then-work_to_first-clause-words : goal.returns-then-work_to_first-clause-words
returns-then-work_to_first-clause-words g c =
    let one = c.args.self.now.first in
    let two = c.args.self.now.second in
    ap (λ (z : List ℕ). z ++ g.B.Device.words two) c.bring.ensures.words
    ∙ brought_words _ g.B.Device.means g.A.Device.lawful _ (g.B.Device.control two) _ (g.B.Device.words two) (g.A.Device.numbered one) (sym c.if-work_to_first.ensures)
