use Rattle.std.proofs.Common.{ℕ, List, ◌++◌, sym, ap, ◌∙◌}
use Rattle.pair.proofs.Places.{got_word, got_words, got_second, word_second}
use Rattle.pair.proofs.PairDevice.get.Goals as goal

pub returns-then-area_to_first-clause-answer : goal.returns-then-area_to_first-clause-answer
returns-then-area_to_first-clause-answer g c =
    let one = c.args.self.now.first in
    let two = c.args.self.now.second in
    c.get.ensures.answer
    ∙ got_word _ g.B.Device.means g.A.Device.lawful _ (g.B.Device.control two) _ (g.B.Device.words two) (g.A.Device.numbered one) c.args.area (sym c.if-area_to_first.ensures)

pub returns-then-area_to_first-clause-words : goal.returns-then-area_to_first-clause-words
returns-then-area_to_first-clause-words g c =
    let one = c.args.self.now.first in
    let two = c.args.self.now.second in
    ap (λ (z : List ℕ). z ++ g.B.Device.words two) c.get.ensures.words
    ∙ got_words _ g.B.Device.means g.A.Device.lawful _ (g.B.Device.control two) _ (g.B.Device.words two) (g.A.Device.numbered one) c.args.area (sym c.if-area_to_first.ensures)

pub returns-else-area_to_first-clause-answer : goal.returns-else-area_to_first-clause-answer
returns-else-area_to_first-clause-answer g c =
    let one = c.args.self.now.first in
    let two = c.args.self.now.second in
    c.get-else-area_to_first.ensures.answer
    ∙ word_second (g.A.Device.words one) (g.B.Device.words two) _ _ _ (g.A.Device.numbered one)
    (got_second g.A.Device.means g.B.Device.means (g.A.Device.control one) (g.B.Device.control two) c.args.area (sym c.if-area_to_first.ensures))
