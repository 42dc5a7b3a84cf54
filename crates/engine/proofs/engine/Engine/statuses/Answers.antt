use Rattle.std.proofs.Common.{◌≡◌, ℕ, ◌+◌, List, refl, ap, ◌∙◌, arith}
use Rattle.engine.specs.Levels.{level_status}
use Rattle.engine.specs.Code.{view, makes, dev}
use Rattle.engine.proofs.Filling.{with_line, level_lines, statuses_by}
use Rattle.engine.proofs.engine.Engine.statuses.Goals as goal

pub returns : goal.returns
returns g c =
    let m = makes g.A.Device g.B.Device g.C.Device g.D.Device in
    let s = λ (u : List ℕ). view g.A.Device g.B.Device g.C.Device g.D.Device c.args.self.now u in
    let x = c.args.self.now in
    let w = x.processor.books.wiring in
    λ u. statuses_by m (s u) 0 24 c.raise-4.new.words c.raise-4.array_long (λ i lt.
    with_line m.fourth (dev g.D.Device x.fourth) w.fourth i _ _ _ c.line-4.result c.line-4.ensures (c.raise-4.ensures i lt)
    (with_line m.third (dev g.C.Device x.third) w.third i _ _ _ c.line-3.result c.line-3.ensures (c.raise-3.ensures i lt)
    (with_line m.second (dev g.B.Device x.second) w.second i _ _ _ c.line-2.result c.line-2.ensures (c.raise-2.ensures i lt)
    (with_line m.first (dev g.A.Device x.first) w.first i _ _ _ c.line.result c.line.ensures (c.raise.ensures i lt) refl)))
    ∙ level_lines m (s u) i _ _ _ _ _ lt refl refl refl refl refl
    ∙ ap (λ (k : ℕ). level_status m (s u) k) (let e : i ≡ 0 + i = omega arith in e))
