use Rattle.std.proofs.Common.{ℕ, List, sym, refl, ap, ◌∙◌}
use Rattle.engine.specs.declared.place.ChannelNumber.{ChannelNumber}
use Rattle.engine.specs.Cycle.{finished}
use Rattle.engine.specs.Code.{view, makes}
use Rattle.engine.proofs.engine.Engine.end_table.Goals as goal

pub returns-in-Channel1-clause-after : goal.returns-in-Channel1-clause-after
returns-in-Channel1-clause-after g c =
    let m = makes g.A.Device g.B.Device g.C.Device g.D.Device in
    let s = λ (u : List ℕ). view g.A.Device g.B.Device g.C.Device g.D.Device c.args.self.now u in
    λ u. sym (c.finish.ensures.after u m (s u) refl) ∙ ap (λ (n : ChannelNumber). (finished m n (s u)).machine) (sym c.in-Channel1.is)

pub returns-in-Channel2-clause-after : goal.returns-in-Channel2-clause-after
returns-in-Channel2-clause-after g c =
    let m = makes g.A.Device g.B.Device g.C.Device g.D.Device in
    let s = λ (u : List ℕ). view g.A.Device g.B.Device g.C.Device g.D.Device c.args.self.now u in
    λ u. sym (c.finish-in-Channel2.ensures.after u m (s u) refl) ∙ ap (λ (n : ChannelNumber). (finished m n (s u)).machine) (sym c.in-Channel2.is)

pub returns-in-Channel3-clause-after : goal.returns-in-Channel3-clause-after
returns-in-Channel3-clause-after g c =
    let m = makes g.A.Device g.B.Device g.C.Device g.D.Device in
    let s = λ (u : List ℕ). view g.A.Device g.B.Device g.C.Device g.D.Device c.args.self.now u in
    λ u. sym (c.finish-in-Channel3.ensures.after u m (s u) refl) ∙ ap (λ (n : ChannelNumber). (finished m n (s u)).machine) (sym c.in-Channel3.is)
