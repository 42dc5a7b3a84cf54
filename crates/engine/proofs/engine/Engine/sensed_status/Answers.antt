use Rattle.std.proofs.Common.{ℕ, List, Some, Option, sym, ap, ◌∙◌}
use Rattle.levels.specs.declared.state.Interrupt.{Interrupt}
use Rattle.engine.specs.Levels.{status_of, sensed_status}
use Rattle.engine.specs.Code.{view, makes}
use Rattle.engine.proofs.engine.Engine.sensed_status.Goals as goal

pub returns-in-None : goal.returns-in-None
unfolding sensed_status
returns-in-None g c =
    let m = makes g.A.Device g.B.Device g.C.Device g.D.Device in
    let s = λ (u : List ℕ). view g.A.Device g.B.Device g.C.Device g.D.Device c.args.self.now u in
    λ u. ap (λ (o : Option Interrupt). status_of o m (s u)) (sym (sym c.highest.ensures ∙ c.in-None.is))

pub returns-in-Some-Internal : goal.returns-in-Some-Internal
unfolding sensed_status
returns-in-Some-Internal g c =
    let m = makes g.A.Device g.B.Device g.C.Device g.D.Device in
    let s = λ (u : List ℕ). view g.A.Device g.B.Device g.C.Device g.D.Device c.args.self.now u in
    let i = c.in-Some-Internal in
    λ u. c.word.ensures ∙ ap (λ (o : Option Interrupt). status_of o m (s u)) (sym (sym c.highest.ensures ∙ i.is ∙ ap (λ (x : Interrupt). Some x) i.field-0-is))

pub returns-in-Some-Level : goal.returns-in-Some-Level
unfolding sensed_status
returns-in-Some-Level g c =
    let m = makes g.A.Device g.B.Device g.C.Device g.D.Device in
    let s = λ (u : List ℕ). view g.A.Device g.B.Device g.C.Device g.D.Device c.args.self.now u in
    let l = c.in-Some-Level in
    λ u. c.level_status.ensures u ∙ ap (λ (o : Option Interrupt). status_of o m (s u)) (sym (sym c.highest.ensures ∙ l.is ∙ ap (λ (x : Interrupt). Some x) l.field-0-is))
