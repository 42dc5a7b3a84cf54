use Rattle.std.proofs.Common.{◌∙◌, Bool, ap, ℕ, List, refl}
use Rattle.refusal.specs.declared.Refusal.TheVariants.{Wiring}
use Rattle.engine.specs.Machine.{with_processor, with_points}
use Rattle.controller.specs.Console.{only_if, latching}
use Rattle.controller.specs.Held.{plainly, held}
use Rattle.controller.proofs.Entering.{wrong, right}
use Rattle.controller.proofs.controller.Controller.point.Goals as goal

pub returns-in_err-check_lent : goal.returns-in_err-check_lent
returns-in_err-check_lent g c = wrong plainly c.from_residual.result _ c.from_residual.ensures.1 refl c.in_err-check_lent.ensures

pub returns-then-not-on_panel : goal.returns-then-not-on_panel
returns-then-not-on_panel g c =
    let s = held g.A.Device g.B.Device g.C.Device g.D.Device c.args.self.now c.args.core.now in
    let e = c.if-not-on_panel.ensures in
    right _ _ _ c.in_ok-check_lent.ensures (ap (λ (b : Bool). (only_if b Wiring (latching c.args.level c.args.bit) s).answer) e)
    (ap (λ (b : Bool). (only_if b Wiring (latching c.args.level c.args.bit) s).machine) e)

pub returns : goal.returns
returns g c =
    let s = held g.A.Device g.B.Device g.C.Device g.D.Device c.args.self.now c.args.core.now in
    let e = c.if-not-on_panel.ensures in
    right _ _ _ c.in_ok-check_lent.ensures (ap (λ (b : Bool). (only_if b Wiring (latching c.args.level c.args.bit) s).answer) e)
    (ap (λ (w : List ℕ). with_processor (with_points (record { words = w }) s.processor) s) c.latch.ensures
    ∙ ap (λ (b : Bool). (only_if b Wiring (latching c.args.level c.args.bit) s).machine) e)
