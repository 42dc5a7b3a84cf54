use Rattle.std.proofs.Common.{refl, ap, ◌∙◌, arith}
use Rattle.controller.specs.Console.{Done}
use Rattle.controller.specs.Held.{plainly, held}
use Rattle.controller.proofs.Entering.{wrong, running, stopped}
use Rattle.controller.proofs.ByHand.{fits_by, loads, load_refused, load_taken, loaded}
use Rattle.controller.proofs.controller.Controller.load.Goals as goal

pub returns-in_err-check_lent : goal.returns-in_err-check_lent
returns-in_err-check_lent g c = wrong plainly c.from_residual.result _ c.from_residual.ensures.1 refl c.in_err-check_lent.ensures

pub returns-in_err-check_stopped : goal.returns-in_err-check_stopped
returns-in_err-check_stopped g c =
    running loads plainly c.from_residual-in_err-check_stopped.result _ c.from_residual-in_err-check_stopped.ensures.1 refl refl c.in_ok-check_lent.ensures c.in_err-check_stopped.ensures

pub returns-then-is_protected : goal.returns-then-is_protected
returns-then-is_protected g c =
    let s = held g.A.Device g.B.Device g.C.Device g.D.Device c.args.self.now c.args.core.now in
    let l = c.in_ok-check_lent.ensures in
    let e = load_refused s (fits_by s l) c.at_i-at.result c.at_i-at.ensures.is c.if-is_protected.ensures in
    stopped loads _ _ _ refl l c.in_ok-check_stopped.ensures (ap (λ (d : Done). d.answer) e) (ap (λ (d : Done). d.machine) e)

pub returns : goal.returns
returns g c =
    let s = held g.A.Device g.B.Device g.C.Device g.D.Device c.args.self.now c.args.core.now in
    let l = c.in_ok-check_lent.ensures in
    let f = fits_by s l in
    let x = c.at_i-at.result in
    let at = c.at_i-at.ensures.is in
    let h = c.if-is_protected.ensures in
    let e = load_taken s f x at h in
    stopped loads _ _ _ refl l c.in_ok-check_stopped.ensures (ap (λ (d : Done). d.answer) e)
    (loaded s f x at c.stored.result c.advance.new.self (omega arith) h c.stored.ensures.value c.advance.ensures ∙ ap (λ (d : Done). d.machine) e)
