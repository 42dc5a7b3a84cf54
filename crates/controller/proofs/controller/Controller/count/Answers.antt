use Rattle.std.proofs.Common.{Ok, ap, refl, rules}
use Rattle.works.specs.declared.panel.Counts.{Counts}
use Rattle.engine.specs.Machine.{with_processor, with_books}
use Rattle.engine.specs.Step.{with_totals}
use Rattle.controller.specs.Held.{billed, held}
use Rattle.controller.proofs.Entering.{wrong, right}
use Rattle.controller.proofs.controller.Controller.count.Goals as goal

pub returns-in_err-check_lent : goal.returns-in_err-check_lent
returns-in_err-check_lent g c = wrong billed c.from_residual.result _ c.from_residual.ensures.1 refl c.in_err-check_lent.ensures

pub returns : goal.returns
returns g c =
    let s = held g.A.Device g.B.Device g.C.Device g.D.Device c.args.self.now c.args.core.now in
    right _ _ _ c.in_ok-check_lent.ensures (ap (λ b. billed (Ok b)) c.bill-bill.ensures)
    (ap (λ (t : Counts). with_processor (with_books (with_totals t s.processor.books) s.processor) s) (search rules))
