-- What every plan keeps, put together.
use Rattle.promises.specs.Plans.{PlansKeep}
use Rattle.promises.proofs.Firm.{perform_firm}
use Rattle.promises.proofs.Billing.{perform_tallied, perform_fairly}
use Rattle.promises.proofs.Plans.{perform_kept}
use Rattle.promises.proofs.Sounding.{perform_sounds}

pub every_plan_keeps : PlansKeep
every_plan_keeps = record {
  at_no = λ m p s e. (perform_firm m p s).stands e;
  books = λ m p s. (perform_firm m p s).books;
  adds = λ m p s q. (perform_tallied m p s).adds q;
  fair = λ m p s. (perform_fairly m p s).fair;
  same = λ m p st s t h cl. (perform_kept m p st s t h cl).events;
  alike = λ m p st s t h cl. (perform_kept m p st s t h cl).alike;
  stained = λ m p st s h. (perform_sounds m p s).sound st h;
}
