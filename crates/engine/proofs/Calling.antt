-- A device is called, by what the call ensures.
use Rattle.std.proofs.Common.{◌≡◌, sym, ap, ◌∙◌}
use Rattle.engine.specs.declared.place.Position.{Position}
use Rattle.engine.specs.Machine.{Machine, Dev, dev_at, with_dev}
use Rattle.engine.specs.Events.{Call}
use Rattle.engine.specs.Makes.{Makes, make_at, control_after, words_after, made, calling}
use Rattle.engine.proofs.Records.{dev_path}

pub called_at : (m : Makes) (x p : Position) (c : Call) (s : Machine) (d : Dev) → x ≡ p → d.control ≡ control_after (make_at p m) c (dev_at p s).control
    → d.words ≡ words_after (make_at p m) c (dev_at p s).control (dev_at p s).words → with_dev p d s ≡ (calling m x c s).machine
unfolding calling
called_at m x p c s d e k w =
    ap (λ (z : Dev). with_dev p z s) (dev_path d (made (make_at p m) c (dev_at p s)) k w) ∙ ap (λ (y : Position). with_dev y (made (make_at y m) c (dev_at y s)) s) (sym e)
