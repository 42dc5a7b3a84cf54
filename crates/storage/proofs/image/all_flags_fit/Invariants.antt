use Rattle.std.proofs.Common.{◌≡◌, length}
use Rattle.storage.specs.Image.{all_flags_fit}
use Rattle.storage.proofs.image.all_flags_fit.Given as goal

abbrev pub invariant-loop-rest : goal.invariant-loop-rest
invariant-loop-rest l = all_flags_fit l.rest ≡ all_flags_fit l.image

abbrev pub decreases-loop-rest : goal.decreases-loop-rest
decreases-loop-rest l = length l.rest
