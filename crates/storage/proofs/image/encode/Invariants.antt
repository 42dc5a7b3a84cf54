use Rattle.std.proofs.Common.{◌≡◌, ◌*◌, length, take}
use Rattle.storage.specs.Image.{bytes_of}
use Rattle.storage.proofs.image.encode.Given as goal

abbrev pub invariant-loop-address : goal.invariant-loop-address
invariant-loop-address l = (take (3 * l.address) l.image ≡ bytes_of (take l.address l.core)) × (length l.image ≡ 3 * length l.core)
