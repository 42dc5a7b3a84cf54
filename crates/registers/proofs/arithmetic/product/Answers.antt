use Rattle.std.proofs.Common.{arith, FitsSigned, w32, ◌*ℤ◌}
use Rattle.std.proofs.lemmas.Int.{ints, to_z-of_z, fits_signed_mul}
use Rattle.registers.specs.Arithmetic.{signed}
use Rattle.registers.proofs.arithmetic.product.Goals as goal

pub returns : goal.returns
returns c =
    let x = signed c.args.a in
    let y = signed c.args.b in
    let f : FitsSigned w32 (x *ℤ y) = fits_signed_mul w32 x y 32768 32768 (grind (arith, ints)) (grind (arith, ints)) (omega arith) in
    grind (arith, to_z-of_z)
