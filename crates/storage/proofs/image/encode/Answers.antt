use Rattle.std.proofs.Common.{◌≡◌, true, length, arith, length-set}
use Rattle.std.proofs.lemmas.Grind.{common_steps}
use Rattle.storage.specs.Image.{bytes_of, fits}
use Rattle.storage.proofs.Records.{image_turn, same_words}
use Rattle.storage.proofs.image.encode.Goals as goal

pub loop-address-preserved : goal.loop-address-preserved
loop-address-preserved c = (
  image_turn c.loop-address.image c.args.core.now c.loop-address.address (omega arith) c.loop-address.invariant.1 c.loop-address.invariant.0 c.record_from.result c.record_from.ensures,
  simp length-set c.loop-address.invariant.1,
)

pub returns-clause-same_words : goal.returns-clause-same_words
returns-clause-same_words c =
    let core = c.args.core.now in
    let image = c.loop-address.image in
    let f : fits (length core) (length image) ≡ true = grind (arith, common_steps) in
    let e : image ≡ bytes_of core = grind (arith, common_steps) in
    same_words core image _ f e
