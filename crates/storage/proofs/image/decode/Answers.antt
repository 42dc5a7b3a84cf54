use Rattle.std.proofs.Common.{◌≡◌, ◌*◌, true, length, arith, sym, length-drop, length-set, length-take}
use Rattle.std.proofs.lemmas.Grind.{common_steps}
use Rattle.storage.specs.Image.{fits, words_of}
use Rattle.storage.proofs.Records.{words_turn, bytes_words}
use Rattle.storage.proofs.image.decode.Goals as goal

pub loop-word-preserved : goal.loop-word-preserved
loop-word-preserved c =
    let core = c.loop-word.core in
    let rest = c.loop-word.rest.now in
    let i = c.loop-word.word-index in (
      simp (length-take, length-drop, length-set) (omega arith),
      words_turn core rest i c.word_from.result (omega arith) (omega arith) c.word_from.ensures _ c.loop-word.invariant.1,
    )

pub returns-clause-same_file : goal.returns-clause-same_file
returns-clause-same_file c _ =
    let core = c.loop-word.core in
    let image = c.args.image.now in
    let n : length image ≡ 3 * length core = grind (arith, common_steps) in
    let f : fits (length core) (length image) ≡ true = grind (arith, common_steps) in
    let w : core ≡ words_of image = grind (arith, common_steps) in
    (rw f, rw w (bytes_words image (length core) n (sym c.if-not-all_flags_fit.ensures) (λ k. omega (arith, c.type_inv.image k))))
