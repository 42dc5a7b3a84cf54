use Rattle.std.proofs.Common.{◌≡◌, ◌+◌, ◌*◌, ◌++◌, length, take}
use Rattle.storage.specs.Image.{words_of}
use Rattle.storage.proofs.image.decode.Given as goal

-- what is left of the image, and that core so far is the words of the image so far
abbrev pub invariant-loop-word : goal.invariant-loop-word
invariant-loop-word l =
    (length l.rest + 3 * l.word-index ≡ 3 * length l.core) × (take l.word-index l.core ++ words_of l.rest ≡ words_of l.image)
