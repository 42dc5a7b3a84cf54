use Rattle.std.proofs.Common.{rules, arith}
use Rattle.storage.proofs.Parity.{sound_as, only_word}
use Rattle.storage.proofs.word.word_of.Goals as goal

pub returns-clause-sound : goal.returns-clause-sound
returns-clause-sound c = sound_as _ _ _ (omega arith) (search rules)

pub returns-clause-only : goal.returns-clause-only
returns-clause-only c = only_word
