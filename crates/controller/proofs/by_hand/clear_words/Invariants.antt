use Rattle.std.proofs.Common.{◌≡◌, ◌++◌, map, take, drop}
use Rattle.controller.specs.Held.{wiped}
use Rattle.controller.proofs.by_hand.clear_words.Given as goal

-- core so far is cleared, and the rest as it was
abbrev pub invariant-loop-word : goal.invariant-loop-word
invariant-loop-word l = l.core ≡ map (wiped l.mode l.switches) (take l.word-index l.initial.core) ++ drop l.word-index l.initial.core
