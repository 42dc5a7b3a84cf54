use Rattle.std.proofs.Common.{◌≡◌, ◌≤◌, take}
use Rattle.storage.specs.Memory.{protected_count}
use Rattle.storage.proofs.memory.count_protected.Given as goal

abbrev pub invariant-loop-word : goal.invariant-loop-word
invariant-loop-word l = (l.count ≡ protected_count (take l.word-index l.core)) × (l.count ≤ l.word-index)
