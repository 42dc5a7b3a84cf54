-- The number that a host or an operator is told for each refusal. This is the one place where they are fixed.
use Rattle.std.specs.Prelude.{ℕ, List, ◌++◌, codes, decimal}
use Rattle.refusal.specs.declared.Refusal.{Refusal}
use Rattle.refusal.specs.declared.Refusal.TheVariants.{Length, Wiring, Area, Gap, NotStopped, Protected, CycleLimit, ImageByte}

abbrev pub number : Refusal → ℕ
number Length = 1
number Wiring = 2
number Area = 3
number Gap = 4
number NotStopped = 5
number Protected = 6
number CycleLimit = 7
number ImageByte = 8

-- what a program prints of it
abbrev pub text : Refusal → List ℕ
text r = codes "refused " ++ decimal (number r)
