-- The first word of an instruction, by its bits, which are numbered from the left, from 0.
--
--     0-4 operation code    5 F, the long form    6-7 T, the tag    8-15 displacement
--     8 indirect (long form)    9 branch out    10-15 conditions, or a shift count
--
-- In a shift bits 8 and 9 tell its kind; in STS bit 9 tells the form that writes a protect bit.
use Rattle.std.specs.Prelude.{ℕ, ◌+◌, ◌-◌, ◌/◌, ◌%◌, ◌^◌, Bool, true, false, if◌then◌else◌, Some, None, Option, Result, ok_or, ◌==◌, nat_lt}
use Rattle.instruction.specs.declared.words.Operation.{Operation}
use Rattle.instruction.specs.declared.words.Operation.TheVariants.{ExecuteIo, ShiftLeft, ShiftRight, LoadStatus, StoreStatus, Wait, BranchStore, BranchSkip, LoadIndex, StoreIndex, ModifyIndex, Add, AddDouble, Subtract, SubtractDouble, Multiply, Divide, Compare, CompareDouble, Load, LoadDouble, Store, StoreDouble, And, Or, ExclusiveOr}
use Rattle.instruction.specs.declared.words.Index.{Index}
use Rattle.instruction.specs.declared.words.Index.TheVariants.{One, Two, Three}
use Rattle.instruction.specs.declared.words.Conditions.{Conditions}
use Rattle.instruction.specs.declared.words.Fields.{Fields}
use Rattle.instruction.specs.declared.decoding.NotAnOperation.{NotAnOperation}

-- one bit, and the number that the bits from the first to the last make
abbrev pub bit : ℕ → ℕ → Bool
bit w k = w / 2 ^ (15 - k) % 2 == 1

abbrev pub bits : ℕ → ℕ → ℕ → ℕ
bits w first last = w / 2 ^ (15 - last) % 2 ^ (last - first + 1)

-- one-word forms only: with F on there is no such operation
abbrev pub short_only : Bool → Operation → Option Operation
short_only true o = None
short_only false o = Some o

-- the operation of a code and F; none is an operation check
abbrev pub by_code : ℕ → Bool → Option Operation
by_code n long =
    if n == 1 then Some ExecuteIo
    else if n == 2 then short_only long ShiftLeft
    else if n == 3 then short_only long ShiftRight
    else if n == 4 then short_only long LoadStatus
    else if n == 5 then Some StoreStatus
    else if n == 6 then short_only long Wait
    else if n == 8 then Some BranchStore
    else if n == 9 then Some BranchSkip
    else if n == 12 then Some LoadIndex
    else if n == 13 then Some StoreIndex
    else if n == 14 then Some ModifyIndex
    else if n == 16 then Some Add
    else if n == 17 then Some AddDouble
    else if n == 18 then Some Subtract
    else if n == 19 then Some SubtractDouble
    else if n == 20 then Some Multiply
    else if n == 21 then Some Divide
    else if n == 22 then Some Compare
    else if n == 23 then Some CompareDouble
    else if n == 24 then Some Load
    else if n == 25 then Some LoadDouble
    else if n == 26 then Some Store
    else if n == 27 then Some StoreDouble
    else if n == 28 then Some And
    else if n == 29 then Some Or
    else if n == 30 then Some ExclusiveOr
    else None

abbrev pub decoded : ℕ → Option Operation
decoded w = by_code (bits w 0 4) (bit w 5)

-- the same as an answer: a word that is no operation is the one error
abbrev pub as_operation : ℕ → Result Operation NotAnOperation
as_operation w = ok_or (decoded w) (record {})

-- the index register that a tag names, if it names one
abbrev pub index_of : ℕ → Option Index
index_of t = if t == 1 then Some One else if t == 2 then Some Two else if t == 3 then Some Three else None

-- eight bits as sixteen, with the sign in bit 8 carried to the left
abbrev pub extended : ℕ → ℕ
extended d = if nat_lt d 128 then d else d + 65280

abbrev pub conditions_of : ℕ → Conditions
conditions_of w = record {
  zero = bit w 10;
  minus = bit w 11;
  plus = bit w 12;
  even = bit w 13;
  carry_off = bit w 14;
  overflow_off = bit w 15;
}

abbrev pub fields_of : ℕ → Fields
fields_of w = record {
  long = bit w 5;
  tag = index_of (bits w 6 7);
  displacement = extended (bits w 8 15);
  indirect = bit w 8;
  branch_out = bit w 9;
  conditions = conditions_of w;
  count = bits w 10 15;
}
