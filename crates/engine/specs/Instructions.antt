-- The instructions: the plan of each operation, a clause to an operation. n is the core's size, r the registers as the
-- instruction found them, but for I, which in r has gone past the words read so far as it has in the works.
use Rattle.std.specs.Prelude.{ℕ, ◌+◌, ◌*◌, ◌/◌, ◌%◌, Bool, true, false, cond, ◌&&◌, Some, None, Option}
use Rattle.instruction.specs.declared.words.Operation.{Operation}
use Rattle.instruction.specs.declared.words.Operation.TheVariants.{ExecuteIo, ShiftLeft, ShiftRight, LoadStatus, StoreStatus, Wait, BranchStore, BranchSkip, LoadIndex, StoreIndex, ModifyIndex, Add, AddDouble, Subtract, SubtractDouble, Multiply, Divide, Compare, CompareDouble, Load, LoadDouble, Store, StoreDouble, And, Or, ExclusiveOr}
use Rattle.instruction.specs.declared.words.Index.{Index}
use Rattle.instruction.specs.declared.words.Fields.{Fields}
use Rattle.instruction.specs.Decoding.{bit, decoded, fields_of}
use Rattle.registers.specs.declared.state.Registers.{Registers}
use Rattle.std.specs.declared.cmp.Ordering.{Ordering}
use Rattle.std.specs.declared.cmp.Ordering.TheVariants.{Less, Equal, Greater}
use Rattle.registers.specs.Parts.{with_i, with_a, both, with_both, index, with_index}
use Rattle.registers.specs.Arithmetic.{signed, signed_both, added, subtracted, added_both, subtracted_both, comparison, compared, compared_both, multiplied, divided, anded, ored, xored}
use Rattle.registers.specs.Shifts.{shifted_left, shifted_right}
use Rattle.registers.specs.Branches.{holds, tested, modified, skips, i_modified, index_modified, status_loaded, status_word, status_stored}
use Rattle.levels.specs.Interrupts.{ended}
use Rattle.works.specs.declared.fault.Cause.TheVariants.{Operation as OperationCheck}
use Rattle.works.specs.declared.panel.RunState.TheVariants.{Waiting}
use Rattle.engine.specs.Machine.{with_registers, with_service, with_run}
use Rattle.engine.specs.Makes.{Makes}
use Rattle.engine.specs.Faults.{fault_of}
use Rattle.engine.specs.declared.place.By.TheVariants.{Program}
use Rattle.engine.specs.Plan.{Plan, done, act, look, read, store, mark, fault}
use Rattle.engine.specs.Xio.{xio}

-- a change of the registers; and I, which stays below the core's size
abbrev pub change : (Registers → Registers) → Plan → Plan
change f p = act (λ w. with_registers (f w.registers) w) p

abbrev pub i_set : ℕ → ℕ → Registers → Registers
i_set n v r = with_i (v % n) r

abbrev pub advanced : ℕ → ℕ → Registers → Registers
advanced n words r = i_set n (r.i + words) r

abbrev pub skip : ℕ → ℕ → Plan → Plan
skip n words p = change (advanced n words) p

-- The second word of a long form, called Address: I goes past it.
abbrev pub second : ℕ → Registers → (ℕ → Registers → Plan) → Plan
second n r k = read r.i (λ address. change (advanced n 1) (k address (advanced n 1 r)))

abbrev pub indirectly : Bool → ℕ → (ℕ → Plan) → Plan
indirectly true a k = read a k
indirectly false a k = k a

-- The effective address: in the short form the displacement plus I or the index register that the tag names; in the long form Address,
-- plus that register if there is one; with bit 8 on the word that stands there.
abbrev pub indexed : Option Index → ℕ → ℕ → Registers → ℕ
indexed None base offset r = (base + offset) % 65536
indexed (Some x) base offset r = (index x r + offset) % 65536

abbrev pub formed_of : Bool → ℕ → Option Index → Fields → Registers → (ℕ → Registers → Plan) → Plan
formed_of true n tag f r k = second n r (λ address r. indirectly f.indirect (indexed tag 0 address r) (λ ea. k ea r))
formed_of false n tag f r k = k (indexed tag r.i f.displacement r) r

abbrev pub formed : ℕ → Fields → Registers → (ℕ → Registers → Plan) → Plan
formed n f r k = formed_of f.long n f.tag f r k

-- An operand is the word at the effective address; a double operand's partner has bit 15 of that address set.
abbrev pub odd : ℕ → ℕ
odd a = a / 2 * 2 + 1

abbrev pub single : ℕ → Fields → Registers → (ℕ → Plan) → Plan
single n f r k = formed n f r (λ ea r. read ea k)

abbrev pub double : ℕ → Fields → Registers → (ℕ → Plan) → Plan
double n f r k = formed n f r (λ ea r. read ea (λ high. read (odd ea) (λ low. k (high * 65536 + low))))

-- A comparison goes on if greater, skips a word if less, two if the same.
abbrev pub by_comparison : ℕ → Ordering → Plan
by_comparison n Greater = done
by_comparison n Less = skip n 1 done
by_comparison n Equal = skip n 2 done

-- Where bit 9 is on and BSC does skip or branch, the highest in service is ended.
abbrev pub leave : Fields → Plan → Plan
leave f p = cond f.branch_out (act (λ w. with_service (ended w.service) w) p) p

-- BSI stores I, already past the instruction, and goes on behind it.
abbrev pub branch_store : ℕ → ℕ → Registers → Plan
branch_store n ea r = store ea r.i (change (i_set n (ea + 1)) done)

-- A long BSC or BSI branches where no condition that is named holds, and reads its indirect word only then.
abbrev pub branching : ℕ → Fields → Registers → (ℕ → Registers → Plan) → Plan
branching n f r k =
    second n r (λ address r. change (tested f.conditions)
    (cond (holds f.conditions r) done (indirectly f.indirect (indexed f.tag 0 address r) (λ ea. k ea r))))

-- LDX, STX and MDX: the tag names the register that they work on, and none names I.
abbrev pub named : Option Index → Registers → ℕ
named None r = r.i
named (Some x) r = index x r

abbrev pub loaded : ℕ → Option Index → ℕ → Registers → Registers
loaded n None v r = i_set n v r
loaded n (Some x) v r = with_index x v r

-- what a short form has in the displacement and a long form in Address, or in the word at Address
abbrev pub value_of : ℕ → Fields → Registers → (ℕ → Registers → Plan) → Plan
value_of n f r k = cond f.long (second n r (λ address r. indirectly f.indirect address (λ v. k v r))) (k f.displacement r)

abbrev pub skip_if : ℕ → Bool → Plan
skip_if n b = cond b (skip n 1 done) done

-- MDX: the register that a tag names; without a tag I, which never skips, or in the long form the word at Address, by the displacement
abbrev pub modify_memory : ℕ → Fields → ℕ → Plan
modify_memory n f a = read a (λ v. store a (modified v f.displacement) (skip_if n (skips v f.displacement)))

abbrev pub modify : ℕ → Option Index → Fields → Registers → Plan
modify n (Some x) f r = value_of n f r (λ by r. change (index_modified x by) (skip_if n (skips (index x r) by)))
modify n None f r =
    cond f.long (second n r (λ address r. modify_memory n f address)) (change (λ r. i_set n (i_modified f.displacement r).i r) done)

-- STS. In its protect form (long, bit 9 on) it gives the word that it names the instruction's last bit as protect bit, or with the write-protect
-- switch at No does nothing to it. What it stores follows from the word that it read.
abbrev pub store_status : ℕ → Fields → Registers → Plan
store_status n f r = formed n f r (λ ea r. read ea (λ v. store ea (status_word v r) (change status_stored done)))

abbrev pub protect : ℕ → Bool → Fields → Registers → Plan
protect n on f r = formed n f r (λ ea r. look (λ s. cond s.switches.write_protect (read ea (λ v. mark ea on v done)) done))

-- each operation, by its first word w
abbrev pub operation : Makes → ℕ → Operation → Fields → ℕ → Registers → Plan
operation m n ExecuteIo f w r = formed n f r (λ ea r. read ea (λ address. read (odd ea) (λ control. xio m n (ea % n) address control)))
operation m n ShiftLeft f w r = change (shifted_left f) done
operation m n ShiftRight f w r = change (shifted_right f) done
operation m n LoadStatus f w r = change (status_loaded w) done
operation m n StoreStatus f w r = cond (f.long && f.branch_out) (protect n (bit w 15) f r) (store_status n f r)
operation m n Wait f w r = act (with_run Waiting) done
operation m n BranchStore f w r =
    cond f.long (branching n f r (λ ea r. branch_store n ea r)) (formed n f r (λ ea r. branch_store n ea r))
operation m n BranchSkip f w r =
    cond f.long (branching n f r (λ ea r. leave f (change (i_set n ea) done)))
    (change (tested f.conditions) (cond (holds f.conditions r) (leave f (skip n 1 done)) done))
operation m n LoadIndex f w r = value_of n f r (λ v r. change (loaded n f.tag v) done)
operation m n StoreIndex f w r = formed_of f.long n None f r (λ ea r. store ea (named f.tag r) done)
operation m n ModifyIndex f w r = modify n f.tag f r
operation m n Add f w r = single n f r (λ v. change (added v) done)
operation m n AddDouble f w r = double n f r (λ v. change (added_both v) done)
operation m n Subtract f w r = single n f r (λ v. change (subtracted v) done)
operation m n SubtractDouble f w r = double n f r (λ v. change (subtracted_both v) done)
operation m n Multiply f w r = single n f r (λ v. change (multiplied v) done)
operation m n Divide f w r = single n f r (λ v. change (divided v) done)
operation m n Compare f w r = single n f r (λ v. change (compared v) (by_comparison n (comparison (signed r.a) (signed v))))
operation m n CompareDouble f w r =
    double n f r (λ v. change (compared_both v) (by_comparison n (comparison (signed_both (both r)) (signed_both v))))
operation m n Load f w r = single n f r (λ v. change (with_a v) done)
operation m n LoadDouble f w r = double n f r (λ v. change (with_both v) done)
operation m n Store f w r = formed n f r (λ ea r. store ea r.a done)
operation m n StoreDouble f w r = formed n f r (λ ea r. store (odd ea) r.q (store ea r.a done))
operation m n And f w r = single n f r (λ v. change (anded v) done)
operation m n Or f w r = single n f r (λ v. change (ored v) done)
operation m n ExclusiveOr f w r = single n f r (λ v. change (xored v) done)

-- A word that is no operation is an operation check, at its own address: one fetch, I past it, no more.
abbrev pub executed : Makes → ℕ → ℕ → Option Operation → ℕ → Registers → Plan
executed m n at None w r = fault (fault_of Program OperationCheck at) done
executed m n at (Some o) w r = operation m n o (fields_of w) w r

unfoldable pub instruction : Makes → ℕ → Registers → Plan
instruction m n r = read r.i (λ w. change (advanced n 1) (executed m n (r.i % n) (decoded w) w (advanced n 1 r)))
