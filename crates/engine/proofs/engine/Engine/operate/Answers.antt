use Rattle.std.proofs.Common.{rules, ℕ, length, refl, sym, ap, ◌∙◌}
use Rattle.registers.specs.declared.state.Registers.{Registers}
use Rattle.registers.specs.Parts.{both, with_a, with_both}
use Rattle.registers.specs.Arithmetic.{signed, signed_both, comparison, added, subtracted, added_both, subtracted_both, compared, compared_both, multiplied, divided, anded, ored, xored}
use Rattle.engine.specs.declared.state.Books.{Books}
use Rattle.engine.specs.Machine.{words_of_size}
use Rattle.engine.specs.Plan.{done, perform}
use Rattle.engine.specs.Code.{view, makes}
use Rattle.engine.specs.Instructions.{by_comparison}
use Rattle.engine.proofs.engine.Engine.operate.Goals as goal

pub returns-in-ExecuteIo : goal.returns-in-ExecuteIo
returns-in-ExecuteIo g c = let goes = c.execute_io.ensures.goes c.args.word in search rules

pub returns-in-BranchStore : goal.returns-in-BranchStore
returns-in-BranchStore g c = let goes = c.branch_store.ensures.goes c.args.word in search rules

pub returns-in-BranchSkip : goal.returns-in-BranchSkip
returns-in-BranchSkip g c = let goes = c.branch_skip.ensures.goes c.args.word in search rules

pub returns-in-LoadIndex : goal.returns-in-LoadIndex
returns-in-LoadIndex g c = let goes = c.load_index.ensures.goes c.args.word in search rules

pub returns-in-StoreIndex : goal.returns-in-StoreIndex
returns-in-StoreIndex g c = let goes = c.store_index.ensures.goes c.args.word in search rules

pub returns-in-ModifyIndex : goal.returns-in-ModifyIndex
returns-in-ModifyIndex g c = let goes = c.modify_index.ensures.goes c.args.word in search rules

pub returns-in-Add-clause-goes : goal.returns-in-Add-clause-goes
returns-in-Add-clause-goes g c = let goes = c.with_operand.ensures.goes added (λ v. tt) (λ t. done) (λ v x y t b i e. (search rules, refl)) in search rules

pub returns-in-AddDouble-clause-goes : goal.returns-in-AddDouble-clause-goes
returns-in-AddDouble-clause-goes g c = let goes = c.with_operand-in-AddDouble.ensures.goes added_both (λ v. tt) (λ t. done) (λ v x y t b i e. (search rules, refl)) in search rules

pub returns-in-Subtract-clause-goes : goal.returns-in-Subtract-clause-goes
returns-in-Subtract-clause-goes g c = let goes = c.with_operand-in-Subtract.ensures.goes subtracted (λ v. tt) (λ t. done) (λ v x y t b i e. (search rules, refl)) in search rules

pub returns-in-SubtractDouble-clause-goes : goal.returns-in-SubtractDouble-clause-goes
returns-in-SubtractDouble-clause-goes g c = let goes = c.with_operand-in-SubtractDouble.ensures.goes subtracted_both (λ v. tt) (λ t. done) (λ v x y t b i e. (search rules, refl)) in search rules

pub returns-in-Multiply-clause-goes : goal.returns-in-Multiply-clause-goes
returns-in-Multiply-clause-goes g c = let goes = c.with_operand-in-Multiply.ensures.goes multiplied (λ v. tt) (λ t. done) (λ v x y t b i e. (search rules, refl)) in search rules

pub returns-in-Divide-clause-goes : goal.returns-in-Divide-clause-goes
returns-in-Divide-clause-goes g c = let goes = c.with_operand-in-Divide.ensures.goes divided (λ v. tt) (λ t. done) (λ v x y t b i e. (search rules, refl)) in search rules

pub returns-in-Compare-clause-goes : goal.returns-in-Compare-clause-goes
returns-in-Compare-clause-goes g c =
    let m = makes g.A.Device g.B.Device g.C.Device g.D.Device in
    let r = c.args.self.now.processor.works.registers in
    let x = c.with_operand-comparison in
    let s = view g.A.Device g.B.Device g.C.Device g.D.Device x.new.self x.new.core in
    let done_by = x.ensures.goes compared (λ v. comparison (signed r.a) (signed v)) (by_comparison (length c.args.core.now))
    (λ v x y t b i e. let k = ap (λ (z : Registers). z.a) i in (search rules, search rules)) in
    let skipped = ap (λ (n : ℕ). (perform m (by_comparison n x.result) s).machine)
    (c.requires.room.fits ∙ ap (λ (b : Books). words_of_size b.size) (sym x.ensures.within.books)) ∙ c.skip_by.ensures.goes x.new.core in
    let goes = done_by ∙ skipped in
    search rules

pub returns-in-CompareDouble-clause-goes : goal.returns-in-CompareDouble-clause-goes
returns-in-CompareDouble-clause-goes g c =
    let m = makes g.A.Device g.B.Device g.C.Device g.D.Device in
    let r = c.args.self.now.processor.works.registers in
    let x = c.with_operand-comparison-in-CompareDouble in
    let s = view g.A.Device g.B.Device g.C.Device g.D.Device x.new.self x.new.core in
    let done_by = x.ensures.goes compared_both (λ v. comparison (signed_both (both r)) (signed_both v)) (by_comparison (length c.args.core.now))
    (λ v x y t b i e. let k = ap (λ (z : Registers). both z) i in (search rules, search rules)) in
    let skipped = ap (λ (n : ℕ). (perform m (by_comparison n x.result) s).machine)
    (c.requires.room.fits ∙ ap (λ (b : Books). words_of_size b.size) (sym x.ensures.within.books)) ∙ c.skip_by-in-CompareDouble.ensures.goes x.new.core in
    let goes = done_by ∙ skipped in
    search rules

pub returns-in-Load-clause-goes : goal.returns-in-Load-clause-goes
returns-in-Load-clause-goes g c = let goes = c.with_operand-in-Load.ensures.goes with_a (λ v. tt) (λ t. done) (λ v x y t b i e. (search rules, refl)) in search rules

pub returns-in-LoadDouble-clause-goes : goal.returns-in-LoadDouble-clause-goes
returns-in-LoadDouble-clause-goes g c = let goes = c.with_operand-in-LoadDouble.ensures.goes with_both (λ v. tt) (λ t. done) (λ v x y t b i e. (search rules, refl)) in search rules

pub returns-in-Store : goal.returns-in-Store
returns-in-Store g c = let goes = c.store_word.ensures.goes c.args.word in search rules

pub returns-in-StoreDouble : goal.returns-in-StoreDouble
returns-in-StoreDouble g c = let goes = c.store_double.ensures.goes c.args.word in search rules

pub returns-in-And-clause-goes : goal.returns-in-And-clause-goes
returns-in-And-clause-goes g c = let goes = c.with_operand-in-And.ensures.goes anded (λ v. tt) (λ t. done) (λ v x y t b i e. (search rules, refl)) in search rules

pub returns-in-Or-clause-goes : goal.returns-in-Or-clause-goes
returns-in-Or-clause-goes g c = let goes = c.with_operand-in-Or.ensures.goes ored (λ v. tt) (λ t. done) (λ v x y t b i e. (search rules, refl)) in search rules

pub returns-in-ExclusiveOr-clause-goes : goal.returns-in-ExclusiveOr-clause-goes
returns-in-ExclusiveOr-clause-goes g c = let goes = c.with_operand-in-ExclusiveOr.ensures.goes xored (λ v. tt) (λ t. done) (λ v x y t b i e. (search rules, refl)) in search rules
