-- A reference to core, from what the code did.
use Rattle.std.proofs.Common.{◌≡◌, ℕ, ◌%◌, ◌<◌, Bool, true, false, List, length, get_or, set, sym, ap, ◌∙◌, arith}
use Rattle.storage.specs.Word.{data_of, is_protected, parity_right, word_of, stored}
use Rattle.engine.specs.declared.place.By.{By}
use Rattle.engine.specs.declared.state.Processor.{Processor}
use Rattle.engine.specs.Machine.{with_core, with_processor, words_of_size}
use Rattle.engine.specs.Faults.{fault_of, parity_cause, protect_cause, faulted, raise}
use Rattle.engine.specs.Cycle.{reading, storing, marking, parity_checked, checked_store, marked, refer}
use Rattle.engine.specs.Code.{Fits, Refers, Keeps}

-- an address by the core's length is one by its size
pub same_place : (p : Processor) (u : List ℕ) (a x : ℕ) → Fits p u → x ≡ a % words_of_size p.books.size → x ≡ a % length u
same_place p u a x f e = e ∙ ap (λ (n : ℕ). a % n) (sym f)

-- reading
pub read_right : (by : By) (a x : ℕ) (p : Processor) (u : List ℕ) → x ≡ a % length u → parity_right (get_or u x 0) ≡ true → Refers by (reading a) p u p u
unfolding refer
read_right by a x p u e k o = ap (λ (b : Bool). parity_checked b by (a % length u) (with_core u (with_processor p o))) (ap (λ (y : ℕ). parity_right (get_or u y 0)) (sym e) ∙ k)

pub read_wrong : (by : By) (a x : ℕ) (p q : Processor) (u : List ℕ) → x ≡ a % length u → parity_right (get_or u x 0) ≡ false
    → q ≡ faulted (fault_of by (parity_cause by) x) p → Refers by (reading a) p u q u
unfolding refer raise
read_wrong by a x p q u e k h o =
    ap (λ (b : Bool). parity_checked b by (a % length u) (with_core u (with_processor p o))) (ap (λ (y : ℕ). parity_right (get_or u y 0)) (sym e) ∙ k)
    ∙ ap (λ (y : ℕ). with_core u (with_processor (faulted (fault_of by (parity_cause by) y) p) o)) (sym e)
    ∙ ap (λ (z : Processor). with_core u (with_processor z o)) (sym h)

-- storing
pub store_kept : (by : By) (a x w v : ℕ) (p : Processor) (u : List ℕ) → x ≡ a % length u → w < 65536 → is_protected (get_or u x 0) ≡ false
    → v ≡ stored (get_or u x 0) w → Refers by (storing a w) p u p (set u x v)
unfolding refer
store_kept by a x w v p u e lt k h o =
    ap (λ (b : Bool). (checked_store b by (a % length u) w (Rattle.engine.specs.Events.stored_at (a % length u)) (with_core u (with_processor p o))).machine) (ap (λ (y : ℕ). is_protected (get_or u y 0)) (sym e) ∙ k)
    ∙ ap (λ (y : ℕ). with_core (set u y (stored (get_or u y 0) (data_of w))) (with_processor p o)) (sym e)
    ∙ ap (λ (y : ℕ). with_core (set u x (stored (get_or u x 0) y)) (with_processor p o)) small
    ∙ ap (λ (y : ℕ). with_core (set u x y) (with_processor p o)) (sym h)
  where
    small : data_of w ≡ w
    small = omega arith

pub store_dropped : (by : By) (a x w : ℕ) (p q : Processor) (u : List ℕ) → x ≡ a % length u → is_protected (get_or u x 0) ≡ true
    → q ≡ faulted (fault_of by (protect_cause by) x) p → Refers by (storing a w) p u q u
unfolding refer raise
store_dropped by a x w p q u e k h o =
    ap (λ (b : Bool). (checked_store b by (a % length u) w (Rattle.engine.specs.Events.stored_at (a % length u)) (with_core u (with_processor p o))).machine) (ap (λ (y : ℕ). is_protected (get_or u y 0)) (sym e) ∙ k)
    ∙ ap (λ (y : ℕ). with_core u (with_processor (faulted (fault_of by (protect_cause by) y) p) o)) (sym e)
    ∙ ap (λ (z : Processor). with_core u (with_processor z o)) (sym h)

-- marking
pub mark_on : (by : By) (a x : ℕ) (on : Bool) (w v : ℕ) (p : Processor) (u : List ℕ) → x ≡ a % length u → w < 65536 → p.books.switches.write_protect ≡ true
    → v ≡ word_of w on → Refers by (marking a on w) p u p (set u x v)
unfolding refer
mark_on by a x on w v p u e lt k h o =
    ap (λ (b : Bool). (marked b (a % length u) on w (with_core u (with_processor p o))).machine) k
    ∙ ap (λ (y : ℕ). with_core (set u y (word_of (data_of w) on)) (with_processor p o)) (sym e)
    ∙ ap (λ (y : ℕ). with_core (set u x (word_of y on)) (with_processor p o)) small
    ∙ ap (λ (y : ℕ). with_core (set u x y) (with_processor p o)) (sym h)
  where
    small : data_of w ≡ w
    small = omega arith

pub mark_off : (by : By) (a : ℕ) (on : Bool) (w : ℕ) (p : Processor) (u : List ℕ) → p.books.switches.write_protect ≡ false → Refers by (marking a on w) p u p u
unfolding refer
mark_off by a on w p u k o = ap (λ (b : Bool). (marked b (a % length u) on w (with_core u (with_processor p o))).machine) k

-- what is kept, by what comes after
pub same_size : {n : ℕ} (p q : Processor) (u : List ℕ) → Fits p u → Keeps n p q → words_of_size q.books.size ≡ length u
same_size p q u f k = ap (λ b. words_of_size b.size) k.within.books ∙ sym f
