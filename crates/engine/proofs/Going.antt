-- How a plan goes on, from what the code did.
use Rattle.std.proofs.Common.{◌≡◌, ℕ, ◌+◌, ◌*◌, ◌%◌, Bool, true, false, cond, List, length, Option, sym, refl, ap, ◌∙◌, ap₂}
use Rattle.instruction.specs.declared.words.Index.{Index}
use Rattle.instruction.specs.declared.words.Fields.{Fields}
use Rattle.levels.specs.declared.state.Service.{Service}
use Rattle.levels.specs.Interrupts.{ended}
use Rattle.registers.specs.declared.state.Registers.{Registers}
use Rattle.registers.specs.Parts.{with_i}
use Rattle.registers.specs.Branches.{holds, tested, modified, skips, status_word, status_stored}
use Rattle.engine.specs.declared.state.Processor.{Processor}
use Rattle.engine.specs.declared.state.Books.{Books}
use Rattle.engine.specs.Machine.{Machine, with_processor, with_registers, with_service, work, words_of_size}
use Rattle.engine.specs.Makes.{Makes}
use Rattle.engine.specs.Plan.{Plan, done, act, look, read, store, mark, perform}
use Rattle.engine.specs.Instructions.{change, i_set, advanced, skip_if, leave, branching, branch_store, modify_memory, store_status, protect, second, indirectly, indexed, formed_of, formed, value_of, odd, double}
use Rattle.engine.specs.Xio.{xio}
use Rattle.engine.specs.Code.{Fits, moved}

-- a change by the size that the code has is one by the core's length
pub by_length : {X : Type 0} (g : ℕ → X) (t : X) (p q : Processor) (u : List ℕ) → Fits p u → q.books ≡ p.books
    → t ≡ g (words_of_size q.books.size) → t ≡ g (length u)
by_length g t p q u f b e = e ∙ ap (λ (x : Books). g (words_of_size x.size)) b ∙ ap g (sym f)

module _ (m : Makes) where
  -- what is left of a plan, from one machine to the next
  abbrev pub To : Plan → Machine → Plan → Machine → Type 0
  To p s q t = (perform m p s).machine ≡ (perform m q t).machine

  -- the code changed the registers as the plan says
  pub changed : (f : Registers → Registers) (p : Plan) (s : Machine) (r : Registers) → r ≡ f s.processor.works.registers
      → To (change f p) s p (work (with_registers r) s)
  changed f p s r e = ap (λ (x : Registers). (perform m p (work (with_registers x) s)).machine) (sym e)

  pub second_goes : (n : ℕ) (r : Registers) (q : Processor) (w : ℕ) (s₀ s : Machine) → ((k : ℕ → Plan) → To (read r.i k) s₀ (k w) s)
      → s.processor.works.registers ≡ r → q ≡ moved (advanced n 1) s.processor
      → (k : ℕ → Registers → Plan) → To (second n r k) s₀ (k w q.works.registers) (with_processor q s)
  second_goes n r q w s₀ s g e h k =
      g (λ (a : ℕ). change (advanced n 1) (k a (advanced n 1 r)))
      ∙ ap (λ (y : Registers). (perform m (change (advanced n 1) (k w (advanced n 1 y))) s).machine) (sym e)
      ∙ ap (λ (x : Processor). (perform m (k w x.works.registers) (with_processor x s)).machine) (sym h)

  pub formed_long : (n : ℕ) (tag : Option Index) (f : Fields) (r t z : Registers) (s₀ s₁ s₂ : Machine) (w d v : ℕ) → f.long ≡ true
      → ((k : ℕ → Registers → Plan) → To (second n r k) s₀ (k w t) s₁) → d ≡ indexed tag 0 w t
      → ((k : ℕ → Plan) → To (indirectly f.indirect d k) s₁ (k v) s₂) → z ≡ t
      → (k : ℕ → Registers → Plan) → To (formed_of f.long n tag f r k) s₀ (k v z) s₂
  formed_long n tag f r t z s₀ s₁ s₂ w d v l g h i e k =
      ap (λ (b : Bool). (perform m (formed_of b n tag f r k) s₀).machine) l
      ∙ g (λ (a : ℕ) (x : Registers). indirectly f.indirect (indexed tag 0 a x) (λ (ea : ℕ). k ea x))
      ∙ ap (λ (a : ℕ). (perform m (indirectly f.indirect a (λ (ea : ℕ). k ea t)) s₁).machine) (sym h)
      ∙ i (λ (ea : ℕ). k ea t)
      ∙ ap (λ (x : Registers). (perform m (k v x) s₂).machine) (sym e)

  pub value_long : (n : ℕ) (f : Fields) (r t z : Registers) (s₀ s₁ s₂ : Machine) (w v : ℕ) → f.long ≡ true
      → ((k : ℕ → Registers → Plan) → To (second n r k) s₀ (k w t) s₁)
      → ((k : ℕ → Plan) → To (indirectly f.indirect w k) s₁ (k v) s₂) → z ≡ t
      → (k : ℕ → Registers → Plan) → To (value_of n f r k) s₀ (k v z) s₂
  value_long n f r t z s₀ s₁ s₂ w v l g i e k =
      ap (λ (b : Bool). (perform m (cond b (second n r (λ (a : ℕ) (x : Registers). indirectly f.indirect a (λ (v : ℕ). k v x))) (k f.displacement r)) s₀).machine) l
      ∙ g (λ (a : ℕ) (x : Registers). indirectly f.indirect a (λ (v : ℕ). k v x))
      ∙ i (λ (v : ℕ). k v t)
      ∙ ap (λ (x : Registers). (perform m (k v x) s₂).machine) (sym e)

  pub double_goes : (n : ℕ) (f : Fields) (r t : Registers) (s₀ s₁ s₂ s₃ : Machine) (a b high low v : ℕ)
      → ((k : ℕ → Registers → Plan) → To (formed_of f.long n f.tag f r k) s₀ (k a t) s₁)
      → ((k : ℕ → Plan) → To (read a k) s₁ (k high) s₂) → b ≡ odd a
      → ((k : ℕ → Plan) → To (read b k) s₂ (k low) s₃) → v ≡ high * 65536 + low
      → (k : ℕ → Plan) → To (double n f r k) s₀ (k v) s₃
  double_goes n f r t s₀ s₁ s₂ s₃ a b high low v g h o i e k =
      g (λ (ea : ℕ) (x : Registers). read ea (λ (high : ℕ). read (odd ea) (λ (low : ℕ). k (high * 65536 + low))))
      ∙ h (λ (high : ℕ). read (odd a) (λ (low : ℕ). k (high * 65536 + low)))
      ∙ ap (λ (x : ℕ). (perform m (read x (λ (low : ℕ). k (high * 65536 + low))) s₂).machine) (sym o)
      ∙ i (λ (low : ℕ). k (high * 65536 + low))
      ∙ ap (λ (x : ℕ). (perform m (k x) s₃).machine) (sym e)

  pub skip_goes : (n : ℕ) (b d : Bool) (s : Machine) (q : Processor) → d ≡ b
      → q ≡ cond d (moved (advanced n 1) s.processor) s.processor
      → To (skip_if n b) s done (with_processor q s)
  skip_goes n b d s q e h =
      ap (λ (x : Bool). (perform m (skip_if n x) s).machine) (sym e) ∙ by_cases d ∙ ap (λ (x : Processor). with_processor x s) (sym h)
    where
      by_cases : (d : Bool) → To (skip_if n d) s done (with_processor (cond d (moved (advanced n 1) s.processor) s.processor) s)
      by_cases true = refl
      by_cases false = refl

  -- MDX of a word of core
  pub memory_goes : (n : ℕ) (f : Fields) (r z : Registers) (a v w : ℕ) (d : Bool) (s₀ s₁ s₂ s₃ : Machine) (q : Processor)
      → ((k : ℕ → Registers → Plan) → To (second n r k) s₀ (k a z) s₁)
      → ((k : ℕ → Plan) → To (read a k) s₁ (k v) s₂) → w ≡ modified v f.displacement → d ≡ skips v f.displacement
      → ((p : Plan) → To (store a w p) s₂ p s₃)
      → q ≡ cond d (moved (advanced n 1) s₃.processor) s₃.processor
      → To (second n r (λ address r. modify_memory n f address)) s₀ done (with_processor q s₃)
  memory_goes n f r z a v w d s₀ s₁ s₂ s₃ q first g e h i j =
      first (λ (address : ℕ) (r : Registers). modify_memory n f address)
      ∙ g (λ (v : ℕ). store a (modified v f.displacement) (skip_if n (skips v f.displacement)))
      ∙ ap (λ (x : ℕ). (perform m (store a x (skip_if n (skips v f.displacement))) s₂).machine) (sym e)
      ∙ i (skip_if n (skips v f.displacement))
      ∙ skip_goes n (skips v f.displacement) d s₃ q h j

  -- STS
  pub status_goes : (n : ℕ) (f : Fields) (r t : Registers) (a v w : ℕ) (s₀ s₁ s₂ s₃ : Machine)
      → ((k : ℕ → Registers → Plan) → To (formed_of f.long n f.tag f r k) s₀ (k a s₁.processor.works.registers) s₁)
      → ((k : ℕ → Plan) → To (read a k) s₁ (k v) s₂)
      → s₂.processor.works.registers ≡ s₁.processor.works.registers → w ≡ status_word v s₂.processor.works.registers
      → ((p : Plan) → To (store a w p) s₂ p s₃)
      → s₃.processor.works.registers ≡ s₂.processor.works.registers → t ≡ status_stored s₂.processor.works.registers
      → To (store_status n f r) s₀ done (work (with_registers t) s₃)
  status_goes n f r t a v w s₀ s₁ s₂ s₃ g h same e i kept last =
      g (λ (ea : ℕ) (x : Registers). read ea (λ (v : ℕ). store ea (status_word v x) (change status_stored done)))
      ∙ h (λ (v : ℕ). store a (status_word v s₁.processor.works.registers) (change status_stored done))
      ∙ ap (λ (x : Registers). (perform m (store a (status_word v x) (change status_stored done)) s₂).machine) (sym same)
      ∙ ap (λ (x : ℕ). (perform m (store a x (change status_stored done)) s₂).machine) (sym e)
      ∙ i (change status_stored done)
      ∙ changed status_stored done s₃ t (last ∙ ap status_stored (sym kept))

  pub protect_goes : (n : ℕ) (on : Bool) (f : Fields) (r t : Registers) (a v : ℕ) (s₀ s₁ s₂ s₃ : Machine)
      → ((k : ℕ → Registers → Plan) → To (formed_of f.long n f.tag f r k) s₀ (k a t) s₁)
      → s₁.processor.books.switches.write_protect ≡ true
      → ((k : ℕ → Plan) → To (read a k) s₁ (k v) s₂) → ((p : Plan) → To (mark a on v p) s₂ p s₃)
      → To (protect n on f r) s₀ done s₃
  protect_goes n on f r t a v s₀ s₁ s₂ s₃ g e h i =
      g (λ (ea : ℕ) (x : Registers). look (λ s. cond s.switches.write_protect (read ea (λ (v : ℕ). mark ea on v done)) done))
      ∙ ap (λ (b : Bool). (perform m (cond b (read a (λ (v : ℕ). mark a on v done)) done) s₁).machine) e
      ∙ h (λ (v : ℕ). mark a on v done)
      ∙ i done

  -- a long BSC or BSI: what is behind its second word
  abbrev pub behind : Fields → (ℕ → Registers → Plan) → ℕ → Registers → Plan
  behind f k a r = change (tested f.conditions)
      (cond (holds f.conditions r) done (indirectly f.indirect (indexed f.tag 0 a r) (λ (ea : ℕ). k ea r)))

  pub branch_stays : (n : ℕ) (f : Fields) (r t z : Registers) (w : ℕ) (s₀ s₁ : Machine)
      → ((k : ℕ → Registers → Plan) → To (second n r k) s₀ (k w t) s₁)
      → z ≡ tested f.conditions s₁.processor.works.registers → holds f.conditions t ≡ true
      → (k : ℕ → Registers → Plan) → To (branching n f r k) s₀ done (work (with_registers z) s₁)
  branch_stays n f r t z w s₀ s₁ g e h k =
      g (λ (a : ℕ) (x : Registers). behind f k a x)
      ∙ changed (tested f.conditions) (cond (holds f.conditions t) done (indirectly f.indirect (indexed f.tag 0 w t) (λ (ea : ℕ). k ea t))) s₁ z e
      ∙ ap (λ (b : Bool). (perform m (cond b done (indirectly f.indirect (indexed f.tag 0 w t) (λ (ea : ℕ). k ea t))) (work (with_registers z) s₁)).machine) h

  pub branch_taken : (n : ℕ) (f : Fields) (r t z : Registers) (w d v : ℕ) (s₀ s₁ s₂ : Machine)
      → ((k : ℕ → Registers → Plan) → To (second n r k) s₀ (k w t) s₁)
      → z ≡ tested f.conditions s₁.processor.works.registers → holds f.conditions t ≡ false
      → d ≡ indexed f.tag 0 w t → ((k : ℕ → Plan) → To (indirectly f.indirect d k) (work (with_registers z) s₁) (k v) s₂)
      → t ≡ advanced n 1 r
      → (k : ℕ → Registers → Plan) (a : ℕ) → v ≡ a → To (branching n f r k) s₀ (k a (advanced n 1 r)) s₂
  branch_taken n f r t z w d v s₀ s₁ s₂ g e h i j l k a q =
      g (λ (a : ℕ) (x : Registers). behind f k a x)
      ∙ changed (tested f.conditions) (cond (holds f.conditions t) done (indirectly f.indirect (indexed f.tag 0 w t) (λ (ea : ℕ). k ea t))) s₁ z e
      ∙ ap (λ (b : Bool). (perform m (cond b done (indirectly f.indirect (indexed f.tag 0 w t) (λ (ea : ℕ). k ea t))) (work (with_registers z) s₁)).machine) h
      ∙ ap (λ (x : ℕ). (perform m (indirectly f.indirect x (λ (ea : ℕ). k ea t)) (work (with_registers z) s₁)).machine) (sym i)
      ∙ j (λ (ea : ℕ). k ea t)
      ∙ ap (λ (x : Registers). (perform m (k v x) s₂).machine) l
      ∙ ap (λ (x : ℕ). (perform m (k x (advanced n 1 r)) s₂).machine) q

  -- the form that the instruction has
  pub as_long : (b : Bool) (p q : Plan) (s t : Machine) → b ≡ true → To p s done t → To (cond b p q) s done t
  as_long b p q s t e g = ap (λ (x : Bool). (perform m (cond x p q) s).machine) e ∙ g

  -- BSI, behind what formed its address
  pub linked_goes : (n a v : ℕ) (r : Registers) (s t : Machine) → ((p : Plan) → To (store a r.i p) s p t) → v ≡ (a + 1) % n
      → To (branch_store n a r) s done (work (with_registers (with_i v t.processor.works.registers)) t)
  linked_goes n a v r s t g e =
      g (change (i_set n (a + 1)) done) ∙ ap (λ (x : ℕ). work (with_registers (with_i x t.processor.works.registers)) t) (sym e)

  -- the same by the caller's numbers: the code's n is the length of the core then, and its I the one that the plan has
  pub link_goes : (n l : ℕ) (r z : Registers) (a : ℕ) (s t : Machine) → z.i ≡ r.i → l ≡ n → To (branch_store l a z) s done t
      → To (branch_store n a r) s done t
  link_goes n l r z a s t h same g =
      ap (λ (x : ℕ). (perform m (store a x (change (i_set n (a + 1)) done)) s).machine) (sym h)
      ∙ ap (λ (x : ℕ). (perform m (branch_store x a z) s).machine) (sym same)
      ∙ g

  pub link_long : (n l : ℕ) (f : Fields) (r z : Registers) (a : ℕ) (s₀ s₁ s₂ : Machine) → f.long ≡ true
      → ((k : ℕ → Registers → Plan) → To (branching n f r k) s₀ (k a (advanced n 1 r)) s₁)
      → z.i ≡ (advanced n 1 r).i → l ≡ n → To (branch_store l a z) s₁ done s₂
      → To (cond f.long (branching n f r (λ ea r. branch_store n ea r)) (formed n f r (λ ea r. branch_store n ea r))) s₀ done s₂
  link_long n l f r z a s₀ s₁ s₂ e g h same i =
      as_long f.long (branching n f r (λ ea r. branch_store n ea r)) (formed n f r (λ ea r. branch_store n ea r)) s₀ s₂ e
      (g (λ (ea : ℕ) (r : Registers). branch_store n ea r) ∙ link_goes n l (advanced n 1 r) z a s₁ s₂ h same i)

  pub leave_goes : (f : Fields) (p : Plan) (s : Machine) (v : Service)
      → v ≡ cond f.branch_out (ended s.processor.works.service) s.processor.works.service
      → To (leave f p) s p (work (with_service v) s)
  leave_goes f p s v e = by_cases f.branch_out e
    where
      by_cases : (b : Bool) → v ≡ cond b (ended s.processor.works.service) s.processor.works.service
          → To (cond b (act (λ w. with_service (ended w.service) w) p) p) s p (work (with_service v) s)
      by_cases true e = ap (λ (x : Service). (perform m p (work (with_service x) s)).machine) (sym e)
      by_cases false e = ap (λ (x : Service). (perform m p (work (with_service x) s)).machine) (sym e)

  pub branch_goes : (n : ℕ) (f : Fields) (r t : Registers) (a : ℕ) (q : Plan) (v : Service) (s₀ s₁ : Machine) → f.long ≡ true
      → ((k : ℕ → Registers → Plan) → To (branching n f r k) s₀ (k a (advanced n 1 r)) s₁)
      → v ≡ cond f.branch_out (ended s₁.processor.works.service) s₁.processor.works.service
      → t ≡ i_set n a s₁.processor.works.registers
      → To (cond f.long (branching n f r (λ ea r. leave f (change (i_set n ea) done))) q) s₀ done (work (with_registers t) (work (with_service v) s₁))
  branch_goes n f r t a q v s₀ s₁ e g h i =
      as_long f.long (branching n f r (λ ea r. leave f (change (i_set n ea) done))) q s₀ (work (with_registers t) (work (with_service v) s₁)) e
      (g (λ (ea : ℕ) (r : Registers). leave f (change (i_set n ea) done))
      ∙ leave_goes f (change (i_set n a) done) s₁ v h
      ∙ changed (i_set n a) done (work (with_service v) s₁) t i)

  -- STX, STO and STD
  pub stored_goes : (n : ℕ) (tag : Option Index) (f : Fields) (h : Registers → ℕ) (r z : Registers) (a v : ℕ) (s₀ s₁ s₂ : Machine)
      → ((k : ℕ → Registers → Plan) → To (formed_of f.long n tag f r k) s₀ (k a z) s₁) → v ≡ h z
      → ((p : Plan) → To (store a v p) s₁ p s₂)
      → To (formed_of f.long n tag f r (λ ea r. store ea (h r) done)) s₀ done s₂
  stored_goes n tag f h r z a v s₀ s₁ s₂ g e i =
      g (λ (ea : ℕ) (r : Registers). store ea (h r) done)
      ∙ ap (λ (x : ℕ). (perform m (store a x done) s₁).machine) (sym e)
      ∙ i done

  pub stored_both_goes : (n : ℕ) (f : Fields) (r z y : Registers) (a b : ℕ) (s₀ s₁ s₂ s₃ : Machine)
      → ((k : ℕ → Registers → Plan) → To (formed n f r k) s₀ (k a z) s₁) → b ≡ odd a
      → ((p : Plan) → To (store b z.q p) s₁ p s₂) → y ≡ z → ((p : Plan) → To (store a y.a p) s₂ p s₃)
      → To (formed n f r (λ ea r. store (odd ea) r.q (store ea r.a done))) s₀ done s₃
  stored_both_goes n f r z y a b s₀ s₁ s₂ s₃ g o h e i =
      g (λ (ea : ℕ) (r : Registers). store (odd ea) r.q (store ea r.a done))
      ∙ ap (λ (x : ℕ). (perform m (store x z.q (store a z.a done)) s₁).machine) (sym o)
      ∙ h (store a z.a done)
      ∙ ap (λ (x : Registers). (perform m (store a x.a done) s₂).machine) (sym e)
      ∙ i done

  -- XIO reads its pair as a double operand
  pub xio_goes : (n k : ℕ) (f : Fields) (r t : Registers) (s₀ s₁ s₂ s₃ s₄ : Machine) (a b at high low : ℕ)
      → ((k : ℕ → Registers → Plan) → To (formed_of f.long n f.tag f r k) s₀ (k a t) s₁)
      → ((k : ℕ → Plan) → To (read a k) s₁ (k high) s₂) → b ≡ odd a
      → ((k : ℕ → Plan) → To (read b k) s₂ (k low) s₃) → at ≡ a % n → k ≡ n
      → To (xio m k at high low) s₃ done s₄
      → To (formed n f r (λ ea r. read ea (λ address. read (odd ea) (λ control. xio m n (ea % n) address control)))) s₀ done s₄
  xio_goes n k f r t s₀ s₁ s₂ s₃ s₄ a b at high low g h o i e z x =
      g (λ (ea : ℕ) (y : Registers). read ea (λ (address : ℕ). read (odd ea) (λ (control : ℕ). xio m n (ea % n) address control)))
      ∙ h (λ (address : ℕ). read (odd a) (λ (control : ℕ). xio m n (a % n) address control))
      ∙ ap (λ (y : ℕ). (perform m (read y (λ (control : ℕ). xio m n (a % n) high control)) s₂).machine) (sym o)
      ∙ i (λ (control : ℕ). xio m n (a % n) high control)
      ∙ ap₂ (λ (y w : ℕ). (perform m (xio m y w high low) s₃).machine) (sym z) (sym e)
      ∙ x
