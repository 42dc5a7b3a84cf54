-- An entry of a list, also one that is lent a spare core; and what is left of the list.
use Rattle.std.proofs.Common.{◌≡◌, Bool, false, ◌&&◌, eqb, List, [], ◌∷◌, ◌++◌, length, ℕ, sym, refl, ap, ap₂, ◌∙◌, append_assoc}
use Rattle.refusal.specs.declared.Refusal.TheVariants.{Length}
use Rattle.engine.specs.Machine.{Machine, words_of_size, with_core}
use Rattle.engine.specs.Makes.{Makes}
use Rattle.engine.specs.Step.{lent_right}
use Rattle.controller.specs.declared.call.Call.{Call}
use Rattle.controller.specs.declared.call.Entry.{Entry}
use Rattle.controller.specs.declared.call.Lent.{Lent}
use Rattle.controller.specs.declared.call.Lent.TheVariants.{Opened, Other}
use Rattle.controller.specs.Console.{Answer, Done, refuse, only_if, made_call, call}
use Rattle.controller.specs.Run.{lending, enter, run, after, answers_of}
use Rattle.promises.proofs.Answering.{SameOpening, call_opening}

refused : (m : Makes) (k : Call) (s : Machine) → lent_right s ≡ false → call m k s ≡ refuse Length s
unfolding call
refused m k s e = ap (λ (b : Bool). only_if b Length (made_call m k) s) e

entered : (m : Makes) (e : Entry) (s : Machine) → e.lent ≡ Other → enter m e s ≡ refuse Length s
entered m e s o = ap (λ (l : Lent). lending l m e.call s) o

-- s is lent the opened core and t the spare one; the call is made with the spare one, and leaves it u
module _ (m : Makes) (e : Entry) (s t u : Machine) (o : e.lent ≡ Other) (l : lent_right t ≡ false) where
  pub spare_answer : (r : Answer) → r ≡ (call m e.call t).answer → r ≡ (enter m e s).answer
  spare_answer r k = k ∙ ap (λ (d : Done). d.answer) (refused m e.call t l) ∙ sym (ap (λ (d : Done). d.answer) (entered m e s o))

  pub spare_left : u ≡ (call m e.call t).machine → u ≡ t
  spare_left k = k ∙ ap (λ (d : Done). d.machine) (refused m e.call t l)

  pub spare_machine : u ≡ (call m e.call t).machine → with_core s.core t ≡ s → with_core s.core u ≡ (enter m e s).machine
  spare_machine k same = ap (with_core s.core) (spare_left k) ∙ same ∙ sym (ap (λ (d : Done). d.machine) (entered m e s o))

-- what opening settled stays
same_opening : (m : Makes) (l : Lent) (c : Call) (s : Machine) → SameOpening s (lending l m c s).machine
same_opening m Opened c s = call_opening m c s
same_opening m Other c s = record { accepted = refl; size = refl; length = refl }

-- a spare core stays one that is refused
pub still_refused : (m : Makes) (e : Entry) (s t : Machine) (u : List ℕ) → t ≡ (enter m e s).machine → lent_right (with_core u s) ≡ false → lent_right (with_core u t) ≡ false
still_refused m e s t u k h =
    let o = same_opening m e.lent e.call s in
    ap (λ (x : Machine). lent_right (with_core u x)) k
    ∙ ap₂ (λ (b : Bool) (n : ℕ). b && eqb (length u) n) o.accepted (ap words_of_size o.size)
    ∙ h

-- the first entry of what is left is answered, and leaves the rest
module _ (m : Makes) (e : Entry) (more rest : List Entry) (s t : Machine) (q : rest ≡ e ∷ more) (k : t ≡ (enter m e s).machine) where
  pub next_machine : (z : Machine) → after m rest s ≡ z → after m more t ≡ z
  next_machine z i = ap (after m more) k ∙ sym (ap (λ (es : List Entry). after m es s) q) ∙ i

  pub next_answers : (r : Answer) (old new all : List Answer) → new ≡ old ++ (r ∷ []) → r ≡ (enter m e s).answer → old ++ answers_of (run m rest s) ≡ all
      → new ++ answers_of (run m more t) ≡ all
  next_answers r old new all n h i =
      ap (λ (xs : List Answer). xs ++ answers_of (run m more t)) n
      ∙ append_assoc old (r ∷ []) (answers_of (run m more t))
      ∙ ap (λ (xs : List Answer). old ++ xs) (ap₂ (λ (x : Answer) (u : Machine). x ∷ answers_of (run m more u)) h k ∙ sym (ap (λ (es : List Entry). answers_of (run m es s)) q))
      ∙ i
