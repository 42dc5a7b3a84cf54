-- What is due, and why.
use Rattle.std.proofs.Common.{◌≡◌, ℕ, ◌<◌, ◌≤◌, Bool, true, false, not, ◌&&◌, eqb, ltb, List, length, get_or, Some, None, Option, sym, refl, ap, ◌∙◌, ⊎_elim, true≢false, arith, ne_eqb}
use lib.ListN.{get_or-eq_default}
use borrow.Author.Tests.{eqb-false}
use Rattle.std.specs.List.{position_or_len}
use Rattle.std.proofs.lemmas.Bool.{cases_Bool, cases_lt, and_parts}
use Rattle.std.proofs.lemmas.Bool.Decides.{nat_tests}
use Rattle.std.proofs.lemmas.List.Sums.{fails_before_first, passes_at_first}
use Rattle.levels.specs.declared.state.Flags.{Flags}
use Rattle.levels.specs.declared.state.Masks.{Masks}
use Rattle.levels.specs.declared.state.Service.{Service}
use Rattle.levels.specs.declared.state.LevelWish.{LevelWish}
use Rattle.levels.specs.declared.state.Interrupt.TheVariants.{Internal, Level}
use Rattle.levels.specs.Standing.{flag_word, is_masked, standing}
use Rattle.levels.specs.Interrupts.{due, highest}
use Rattle.std.specs.Option.{option_map}
use Rattle.std.proofs.lemmas.List.Quantifiers.{position-Some}
use Rattle.levels.proofs.Walks.{none_passes, standing_at, how_long}
use Rattle.levels.specs.Laws.{Stands, InternalStands, InterruptRules}

off : (b : Bool) → not b ≡ true → b ≡ false
off false e = refl
off true e = absurd (true≢false (sym e))

-- nothing is in service down to k just where k lies above the first in service
module _ (ss : List Bool) (k : ℕ) (h : k < length ss) where
  none_down : ltb k (position_or_len (λ on. on) ss) ≡ true → (j : ℕ) → j ≤ k → get_or ss j false ≡ false
  none_down e j l = fails_before_first (λ on. on) ss j false (let g : k < position_or_len (λ on. on) ss = grind (arith, nat_tests) in omega arith)

  above_first : ((j : ℕ) → j ≤ k → get_or ss j false ≡ false) → ltb k (position_or_len (λ on. on) ss) ≡ true
  above_first none = ⊎_elim (λ e. e) (λ e. absurd (in_service e)) (cases_Bool (ltb k (position_or_len (λ on. on) ss)))
    where
      in_service : ltb k (position_or_len (λ on. on) ss) ≡ false → ⊥
      in_service e =
          let g : position_or_len (λ on. on) ss ≤ k = grind (arith, nat_tests) in
          true≢false (sym (passes_at_first (λ on. on) ss false (omega arith)) ∙ none (position_or_len (λ on. on) ss) g)

-- the wish of a level says that it stands
nobody : LevelWish
nobody = record { level = 0; wish = false }

module _ (m : Masks) (words : List ℕ) (s : Service) (k : ℕ) (h : k < length s.levels) (l : k < length words) where
  wish_is : (get_or (standing m (not s.internal) 0 s.levels words) k nobody).wish
      ≡ ((not s.internal && ltb k (position_or_len (λ on. on) s.levels)) && (not (is_masked m k) && not (eqb (get_or words k 0) 0)))
  wish_is = ap (λ (w : LevelWish). w.wish) (standing_at m (not s.internal) s.levels words k nobody h l)

  wish_stands : (get_or (standing m (not s.internal) 0 s.levels words) k nobody).wish ≡ true → Stands m words s k
  wish_stands e =
      let p = and_parts _ _ (sym wish_is ∙ e) in
      let a = and_parts (not s.internal) _ p.0 in
      let b = and_parts (not (is_masked m k)) _ p.1 in
      record {
        status = eqb-false (get_or words k 0) 0 (off _ b.1);
        unmasked = off _ b.0;
        not_internal = off _ a.0;
        none_higher = none_down s.levels k h a.1;
      }

  stands_wish : Stands m words s k → (get_or (standing m (not s.internal) 0 s.levels words) k nobody).wish ≡ true
  stands_wish t = let f = above_first s.levels k h t.none_higher in let i = ne_eqb (get_or words k 0) 0 t.status in rw (wish_is, t.not_internal, f, t.unmasked, i)

-- the test of the internal level, and what a level is not
internal_test : (f : Flags) (s : Service) → (not s.internal && not (eqb (flag_word f) 0)) ≡ true → InternalStands f s
internal_test f s e =
    let p = and_parts (not s.internal) _ e in
    record { flag = eqb-false (flag_word f) 0 (off _ p.1); idle = off _ p.0 }

internal_tested : (f : Flags) (s : Service) → InternalStands f s → (not s.internal && not (eqb (flag_word f) 0)) ≡ true
internal_tested f s t = let i = ne_eqb (flag_word f) 0 t.flag in rw (t.idle, i)

not_a_level : (o : Option ℕ) → option_map Level o ≡ Some Internal → ⊥
not_a_level None e = cc
not_a_level (Some n) e = cc

level_is : (o : Option ℕ) (n : ℕ) → option_map Level o ≡ Some (Level n) → o ≡ Some n
level_is None n e = cc
level_is (Some k) n e = cc

no_level : (o : Option ℕ) → option_map Level o ≡ None → o ≡ None
no_level None e = refl
no_level (Some k) e = cc

module _ (f : Flags) (m : Masks) (words : List ℕ) (s : Service) where
  first_is_internal : (t : Bool) → (not s.internal && not (eqb (flag_word f) 0)) ≡ t → due f m words s ≡ Some Internal → InternalStands f s
  first_is_internal true e d = internal_test f s e
  first_is_internal false e d = absurd (not_a_level _ (rw e at d))

  module _ (lw : length words ≡ 24) (ls : length s.levels ≡ 24) where
    long : length (standing m (not s.internal) 0 s.levels words) ≡ 24
    long = how_long m (not s.internal) 0 s.levels words (ls ∙ sym lw) ∙ ls

    apart : (k : ℕ) → k < 24 → (get_or (standing m (not s.internal) 0 s.levels words) k nobody).wish ≡ false → Stands m words s k → ⊥
    apart k h e t = true≢false (sym (stands_wish m words s k (omega arith) (omega arith) t) ∙ e)

    level_due : (n : ℕ) (t : Bool) → (not s.internal && not (eqb (flag_word f) 0)) ≡ t → due f m words s ≡ Some (Level n)
        → (n < 24) × Stands m words s n × ((k : ℕ) → k < n → Stands m words s k → ⊥)
    level_due n true e d = let g = rw e at d in absurd (cc)
    level_due n false e d =
        let g = level_is _ n (rw e at d) in
        let r = position-Some (λ w. w.wish) (standing m (not s.internal) 0 s.levels words) n nobody g in
        let lt : n < 24 = omega (arith, r.0, long) in
        (lt, wish_stands m words s n (omega arith) (omega arith) r.1, λ k h. apart k (omega arith) (r.2 k h))

    none_due : (t : Bool) → (not s.internal && not (eqb (flag_word f) 0)) ≡ t → due f m words s ≡ None
        → (InternalStands f s → ⊥) × ((k : ℕ) → k < 24 → Stands m words s k → ⊥)
    none_due true e d = let g = rw e at d in absurd (cc)
    none_due false e d =
        let g = no_level _ (rw e at d) in
        (λ t. true≢false (sym (internal_tested f s t) ∙ e), λ k h. apart k h (none_passes (λ w. w.wish) (standing m (not s.internal) 0 s.levels words) k nobody g (omega (arith, long))))

-- the highest in service
module _ (s : Service) where
  level_served : (n : ℕ) (t : Bool) → s.internal ≡ t → highest s ≡ Some (Level n) → (s.internal ≡ false) × (get_or s.levels n false ≡ true) × ((k : ℕ) → k < n → get_or s.levels k false ≡ false)
  level_served n true e d = let g = rw e at d in absurd (cc)
  level_served n false e d =
      let g = level_is _ n (rw e at d) in
      let r = position-Some (λ on. on) s.levels n false g in
      (e, r.1, r.2)

  none_served : (t : Bool) → s.internal ≡ t → highest s ≡ None → (s.internal ≡ false) × ((k : ℕ) → get_or s.levels k false ≡ false)
  none_served true e d = let g = rw e at d in absurd (cc)
  none_served false e d =
      let g = no_level _ (rw e at d) in
      (e, λ k. ⊎_elim (λ h. none_passes (λ on. on) s.levels k false g h) (λ h. get_or-eq_default s.levels false h) (cases_lt k (length s.levels)))

pub interrupt_rules : InterruptRules
interrupt_rules = record {
  internal_first = λ f m words s t. rw (internal_tested f s t);
  internal_only = λ f m words s d. first_is_internal f m words s _ refl d;
  level_stands = λ f m words s n lw ls d. level_due f m words s lw ls n _ refl d;
  none_stands = λ f m words s lw ls d. none_due f m words s lw ls _ refl d;
  highest_internal = λ s e. rw e;
  highest_level = λ s n d. level_served s n _ refl d;
  highest_none = λ s d. none_served s _ refl d;
}
