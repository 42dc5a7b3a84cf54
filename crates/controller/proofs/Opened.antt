-- An accepted opening's core is lent right.
use Rattle.std.proofs.Common.{◌≡◌, ℕ, Bool, true, false, cond, ◌&&◌, eqb, List, length, Ok, Err, Result, sym, refl, ap, ap₂, true≢false}
use Rattle.refusal.specs.declared.Refusal.{Refusal}
use Rattle.refusal.specs.declared.Refusal.TheVariants.{Length, Wiring as BadWiring}
use Rattle.storage.specs.Memory.{core_size, size_of, words_of_size}
use Rattle.engine.specs.declared.state.Wiring.{Wiring}
use Rattle.engine.specs.Machine.{Dev}
use Rattle.engine.specs.Step.{lent_right}
use Rattle.controller.specs.Opening.{all_wired, opening, is_accepted, opened_machine}

-- the size of a core of one of the four lengths has that many words
size_right : (n : ℕ) → core_size n ≡ true → eqb n (words_of_size (size_of n)) ≡ true
size_right n h = first (eqb n 4096) refl
  where
    fourth : eqb n 4096 ≡ false → eqb n 8192 ≡ false → eqb n 16384 ≡ false → eqb n (words_of_size (size_of n)) ≡ true
    fourth a b c = rw (a, b, c) (rw (a, b, c) at h)

    third : (x : Bool) → eqb n 16384 ≡ x → eqb n 4096 ≡ false → eqb n 8192 ≡ false → eqb n (words_of_size (size_of n)) ≡ true
    third true e a b = rw (a, b, e) e
    third false e a b = fourth a b e

    second : (x : Bool) → eqb n 8192 ≡ x → eqb n 4096 ≡ false → eqb n (words_of_size (size_of n)) ≡ true
    second true e a = rw (a, e) e
    second false e a = third (eqb n 16384) refl a e

    first : (x : Bool) → eqb n 4096 ≡ x → eqb n (words_of_size (size_of n)) ≡ true
    first true e = rw e e
    first false e = second (eqb n 8192) refl e

accepted_parts : (b : Bool) (r : Result (Unit {0}) Refusal) (y : Refusal) → is_accepted (cond b r (Err y)) ≡ true → b ≡ true
accepted_parts true r y e = refl
accepted_parts false r y e = absurd (true≢false (sym e))

pub opened_right : (core : List ℕ) (w : Wiring) (a b c d : Dev) → opening (length core) w ≡ Ok tt → lent_right (opened_machine core w a b c d) ≡ true
opened_right core w a b c d e =
    ap₂ (λ (x y : Bool). x && y) (ap is_accepted e)
    (size_right (length core) (accepted_parts (core_size (length core)) (cond (all_wired w) (Ok tt) (Err BadWiring)) Length (ap is_accepted e)))
