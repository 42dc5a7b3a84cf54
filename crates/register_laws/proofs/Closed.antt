-- The closed forms of shifts.
use Rattle.std.proofs.Common.{◌≡◌, ℕ, zero, suc, ◌+◌, ◌-◌, ◌*◌, ◌/◌, ◌%◌, ◌^◌, ◌<◌, ◌≤◌, true, false, leb, ℤ, pos, negsuc, sym, refl, ap, ◌∙◌, ⊎_elim, mul_assoc, add-mul, pow-suc, arith, leb-false}
use lib.Signed.{shr_z}
use Rattle.std.proofs.lemmas.Nat.{shr-shr, pow-add, mod-pow-add}
use Rattle.std.proofs.lemmas.Bool.{cases_Bool}
use Rattle.std.proofs.lemmas.Int.{ints}
use Rattle.registers.specs.declared.state.Registers.{Registers}
use Rattle.registers.specs.declared.state.Shift.{Shift}
use Rattle.registers.specs.declared.state.Shift.TheVariants.{LeftA, LeftBoth, RightA, RightBoth, Rotate}
use Rattle.registers.specs.Parts.{both, with_both}
use Rattle.registers.specs.Arithmetic.{signed_both}
use Rattle.registers.specs.Shifts.{once, times, count_left}
use Rattle.register_laws.specs.Laws.{Sixteen}
use Rattle.register_laws.proofs.Signs.{below, both_of}
use Rattle.register_laws.specs.ShiftLaws.{Counts, ShiftRules}

-- a step more at the end, and sixteen bits stay sixteen
times_last : (n : ℕ) (s : Shift) (r : Registers) → times (suc n) s r ≡ once s (times n s r)
times_last zero s r = refl
times_last (suc n) s r = times_last n s (once s r)

split : (n : ℕ) (r : Registers) → n < 4294967296 → Sixteen (with_both n r)
split n r h = record { a = omega arith; q = omega arith }

once_sixteen : (s : Shift) (r : Registers) → Sixteen r → Sixteen (once s r)
once_sixteen LeftA r t = record { a = omega arith; q = t.q }
once_sixteen LeftBoth r t = let x = split (both r * 2 % 4294967296) r (omega arith) in record { a = x.a; q = x.q }
once_sixteen RightA r t = let x = t.a in record { a = omega arith; q = t.q }
once_sixteen RightBoth r t = let b = below r t in let n : ℕ = both r in split (n / 2 + n / 2147483648 * 2147483648) r (omega arith)
once_sixteen Rotate r t = let b = below r t in let n : ℕ = both r in split (n / 2 + n % 2 * 2147483648) r (omega arith)

sixteen : (n : ℕ) (s : Shift) (r : Registers) → Sixteen r → Sixteen (times n s r)
sixteen zero s r t = t
sixteen (suc n) s r t = sixteen n s (once s r) (once_sixteen s r t)

-- one power more
double : (x n : ℕ) → x * 2 ^ suc n ≡ x * 2 ^ n * 2
double x n = grind (arith, pow-suc 2 n)

left : (n : ℕ) (r : Registers) → Sixteen r → (times n LeftA r).a ≡ r.a * 2 ^ n % 65536
left zero r t = grind (arith, t.a)
left (suc n) r t = grind (arith, times_last n LeftA r, left n r t, double r.a n)

left_carry : (n : ℕ) (r : Registers) → Sixteen r → (times (suc n) LeftA r).carry ≡ leb 32768 (r.a * 2 ^ n % 65536)
left_carry n r t = grind (arith, times_last n LeftA r, left n r t)

left_both : (n : ℕ) (r : Registers) → Sixteen r → both (times n LeftBoth r) ≡ both r * 2 ^ n % 4294967296
left_both zero r t = grind (arith, below r t)
left_both (suc n) r t = grind (arith, times_last n LeftBoth r, left_both n r t, double (both r) n)

left_both_carry : (n : ℕ) (r : Registers) → Sixteen r → (times (suc n) LeftBoth r).carry ≡ leb 2147483648 (both r * 2 ^ n % 4294967296)
left_both_carry n r t =
    let v : Registers = times n LeftBoth r in
    let x = (sixteen n LeftBoth r t).q in
    grind (arith, times_last n LeftBoth r, left_both n r t)

right : (n : ℕ) (r : Registers) → (times n RightA r).a ≡ r.a / 2 ^ n
right zero r = omega arith
right (suc n) r = grind (arith, times_last n RightA r, right n r, shr-shr r.a n 1)

-- one step right of a signed number halves it, rounded down
half : (x : ℕ) → x < 4294967296 → signed_both (x / 2 + x / 2147483648 * 2147483648) ≡ shr_z (signed_both x) 2
half x h = grind (arith, ints)

halves : (z : ℤ) (n : ℕ) → shr_z (shr_z z (2 ^ n)) 2 ≡ shr_z z (2 ^ suc n)
halves (pos a) n = grind (arith, shr-shr a n 1)
halves (negsuc a) n = grind (arith, shr-shr a n 1)

whole : (z : ℤ) → shr_z z 1 ≡ z
whole z = grind (arith, ints)

right_both : (n : ℕ) (r : Registers) → Sixteen r → signed_both (both (times n RightBoth r)) ≡ shr_z (signed_both (both r)) (2 ^ n)
right_both zero r t = sym (whole (signed_both (both r)))
right_both (suc n) r t =
    let v : Registers = times n RightBoth r in
    grind (arith, times_last n RightBoth r, half (both v) (below v (sixteen n RightBoth r t)), right_both n r t, halves (signed_both (both r)) n)

-- one step around: the lowest of the high part comes in above the low part, p = 2 ^ (31 - n)
turn : (h l p : ℕ) → (h + l * (p * 2)) / 2 + (h + l * (p * 2)) % 2 * 2147483648 ≡ h / 2 + l * p + h % 2 * 2147483648
turn h l p = grind arith

around : (n : ℕ) (r : Registers) → n ≤ 32 → Sixteen r → both (times n Rotate r) ≡ both r / 2 ^ n + both r % 2 ^ n * 2 ^ (32 - n)
around zero r h t = omega arith
around (suc n) r h t =
    let x : ℕ = both r in
    let v : Registers = times n Rotate r in
    let p : ℕ = 2 ^ (32 - suc n) in
    let up : 2 ^ (32 - n) ≡ p * 2 = ap (λ (k : ℕ). 2 ^ k) (let e : 32 - n ≡ suc (32 - suc n) = omega arith in e) ∙ pow-suc 2 (32 - suc n) in
    let whole32 : 2 ^ n * p ≡ 2147483648 = sym (pow-add 2 n (32 - suc n)) ∙ ap (λ (k : ℕ). 2 ^ k) (let e : n + (32 - suc n) ≡ 31 = omega arith in e) in
    let low : x % 2 ^ suc n ≡ x / 2 ^ n % 2 * 2 ^ n + x % 2 ^ n = ap (λ (k : ℕ). x % 2 ^ k) (let e : suc n ≡ 1 + n = omega arith in e) ∙ mod-pow-add x 1 n in
    let high : x / 2 ^ n / 2 ≡ x / 2 ^ suc n = shr-shr x n 1 ∙ ap (λ (k : ℕ). x / 2 ^ k) (let e : n + 1 ≡ suc n = omega arith in e) in
    let spread : (x / 2 ^ n % 2 * 2 ^ n + x % 2 ^ n) * p ≡ x / 2 ^ n % 2 * 2147483648 + x % 2 ^ n * p = add-mul (x / 2 ^ n % 2 * 2 ^ n) (x % 2 ^ n) p ∙ ap (λ (k : ℕ). k + x % 2 ^ n * p) (mul_assoc (x / 2 ^ n % 2) (2 ^ n) p ∙ ap (λ (k : ℕ). x / 2 ^ n % 2 * k) whole32) in
    let before : both v ≡ x / 2 ^ n + x % 2 ^ n * (p * 2) = around n r (omega arith) t ∙ ap (λ (k : ℕ). x / 2 ^ n + x % 2 ^ n * k) up in
    ap both (times_last n Rotate r)
    ∙ both_of (both v / 2 + both v % 2 * 2147483648) v
    ∙ ap (λ (k : ℕ). k / 2 + k % 2 * 2147483648) before
    ∙ turn (x / 2 ^ n) (x % 2 ^ n) p
    ∙ (let e = spread in let f = high in let g = ap (λ (k : ℕ). k * p) low in omega arith)

around_all : (n : ℕ) (r : Registers) → n ≡ 32 → Sixteen r → both (times n Rotate r) ≡ both r
around_all n r e t =
    let b = below r t in
    let f : both r / 2 ^ 32 + both r % 2 ^ 32 * 2 ^ (32 - 32) ≡ both r = omega arith in
    around n r (omega arith) t ∙ ap (λ (k : ℕ). both r / 2 ^ k + both r % 2 ^ k * 2 ^ (32 - k)) e ∙ f

-- counting: at a one in bit 0, and else one step and then the rest
at_one : (n : ℕ) (s : Shift) (r : Registers) → leb 32768 r.a ≡ true → Counts (suc n) s r
at_one n s r e = record { bound = grind arith; steps = grind arith; stops = λ h. grind arith; goes = λ k h. grind arith }

going : (n : ℕ) (s : Shift) (r : Registers) → leb 32768 r.a ≡ false → Counts n s (once s r) → Counts (suc n) s r
going n s r e i = record { bound = grind arith; steps = grind (arith, i.bound, i.steps); stops = λ h. grind (arith, i.bound, i.stops); goes = first }
  where
    first : (k : ℕ) → k < suc n - count_left (suc n) s r → (times k s r).a < 32768
    first zero h = leb-false 32768 r.a e
    first (suc k) h = grind (arith, i.bound, i.goes)

counts : (n : ℕ) (s : Shift) (r : Registers) → Counts n s r
counts zero s r = record { bound = omega arith; steps = refl; stops = λ h. absurd (omega arith); goes = λ k h. absurd (omega arith) }
counts (suc n) s r = ⊎_elim (at_one n s r) (λ e. going n s r e (counts n s (once s r))) (cases_Bool (leb 32768 r.a))

pub shift_rules : ShiftRules
shift_rules = record {
  left = left;
  left_carry = left_carry;
  left_both = left_both;
  left_both_carry = left_both_carry;
  right = right;
  right_both = right_both;
  around = around;
  around_all = around_all;
  counts = counts;
}
