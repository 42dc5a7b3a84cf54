-- Which of XIO's plans it is.
use Rattle.std.proofs.Common.{◌≡◌, ℕ, ◌<◌, Bool, false, cond, eqb, Option, sym, ap, ◌∙◌, ap₂}
use Rattle.std.proofs.lemmas.Bool.{lt-ltb}
use Rattle.device.specs.declared.control.ControlWord.{ControlWord}
use Rattle.engine.specs.Plan.{Plan, drop, done, look, perform}
use Rattle.engine.specs.Xio.{nobody, sense_switches, sense_interrupt, area_zero, answering, with_device, by_area}
use Rattle.engine.specs.declared.place.Position.{Position}
use Rattle.engine.specs.Machine.{Machine, dev_at}
use Rattle.engine.specs.Makes.{Makes}

module _ (at address : ℕ) (c : ControlWord) where
  asking : ℕ → ℕ → Plan
  asking function modifier = area_zero at address (record { area = c.area; function = function; modifier = modifier })

  pub zero_switches : c.function ≡ 7 → c.modifier ≡ 2 → area_zero at address c ≡ sense_switches
  unfolding asking
  zero_switches f k = ap₂ asking f k

  pub zero_drop : c.function ≡ 4 → c.modifier < 24 → area_zero at address c ≡ drop c.modifier done
  unfolding asking
  zero_drop f k = ap (λ (x : ℕ). asking x c.modifier) f ∙ ap (λ (b : Bool). cond b (drop c.modifier done) (nobody at)) (lt-ltb c.modifier 24 k)

-- an area of devices: which device it is
pub area_device : (m : Makes) (n at address : ℕ) (c : ControlWord) (s : Machine) (o : Option Position) → eqb c.function 3 ≡ false → eqb c.area 0 ≡ false
    → o ≡ answering m (λ p. (dev_at p s).control) c.area → (perform m (by_area m n at address c) s).machine ≡ (perform m (with_device m n at address c o) s).machine
area_device m n at address c s o h3 h0 e =
    ap₂ (λ (x y : Bool). (perform m (cond x sense_interrupt (cond y (area_zero at address c) (look (λ v. with_device m n at address c (answering m v.control c.area))))) s).machine) h3 h0
    ∙ ap (λ (x : Option Position). (perform m (with_device m n at address c x) s).machine) (sym e)
