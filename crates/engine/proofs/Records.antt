-- Records are equal where their fields are.
use Rattle.std.proofs.Common.{◌≡◌}
use Rattle.engine.specs.Machine.{Machine, Dev}

pub dev_path : (d e : Dev) → d.control ≡ e.control → d.words ≡ e.words → d ≡ e
dev_path d e p q = λ i. record { control = p i; words = q i }

pub machine_path : (s t : Machine) → s.processor ≡ t.processor → s.core ≡ t.core → s.first ≡ t.first → s.second ≡ t.second → s.third ≡ t.third → s.fourth ≡ t.fourth → s ≡ t
machine_path s t p u a b c d = λ i. record { processor = p i; core = u i; first = a i; second = b i; third = c i; fourth = d i }
