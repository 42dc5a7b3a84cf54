-- The registers, and one of them with another value.
use Rattle.std.specs.Prelude.{ℕ, ◌+◌, ◌*◌, ◌/◌, ◌%◌, Bool}
use Rattle.instruction.specs.declared.words.Index.{Index}
use Rattle.instruction.specs.declared.words.Index.TheVariants.{One, Two, Three}
use Rattle.registers.specs.declared.state.Registers.{Registers}

-- I is a register of sixteen bits here; the layer that knows the core's size keeps it below that size
abbrev pub with_i : ℕ → Registers → Registers
with_i v r = record { i = v; a = r.a; q = r.q; x1 = r.x1; x2 = r.x2; x3 = r.x3; carry = r.carry; overflow = r.overflow }

abbrev pub with_a : ℕ → Registers → Registers
with_a v r = record { i = r.i; a = v; q = r.q; x1 = r.x1; x2 = r.x2; x3 = r.x3; carry = r.carry; overflow = r.overflow }

-- A and Q as one number of 32 bits
abbrev pub both : Registers → ℕ
both r = r.a * 65536 + r.q

abbrev pub with_both : ℕ → Registers → Registers
with_both n r = record { i = r.i; a = n / 65536; q = n % 65536; x1 = r.x1; x2 = r.x2; x3 = r.x3; carry = r.carry; overflow = r.overflow }

abbrev pub with_flags : Bool → Bool → Registers → Registers
with_flags c v r = record { i = r.i; a = r.a; q = r.q; x1 = r.x1; x2 = r.x2; x3 = r.x3; carry = c; overflow = v }

abbrev pub index : Index → Registers → ℕ
index One r = r.x1
index Two r = r.x2
index Three r = r.x3

abbrev pub with_index : Index → ℕ → Registers → Registers
with_index One v r = record { i = r.i; a = r.a; q = r.q; x1 = v; x2 = r.x2; x3 = r.x3; carry = r.carry; overflow = r.overflow }
with_index Two v r = record { i = r.i; a = r.a; q = r.q; x1 = r.x1; x2 = v; x3 = r.x3; carry = r.carry; overflow = r.overflow }
with_index Three v r = record { i = r.i; a = r.a; q = r.q; x1 = r.x1; x2 = r.x2; x3 = v; carry = r.carry; overflow = r.overflow }
