use Rattle.std.proofs.Common.{◌≡◌, ◌-◌}
use Rattle.registers.specs.Shifts.{times}
use Rattle.registers.proofs.state.Registers.shift_times.Given as goal

abbrev pub invariant-loop : goal.invariant-loop
invariant-loop l = times (l.count - l.counter) l.shift l.self ≡ times l.count l.shift l.initial.self
