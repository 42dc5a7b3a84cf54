use Rattle.std.proofs.Common.{◌≡◌, ◌-◌}
use Rattle.registers.specs.Shifts.{counted, count_left}
use Rattle.registers.proofs.state.Registers.shift_and_count.Given as goal

abbrev pub invariant-loop-done : goal.invariant-loop-done
invariant-loop-done l = record {
  registers : counted (l.count - l.done) l.shift l.self ≡ counted l.count l.shift l.initial.self;
  left : count_left (l.count - l.done) l.shift l.self ≡ count_left l.count l.shift l.initial.self;
}
