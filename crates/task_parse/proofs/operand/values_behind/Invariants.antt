use Rattle.std.proofs.Common.{◌≡◌, ◌-◌}
use Rattle.task_parse.specs.ReadingsOfParts.{left}
use Rattle.task_parse.specs.ReadingsOfOperands.{next_value, more_of}
use Rattle.task_parse.proofs.operand.values_behind.Given as goal

-- the values so far with those that are left are all
abbrev pub invariant-loop : goal.invariant-loop
invariant-loop l = more_of next_value l.fn.values.items l.count (left l.rest) ≡ more_of next_value l.all.items (l.count - l.counter) (left l.here)
