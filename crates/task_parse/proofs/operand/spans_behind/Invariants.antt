use Rattle.std.proofs.Common.{◌≡◌, ◌-◌}
use Rattle.task_parse.specs.ReadingsOfParts.{left}
use Rattle.task_parse.specs.ReadingsOfOperands.{next_span, more_of}
use Rattle.task_parse.proofs.operand.spans_behind.Given as goal

-- the spans so far with those that are left are all
abbrev pub invariant-loop : goal.invariant-loop
invariant-loop l = more_of next_span l.fn.spans.items l.count (left l.rest) ≡ more_of next_span l.all.items (l.count - l.counter) (left l.here)
