use Rattle.std.proofs.Common.{◌≡◌, ◌+◌, ◌≤◌, length, drop}
use Rattle.rt_base.specs.Operations.{named_requests}
use Rattle.task_machine.specs.Machine.{open_ones}
use Rattle.wait_steps.proofs.incomplete.open_among.Given as goal

-- with the incomplete ones among the handles that are left, the count is whole
abbrev pub invariant-loop-handle : goal.invariant-loop-handle
invariant-loop-handle l = record {
  whole : l.count + length (open_ones l.engine.program l.engine.exchange (named_requests l.task.0 (drop l.handle-index l.handles)))
      ≡ length (open_ones l.engine.program l.engine.exchange (named_requests l.task.0 l.handles));
  few : l.count ≤ l.handle-index;
}
