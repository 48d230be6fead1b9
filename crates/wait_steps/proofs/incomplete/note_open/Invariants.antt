use Rattle.std.proofs.Common.{◌≡◌, ◌+◌, ◌≤◌, ◌++◌, length, drop, vec_capacity}
use Rattle.rt_base.specs.Operations.{named_requests}
use Rattle.task_machine.specs.Machine.{open_ones}
use Rattle.wait_steps.proofs.incomplete.note_open.Given as goal

-- with the incomplete ones among the handles that are left, the list is whole
abbrev pub invariant-loop-handle : goal.invariant-loop-handle
invariant-loop-handle l = record {
  whole : l.opened.items ++ open_ones l.engine.program l.engine.exchange (named_requests l.task.0 (drop l.handle-index l.handles))
      ≡ l.fn.opened.items ++ open_ones l.engine.program l.engine.exchange (named_requests l.task.0 l.handles);
  room : length l.opened.items ≤ length l.fn.opened.items + l.handle-index;
  places : vec_capacity l.fn.opened ≤ vec_capacity l.opened;
}
