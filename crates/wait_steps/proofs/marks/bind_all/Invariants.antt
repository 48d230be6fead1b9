use Rattle.std.proofs.Common.{◌≡◌, ◌+◌, ◌≤◌, ◌++◌, length, drop, vec_capacity}
use Rattle.rt_base.specs.Operations.{named_requests}
use Rattle.task_machine.specs.Machine.{open_ones}
use Rattle.wait_steps.specs.MarkedRows.{marked_all, HaveMarks}
use Rattle.wait_steps.proofs.marks.bind_all.Given as goal

-- with the incomplete ones among the handles that are left, the marks, the list and the count are whole
abbrev pub invariant-loop-handle : goal.invariant-loop-handle
invariant-loop-handle l = record {
  marks : marked_all l.marks (open_ones l.engine.program l.engine.exchange (named_requests l.task.0 (drop l.handle-index l.handles)))
      ≡ marked_all l.fn.marks (open_ones l.engine.program l.engine.exchange (named_requests l.task.0 l.handles));
  known : HaveMarks l.marks (named_requests l.task.0 (drop l.handle-index l.handles));
  whole : l.opened.items ++ open_ones l.engine.program l.engine.exchange (named_requests l.task.0 (drop l.handle-index l.handles))
      ≡ l.fn.opened.items ++ open_ones l.engine.program l.engine.exchange (named_requests l.task.0 l.handles);
  room : length l.opened.items ≤ length l.fn.opened.items + l.handle-index;
  places : vec_capacity l.fn.opened ≤ vec_capacity l.opened;
  count : l.count + length (open_ones l.engine.program l.engine.exchange (named_requests l.task.0 (drop l.handle-index l.handles)))
      ≡ length (open_ones l.engine.program l.engine.exchange (named_requests l.task.0 l.handles));
  few : l.count ≤ l.handle-index;
}
