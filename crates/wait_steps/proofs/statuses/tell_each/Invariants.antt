use Rattle.std.proofs.Common.{◌≡◌, ◌+◌, ◌≤◌, ◌++◌, length, drop, vec_capacity}
use Rattle.rt_base.specs.Operations.{named_requests}
use Rattle.rt_base.specs.MayMove.{AreComplete}
use Rattle.task_local.specs.Waits.{statuses_of}
use Rattle.wait_steps.proofs.statuses.tell_each.Given as goal

-- with the statuses of the handles that are left, the list is whole
abbrev pub invariant-loop-handle : goal.invariant-loop-handle
invariant-loop-handle l = record {
  whole : l.statuses.items ++ statuses_of l.engine.program l.engine.exchange l.task.0 (drop l.handle-index l.handles)
      ≡ l.fn.statuses.items ++ statuses_of l.engine.program l.engine.exchange l.task.0 l.handles;
  complete : AreComplete l.engine.program l.engine.exchange (named_requests l.task.0 (drop l.handle-index l.handles));
  room : length l.statuses.items ≡ length l.fn.statuses.items + l.handle-index;
  places : vec_capacity l.fn.statuses ≤ vec_capacity l.statuses;
}
