use Rattle.std.proofs.Common.{◌≡◌, drop}
use Rattle.rt_base.specs.Operations.{named_requests}
use Rattle.rt_base.specs.MayMove.{AreComplete}
use Rattle.task_local.specs.Standing.{def}
use Rattle.task_local.specs.Waits.{stored_by_handles}
use Rattle.wait_steps.proofs.received.store_received.Given as goal

-- what the handles that are left store makes the copy whole
abbrev pub invariant-loop-handle : goal.invariant-loop-handle
invariant-loop-handle l = record {
  copied : l.rec ≡ record l.fn.rec { copy = l.rec.copy };
  whole : stored_by_handles l.engine.program l.engine.exchange l.fn.rec.task (def l.fn.rec) (drop l.handle-index l.handles) l.rec.copy
      ≡ stored_by_handles l.engine.program l.engine.exchange l.fn.rec.task (def l.fn.rec) l.handles l.fn.rec.copy;
  complete : AreComplete l.engine.program l.engine.exchange (named_requests l.fn.rec.task (drop l.handle-index l.handles));
}
