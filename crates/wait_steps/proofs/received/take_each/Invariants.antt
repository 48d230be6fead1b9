use Rattle.std.proofs.Common.{◌≡◌, length, drop}
use Rattle.rt_base.specs.Operations.{named_requests}
use Rattle.rt_base.specs.MayMove.{AreComplete}
use Rattle.task_local.specs.Standing.{def}
use Rattle.task_local.specs.Waits.{taken_by_handles}
use Rattle.wait_steps.specs.StatusSpans.{HasPlaces}
use Rattle.wait_steps.proofs.received.take_each.Given as goal

-- what the handles that are left store makes the copy whole
abbrev pub invariant-loop-handle : goal.invariant-loop-handle
invariant-loop-handle l = record {
  copied : l.rec ≡ record l.fn.rec { copy = l.rec.copy };
  whole : taken_by_handles l.engine.program l.engine.exchange l.fn.rec.task (def l.fn.rec) l.rest (drop l.handle-index l.handles) l.rec.copy
      ≡ taken_by_handles l.engine.program l.engine.exchange l.fn.rec.task (def l.fn.rec) l.fn.span l.handles l.fn.rec.copy;
  complete : AreComplete l.engine.program l.engine.exchange (named_requests l.fn.rec.task (drop l.handle-index l.handles));
  places : HasPlaces (def l.fn.rec) l.rest (length (drop l.handle-index l.handles));
}
