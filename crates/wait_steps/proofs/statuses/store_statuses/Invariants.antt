use Rattle.std.proofs.Common.{◌≡◌, length, drop}
use Rattle.task_local.specs.Standing.{def}
use Rattle.task_local.specs.Waits.{put_statuses}
use Rattle.wait_steps.specs.StatusSpans.{HasPlaces}
use Rattle.wait_steps.proofs.statuses.store_statuses.Given as goal

-- the statuses that are left make the copy whole
abbrev pub invariant-loop-status : goal.invariant-loop-status
invariant-loop-status l = record {
  copied : l.rec ≡ record l.fn.rec { copy = l.rec.copy };
  whole : put_statuses (def l.fn.rec) l.rest (drop l.status-index l.statuses) l.rec.copy ≡ put_statuses (def l.fn.rec) l.fn.span l.statuses l.fn.rec.copy;
  places : HasPlaces (def l.fn.rec) l.rest (length (drop l.status-index l.statuses));
}
