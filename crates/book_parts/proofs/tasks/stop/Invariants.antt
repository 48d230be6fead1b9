use Rattle.std.proofs.Common.{◌≡◌, ◌≤◌, ◌-◌, length, drop}
use Rattle.task_local.specs.Local.{stop, stop_at}
use Rattle.book_parts.proofs.tasks.stop.Given as goal

abbrev pub invariant-loop-at : goal.invariant-loop-at
invariant-loop-at l = (stop_at l.at (drop l.at l.def.body.items) ≡ stop l.def l.k) × (l.at ≤ length l.def.body.items)

abbrev pub decreases-loop-at : goal.decreases-loop-at
decreases-loop-at l = length l.def.body.items - l.at
