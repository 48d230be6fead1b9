use Rattle.std.proofs.Common.{◌≡◌, take}
use Rattle.rt_base.specs.WellFormed.{over_operations}
use Rattle.run_bounds.specs.Bounds.{tells}
use Rattle.book_parts.proofs.room.most_told.Given as goal

-- what the tasks so far tell
abbrev pub invariant-loop-task : goal.invariant-loop-task
invariant-loop-task l = l.count ≡ over_operations tells (take l.task-index l.tasks)
