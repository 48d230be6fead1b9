use Rattle.std.proofs.Common.{◌≡◌, take}
use Rattle.run_bounds.specs.Bounds.{most_postings}
use Rattle.book_parts.proofs.room.most_postings.Given as goal

-- the postings of the tasks so far
abbrev pub invariant-loop-task : goal.invariant-loop-task
invariant-loop-task l = l.count ≡ most_postings (take l.task-index l.tasks)
