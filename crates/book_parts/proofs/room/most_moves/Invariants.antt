use Rattle.std.proofs.Common.{◌≡◌, take}
use Rattle.task_machine.specs.Course.{most_moves}
use Rattle.book_parts.proofs.room.most_moves.Given as goal

-- the moves of the tasks so far
abbrev pub invariant-loop-task : goal.invariant-loop-task
invariant-loop-task l = l.moves ≡ most_moves (take l.task-index l.tasks)
