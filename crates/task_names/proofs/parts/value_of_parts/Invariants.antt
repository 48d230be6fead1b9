use Rattle.std.proofs.Common.{◌≡◌, [], length}
use Rattle.task_names.specs.Values.{value}
use Rattle.task_names.specs.Parts.{put_on, after, Fits, left_of}
use Rattle.task_names.proofs.parts.value_of_parts.Given as goal

-- what is left to do comes to the value of the whole
abbrev pub invariant-loop-next : goal.invariant-loop-next
invariant-loop-next l =
    (put_on (value (record { names = l.scope.names; rank = l.rank; size = l.size }) l.e) []
    ≡ after (record { names = l.scope.names; rank = l.rank; size = l.size }) l.todo l.values) ×
    Fits l.todo (length l.values)

abbrev pub decreases-loop-next : goal.decreases-loop-next
decreases-loop-next l = left_of l.todo
