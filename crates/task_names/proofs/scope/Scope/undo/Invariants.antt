use Rattle.std.proofs.Common.{◌≡◌, ◌≤◌, length, take}
use Rattle.task_names.specs.Undoing.{undone}
use Rattle.task_names.proofs.scope.Scope.undo.Given as goal

-- what is left to undo gives what the names meant before the task
abbrev pub invariant-loop-change : goal.invariant-loop-change
invariant-loop-change l =
    (undone l.self-inside.log (take l.self-inside.mark l.self-inside.names.entries) ≡ l.fn.self.before) ×
    (l.self-inside.mark ≤ length l.self-inside.names.entries)

abbrev pub decreases-loop-change : goal.decreases-loop-change
decreases-loop-change l = length l.self-inside.log
