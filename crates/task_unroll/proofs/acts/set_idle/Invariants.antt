use Rattle.std.proofs.Common.{◌≡◌, length}
use Rattle.task_unroll.specs.Acts.{with_idle}
use Rattle.task_unroll.proofs.acts.set_idle.Given as goal

-- the handles that are left lead to what all of them lead to
abbrev pub invariant-loop-rest : goal.invariant-loop-rest
invariant-loop-rest l =
    (with_idle l.rest l.scope.names ≡ with_idle l.handles l.fn.scope.names) ×
    (l.scope.before ≡ l.fn.scope.before)

abbrev pub decreases-loop-rest : goal.decreases-loop-rest
decreases-loop-rest l = length l.rest
