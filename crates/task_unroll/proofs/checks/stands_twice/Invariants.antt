use Rattle.std.proofs.Common.{◌≡◌, length}
use Rattle.task_unroll.specs.Checks.{stands_twice}
use Rattle.task_unroll.proofs.checks.stands_twice.Given as goal

-- no name so far stands again behind it
abbrev pub invariant-loop-rest : goal.invariant-loop-rest
invariant-loop-rest l = stands_twice l.names ≡ stands_twice l.rest

abbrev pub decreases-loop-rest : goal.decreases-loop-rest
decreases-loop-rest l = length l.rest
