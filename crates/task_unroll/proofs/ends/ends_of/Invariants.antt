use Rattle.task_unroll.specs.Ends.{AreEndsUpTo}
use Rattle.task_unroll.proofs.ends.ends_of.Given as goal

abbrev pub invariant-loop-place : goal.invariant-loop-place
invariant-loop-place l = AreEndsUpTo l.stmts l.places.items l.place
