use Rattle.std.proofs.Common.{length}
use Rattle.hall_rounds.specs.Rounds.{Begins}
use Rattle.hall_rounds.proofs.rounds.take_all.Given as goal

-- only notes were taken
abbrev pub invariant-loop-place : goal.invariant-loop-place
invariant-loop-place l = Begins l.hall l.holder

abbrev pub decreases-loop-place : goal.decreases-loop-place
decreases-loop-place l = length l.holder.left
