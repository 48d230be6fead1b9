use Rattle.std.proofs.Common.{◌≡◌, length}
use Rattle.meet_hall.specs.Holders.{HolderIs}
use Rattle.meet_hall.proofs.tests.take_all.Given as goal

-- only notes were taken
abbrev pub invariant-loop-place : goal.invariant-loop-place
invariant-loop-place l = let first : HolderIs = l.initial.holder in l.holder ≡ record first { left = l.holder.left }

abbrev pub decreases-loop-place : goal.decreases-loop-place
decreases-loop-place l = length l.holder.left
