use Rattle.std.proofs.Common.{◌≡◌, ◌+◌, ◌-◌, ◌*◌, length}
use Rattle.task_tree.specs.Blocks.{Block, written}
use Rattle.task_unroll.specs.Blocks.{unrolled}
use Rattle.task_unroll.specs.Steps.{spot}
use Rattle.task_unroll.proofs.Frames.{IsAt}
use Rattle.task_unroll.proofs.walk.unroll.Given as goal

-- what is left to do where the walk stands comes to what the whole text does
abbrev pub invariant-loop-stmt : goal.invariant-loop-stmt
invariant-loop-stmt l = (whole : Block) → written whole ≡ l.stmts → IsAt l.stmts (spot l.state l.walk.place l.walk.levels) (unrolled whole l.fn.state)

-- the steps that are left, and then the places
abbrev pub decreases-loop-stmt : goal.decreases-loop-stmt
decreases-loop-stmt l = (16777216 - l.state.counts.steps) * (length l.stmts + 1) + (length l.stmts - l.walk.place)
