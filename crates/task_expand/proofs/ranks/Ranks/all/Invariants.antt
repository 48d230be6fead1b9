use Rattle.std.proofs.Common.{◌≡◌, ◌-◌, ◌*◌, ◌≤◌, Ok, sum}
use Rattle.task_tree.specs.Blocks.{Block, written}
use Rattle.task_expand.specs.Ranks.{ranks_up_to}
use Rattle.task_expand.proofs.ranks.Ranks.all.Given as goal

-- the ranks so far are right, and each of them added no more cells than the limit
abbrev pub invariant-loop-rank : goal.invariant-loop-rank
invariant-loop-rank l = (1 ≤ l.rank) × (l.rank ≤ l.size) × ((whole : Block) → written whole ≡ l.stmts → ranks_up_to whole l.size (l.rank - 1) ≡ Ok l.ranks)
    × (sum l.ranks.lens ≤ l.rank * 16777216)
