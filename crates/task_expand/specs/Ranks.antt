-- The ranks of a text, cut where the code cuts them. No public clause cites this module.
use Rattle.std.specs.Prelude.{ℕ, Result}
use Rattle.task_tree.specs.Blocks.{Block}
use Rattle.task_unroll.specs.declared.refusal.ExpandRefusal.{ExpandRefusal}
use Rattle.task_unroll.specs.Unrolling.{◌>>=◌}
use Rattle.task_unroll.specs.Ranks.{Ranks, more_ranks, first_rank}

-- rank 0 of so many, and so many ranks more
unfoldable pub ranks_up_to : Block → ℕ → ℕ → Result Ranks ExpandRefusal
ranks_up_to whole size more = first_rank whole size >>= more_ranks whole more
