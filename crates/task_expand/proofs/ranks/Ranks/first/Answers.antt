-- Rank 0 is refused where its unrolling is, or where memory is wanting.
use Rattle.std.proofs.Common.{subst}
use Rattle.task_unroll.specs.Unrolling.{Fails}
use Rattle.task_unroll.specs.States.{State}
use Rattle.task_unroll.specs.Blocks.{unrolled}
use Rattle.task_unroll.specs.Ranks.{first_rank}
use Rattle.task_expand.proofs.RankChain.{first_fails, wants_memory}
use Rattle.task_expand.proofs.ranks.Ranks.first.Goals as goal

pub returns-in_err-to_vec-in-Ok-clause-first : goal.returns-in_err-to_vec-in-Ok-clause-first
returns-in_err-to_vec-in-Ok-clause-first c = λ whole is. wants_memory (λ r. r) c.from_residual.result (first_rank whole c.args.size) c.from_residual.ensures

pub returns-in-Err-clause-first : goal.returns-in-Err-clause-first
returns-in-Err-clause-first c = λ whole is.
    first_fails whole c.args.size c.in-Err.refusal (subst (λ (s : State). Fails c.in-Err.refusal (unrolled whole s)) c.first-last.ensures
    (c.in-Err.ensures whole is))
