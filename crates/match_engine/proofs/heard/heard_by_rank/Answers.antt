use Rattle.std.proofs.Common.{subst}
use Rattle.match_engine.specs.Routes.{AreHeard}
use Rattle.match_engine.proofs.Known.{one_rank_heard}
use Rattle.match_engine.proofs.heard.heard_by_rank.Goals as goal

pub loop-rank-preserved : goal.loop-rank-preserved
loop-rank-preserved c =
    one_rank_heard _ _ _ c.loop-rank.rank c.args.slots.now c.in_ok-push.ensures.items
    (subst (AreHeard c.loop-rank.rank _) c.rows.ensures c.in_ok-heard_at.ensures) c.loop-rank.invariant
