use Rattle.std.proofs.Common.{arith}
use Rattle.report_lines.specs.Report.{rank_lines}
use Rattle.report_lines.proofs.Putting.{far_more, far_all}
use Rattle.report_lines.proofs.Texts.{ranks_at, no_rank}
use Rattle.report_lines.proofs.report.put_ranks.Goals as goal

pub loop-rank-preserved : goal.loop-rank-preserved
loop-rank-preserved g c =
    far_more c.loop-rank.invariant c.put_rank.ensures _
    (ranks_at (rank_lines c.args.program.now c.args.memory.now) c.loop-rank.rank c.args.program.now.ranks (omega arith))

pub returns : goal.returns
returns g c =
    far_all c.loop-rank.invariant
    (no_rank (rank_lines c.args.program.now c.args.memory.now) c.loop-rank.rank c.args.program.now.ranks (omega arith))
