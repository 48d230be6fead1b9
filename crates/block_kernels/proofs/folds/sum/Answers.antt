use Rattle.std.proofs.Common.{pos, ◌∙◌, rules, arith}
use Rattle.block_kernels.specs.Lanes.{wrapped_sum}
use Rattle.block_kernels.proofs.Groups.{both_parts, total_is}
use Rattle.block_kernels.proofs.folds.sum.Goals as goal

pub returns : goal.returns
returns c =
    both_parts wrapped_sum (pos 0) c.sum_from.result c.sum_from-2.result c.args.left.now c.sum_by_lanes-lanes.result _
    (search rules) (search rules) (search rules) (omega arith)
    c.sum_by_lanes-lanes.ensures c.sum_from.ensures c.sum_from-2.ensures
    ∙ total_is c.args.left.now
