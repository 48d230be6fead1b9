use Rattle.std.proofs.Common.{◌∙◌, ℤ, subst, sym, rules, arith}
use Rattle.std.specs.Int.{int_min}
use Rattle.block_kernels.specs.Kernels.{cell, IsLeast}
use Rattle.block_kernels.proofs.Extremes.{least_of_is}
use Rattle.block_kernels.proofs.Groups.{both_parts, least_is}
use Rattle.block_kernels.proofs.folds.least.Goals as goal

pub returns-clause-value : goal.returns-clause-value
returns-clause-value c =
    let left = c.args.left.now in
    both_parts int_min (cell left 0) c.least_from.result c.least_from-2.result left c.least_by_lanes-lanes.result _
    (search rules) (search rules) (search rules) (omega arith)
    c.least_by_lanes-lanes.ensures c.least_from.ensures c.least_from-2.ensures
    ∙ least_is left c.requires

pub returns-clause-least : goal.returns-clause-least
returns-clause-least c =
    subst (λ (number : ℤ). IsLeast c.args.left.now number) (sym (returns-clause-value c)) (least_of_is c.args.left.now c.requires)
