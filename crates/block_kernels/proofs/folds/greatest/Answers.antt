use Rattle.std.proofs.Common.{◌∙◌, ℤ, subst, sym, rules, arith}
use Rattle.std.specs.Int.{int_max}
use Rattle.block_kernels.specs.Kernels.{cell, IsGreatest}
use Rattle.block_kernels.proofs.Extremes.{greatest_of_is}
use Rattle.block_kernels.proofs.Groups.{both_parts, greatest_is}
use Rattle.block_kernels.proofs.folds.greatest.Goals as goal

pub returns-clause-value : goal.returns-clause-value
returns-clause-value c =
    let left = c.args.left.now in
    both_parts int_max (cell left 0) c.greatest_from.result c.greatest_from-2.result left c.greatest_by_lanes-lanes.result _
    (search rules) (search rules) (search rules) (omega arith)
    c.greatest_by_lanes-lanes.ensures c.greatest_from.ensures c.greatest_from-2.ensures
    ∙ greatest_is left c.requires

pub returns-clause-greatest : goal.returns-clause-greatest
returns-clause-greatest c =
    subst (λ (number : ℤ). IsGreatest c.args.left.now number) (sym (returns-clause-value c)) (greatest_of_is c.args.left.now c.requires)
