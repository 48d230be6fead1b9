use Rattle.std.proofs.Common.{arith, rules}
use Rattle.std.proofs.lemmas.List.{take_all}
use Rattle.std.proofs.lemmas.Int.{wraps, to_z-of_z}
use Rattle.std.proofs.lemmas.List.Sums.{fold_more}
use Rattle.block_kernels.proofs.folds.sum_from.Goals as goal

pub loop-i-preserved : goal.loop-i-preserved
loop-i-preserved c = search (rules, wraps, fold_more)

pub returns : goal.returns
returns c =
    let first_fits = c.ranges.first in
    grind (arith, to_z-of_z, take_all)
