use Rattle.std.proofs.Common.{arith}
use Rattle.std.proofs.lemmas.List.{take_all}
use Rattle.std.proofs.lemmas.Int.{to_z-of_z}
use Rattle.std.proofs.lemmas.List.Sums.{fold_more}
use Rattle.block_kernels.proofs.folds.least_from.Goals as goal

pub loop-i-preserved : goal.loop-i-preserved
loop-i-preserved c = grind (arith, to_z-of_z, fold_more)

pub returns : goal.returns
returns c =
    let first_fits = c.ranges.first in
    grind (arith, to_z-of_z, take_all)
