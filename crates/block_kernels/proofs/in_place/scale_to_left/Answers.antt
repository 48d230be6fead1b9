use Rattle.std.proofs.Common.{arith, rules}
use Rattle.std.proofs.lemmas.Int.{wraps, to_z-of_z}
use Rattle.block_kernels.proofs.Loops.{partly_none, partly_more, written_all}
use Rattle.block_kernels.proofs.in_place.scale_to_left.Goals as goal

pub loop-i-init : goal.loop-i-init
loop-i-init c = partly_none _ _ _

pub loop-i-preserved : goal.loop-i-preserved
loop-i-preserved c =
    let here = c.loop-i.invariant.left c.loop-i.i (omega arith) in
    partly_more _ _ _ _ _ _ (omega arith) (omega arith) c.loop-i.invariant (search (rules, wraps, here))

pub returns : goal.returns
returns c =
    let value_fits = c.ranges.value in
    written_all _ _ _ _ (omega arith) (omega arith) (simp to_z-of_z at c.loop-i.invariant.written)
