use Rattle.std.proofs.Common.{arith, rules}
use Rattle.std.proofs.lemmas.Int.{wraps}
use Rattle.block_kernels.proofs.Loops.{written_more, written_all}
use Rattle.block_kernels.proofs.lanes.shift.Goals as goal

pub loop-i-preserved : goal.loop-i-preserved
loop-i-preserved c = written_more _ _ _ _ _ (omega arith) (omega arith) c.loop-i.invariant (search (rules, wraps))

pub returns : goal.returns
returns c = written_all _ _ _ _ (omega arith) (omega arith) c.loop-i.invariant
