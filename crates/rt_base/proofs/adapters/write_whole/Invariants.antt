use Rattle.std.proofs.Common.{length}
use Rattle.rt_base.proofs.WriteLemmas.{Sent}
use Rattle.rt_base.proofs.adapters.write_whole.Given as goal

abbrev pub invariant-loop-left : goal.invariant-loop-left
invariant-loop-left g l = Sent (g.W.Write.contents l.fn.writer) (g.W.Write.contents l.writer) l.buf l.left

abbrev pub decreases-loop-left : goal.decreases-loop-left
decreases-loop-left g l = length l.left
