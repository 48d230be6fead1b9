use Rattle.std.proofs.Common.{arith}
use Rattle.report_lines.proofs.Putting.{far_more, drop_at}
use Rattle.report_lines.proofs.buffer.put_bytes.Goals as goal

pub loop-byte-preserved : goal.loop-byte-preserved
loop-byte-preserved g c =
    far_more c.loop-byte.invariant c.put_byte.ensures _ (drop_at c.args.bytes.now c.loop-byte.byte-index 0 (omega arith))
