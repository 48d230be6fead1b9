use Rattle.std.proofs.Common.{drop}
use Rattle.report_lines.specs.Writing.{output}
use Rattle.report_lines.proofs.Putting.{PutSoFar}
use Rattle.report_lines.proofs.buffer.put_bytes.Given as goal

-- the bytes so far are put
abbrev pub invariant-loop-byte : goal.invariant-loop-byte
invariant-loop-byte g l =
    PutSoFar (output (g.K.ByteSink.written l.fn.out) (g.K.ByteSink.faults l.fn.out) l.fn.buffer)
    (output (g.K.ByteSink.written l.out) (g.K.ByteSink.faults l.out) l.buffer) (drop l.byte-index l.bytes) l.bytes
