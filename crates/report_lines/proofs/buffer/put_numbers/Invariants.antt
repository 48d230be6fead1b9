use Rattle.std.proofs.Common.{drop}
use Rattle.report_lines.specs.Lines.{numbers_text}
use Rattle.report_lines.specs.Writing.{output}
use Rattle.report_lines.proofs.Putting.{PutSoFar}
use Rattle.report_lines.proofs.buffer.put_numbers.Given as goal

-- the numbers so far are put
abbrev pub invariant-loop-number : goal.invariant-loop-number
invariant-loop-number g l =
    PutSoFar (output (g.K.ByteSink.written l.fn.out) (g.K.ByteSink.faults l.fn.out) l.fn.buffer)
    (output (g.K.ByteSink.written l.out) (g.K.ByteSink.faults l.out) l.buffer) (numbers_text (drop l.number-index l.numbers)) (numbers_text l.numbers)
