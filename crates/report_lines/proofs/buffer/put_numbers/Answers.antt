use Rattle.std.proofs.Common.{◌+◌, arith, drop}
use Rattle.std.proofs.lemmas.Grind.{common_steps}
use Rattle.report_lines.specs.Lines.{numbers_text}
use Rattle.report_lines.proofs.Putting.{far_more}
use Rattle.report_lines.proofs.buffer.put_numbers.Goals as goal

pub loop-number-preserved : goal.loop-number-preserved
loop-number-preserved g c =
    far_more c.loop-number.invariant c.put_number.ensures (numbers_text (drop (c.loop-number.number-index + 1) c.args.numbers.now))
    (grind (arith, common_steps))
