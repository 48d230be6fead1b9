use Rattle.std.proofs.Common.{rules}
use Rattle.report_lines.proofs.Putting.{puts_both, puts_same}
use Rattle.report_lines.proofs.buffer.put_number.Goals as goal

pub returns : goal.returns
returns g c = puts_same (puts_both c.put.ensures c.put-2.ensures) _ (search (c.format.ensures.text, rules))
