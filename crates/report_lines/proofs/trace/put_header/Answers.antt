use Rattle.report_lines.proofs.Putting.{puts_both}
use Rattle.report_lines.proofs.trace.put_header.Goals as goal

pub returns : goal.returns
returns g c = puts_both (puts_both c.put.ensures c.put_header_numbers.ensures) c.put_byte.ensures
