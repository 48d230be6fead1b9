use Rattle.std.proofs.Common.{ap}
use Rattle.report_lines.specs.Lines.{line, entry_text}
use Rattle.report_lines.proofs.Putting.{puts_both, puts_same}
use Rattle.report_lines.proofs.trace.put_line.Goals as goal

pub returns : goal.returns
returns g c =
    puts_same (puts_both c.put_entry.ensures c.put_byte.ensures) _ (ap (λ told. line (entry_text c.args.step told)) c.told_by.ensures)
