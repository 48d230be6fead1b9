use Rattle.report_lines.proofs.Putting.{puts_both, puts_same}
use Rattle.report_lines.proofs.Texts.{traced}
use Rattle.report_lines.proofs.trace.put_trace.Goals as goal

pub returns : goal.returns
returns g c =
    puts_same (puts_both c.put_header.ensures c.put_lines.ensures) _
    (traced c.args.program.now c.args.workers c.args.history.now.entries.items c.as_slice.result.now c.args.history.now.statuses.items
    c.as_slice-2.result.now c.as_slice.ensures c.as_slice-2.ensures)
