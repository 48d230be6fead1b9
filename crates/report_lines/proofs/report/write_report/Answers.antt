use Rattle.std.proofs.Common.{ap}
use Rattle.report_lines.specs.Writing.{Waiting}
use Rattle.report_lines.proofs.Putting.{puts_both, puts_same}
use Rattle.report_lines.proofs.Handing.{written_whole}
use Rattle.report_lines.proofs.Texts.{reported}
use Rattle.report_lines.proofs.report.write_report.Goals as goal

pub returns : goal.returns
returns g c =
    let same = reported c.args.program.now c.args.workers c.args.history.now.entries.items c.args.history.now.statuses.items c.args.trace
    c.args.cells.now c.args.phases.now c.requires.cells c.requires.phases in
    let both = written_whole _ _ _ _ c.new-buffer.result _ _ _ (ap (λ (one : Waiting). one.pending) c.new-buffer.ensures)
    (ap (λ (one : Waiting). one.failed) c.new-buffer.ensures)
    (puts_same (puts_both c.put_end.ensures c.put_asked.ensures) _ same) c.finish.ensures in
    record { bytes = both.0; cause = both.1 }
