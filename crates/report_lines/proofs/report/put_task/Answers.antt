use Rattle.std.proofs.Common.{sym}
use Rattle.report_lines.proofs.Putting.{puts_both, puts_same}
use Rattle.report_lines.proofs.Texts.{not_released}
use Rattle.report_lines.proofs.report.put_task.Goals as goal

pub returns : goal.returns
returns g c =
    let whole = puts_both (puts_both c.put_task_head.ensures c.put_place.ensures) c.put_byte.ensures in
    puts_same whole _ (not_released c.args.number c.args.task.now c.args.at (sym c.if-is_released.ensures))
