use Rattle.std.proofs.Common.{ap}
use Rattle.std.specs.Fmt.{decimal}
use Rattle.report_lines.proofs.Putting.{puts_both, puts_same}
use Rattle.report_lines.proofs.report.put_task_head.Goals as goal

pub returns : goal.returns
returns g c =
    let rank = puts_same c.put_decimal-2.ensures (decimal c.args.task.now.rank) (ap decimal c.from.ensures) in
    let number = puts_both c.put.ensures c.put_decimal.ensures in
    puts_both (puts_both (puts_both (puts_both (puts_both number c.put-2.ensures) rank) c.put-3.ensures) c.put_decimal-3.ensures) c.put-4.ensures
