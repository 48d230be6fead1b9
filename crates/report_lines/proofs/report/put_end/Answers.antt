use Rattle.std.proofs.Common.{sym}
use Rattle.report_lines.proofs.Putting.{puts_both, puts_same}
use Rattle.report_lines.proofs.Texts.{finished_text, stuck_text}
use Rattle.report_lines.proofs.report.put_end.Goals as goal

pub returns-then-all_released : goal.returns-then-all_released
returns-then-all_released g c =
    puts_same (puts_both c.put.ensures c.put_ranks.ensures) _
    (finished_text c.args.program.now c.args.memory.now c.args.phases.now (sym c.if-all_released.ensures))

pub returns-else-all_released : goal.returns-else-all_released
returns-else-all_released g c =
    puts_same (puts_both (puts_both c.put-else-all_released.ensures c.put_ranks-else-all_released.ensures) c.put_tasks.ensures) _
    (stuck_text c.args.program.now c.args.memory.now c.args.phases.now c.as_slice.result.now (sym c.if-all_released.ensures) c.as_slice.ensures)
