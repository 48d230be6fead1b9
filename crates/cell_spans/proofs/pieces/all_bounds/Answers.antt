use Rattle.cell_spans.proofs.CutLemmas.{task_done, task_small}
use Rattle.cell_spans.proofs.pieces.all_bounds.Goals as goal

pub loop-task-preserved : goal.loop-task-preserved
loop-task-preserved c = record {
  bounds = task_done _ _ c.task-item.result _ _ _ c.loop-task-test.true c.task-item.is c.as_slice.ensures c.loop-task.invariant.bounds
      c.in_ok-push_all.ensures.bounds;
  small = task_small _ _ c.task-item.result _ c.loop-task-test.true c.task-item.is c.as_slice.ensures c.loop-task.invariant.small
      c.in_ok-push_all.ensures.rank c.in_ok-push_all.ensures.small;
}
