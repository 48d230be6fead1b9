use Rattle.std.proofs.Common.{◌≡◌, false, take, map, replicate, vec_items}
use Rattle.rt_base.specs.declared.data.TaskDef.{TaskDef}
use Rattle.rt_base.specs.Operations.{postings}
use Rattle.wait_steps.proofs.marks.Marks.build.Given as goal

-- the rows of the tasks so far
abbrev pub invariant-loop-task : goal.invariant-loop-task
invariant-loop-task l = map vec_items l.rows.items ≡ map (λ (task : TaskDef). replicate (postings task.body.items) false) (take l.task-index l.prog.tasks.items)
