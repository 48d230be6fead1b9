use Rattle.task_local.proofs.Programs.{record_lies, record_cells}
use Rattle.task_local.proofs.record.TaskRec.save.Goals as goal

pub save_regions-requires-clause-inside : goal.save_regions-requires-clause-inside
save_regions-requires-clause-inside c =
    let same = rw (← c.self.view_is) at c.requires.same in
    rw c.as_slice.ensures (record_lies c.args.prog.now c.self.inside.program.value c.self.inside.task.0 c.task_def-def.result.now c.self.invariant.task
    c.self.inside.regions
    c.requires.well_formed same c.task_def-def.ensures c.self.invariant.is_task c.self.invariant.ordered_regions)

pub save_regions-requires-clause-copy : goal.save_regions-requires-clause-copy
save_regions-requires-clause-copy c =
    rw (c.as_slice.ensures, c.deref.ensures.value) (record_cells c.self.invariant.task c.self.inside.regions _ c.self.invariant.ordered_regions
    c.self.invariant.cells)
