use Rattle.std.proofs.Common.{◌≡◌, List, subst, ap, ◌∙◌, arith}
use Rattle.rt_base.specs.declared.data.Op.{Op}
use Rattle.task_local.specs.Regions.{regions}
use Rattle.task_local.specs.Kept.{cell_total, IsScratchOf}
use Rattle.task_local.proofs.Places.{cells_among, cell_total-regions}
use Rattle.task_local.proofs.Programs.{task_is, filled_low, few_cells, few_accesses}
use Rattle.task_local.proofs.record.TaskRec.make.Goals as goal

pub make-requires-clause-low : goal.make-requires-clause-low
make-requires-clause-low c =
    let def = c.task_def-def.result.now in
    rw c.as_slice.ensures (filled_low c.args.prog.now def c.requires.well_formed
    (task_is c.args.prog.now c.args.task.0 def c.requires.well_formed c.task_def-def.ensures))

pub make-requires-clause-apart : goal.make-requires-clause-apart
make-requires-clause-apart c =
    let def = c.task_def-def.result.now in
    rw c.as_slice.ensures (task_is c.args.prog.now c.args.task.0 def c.requires.well_formed c.task_def-def.ensures).apart

pub make-requires-clause-total : goal.make-requires-clause-total
make-requires-clause-total c =
    let few = few_cells c.args.prog.now c.args.task.0 c.task_def-def.result.now c.requires.well_formed c.task_def-def.ensures in
    rw c.as_slice.ensures (omega arith)

pub make-requires-clause-few : goal.make-requires-clause-few
make-requires-clause-few c =
    let few = few_accesses c.args.prog.now c.args.task.0 c.task_def-def.result.now c.requires.well_formed c.task_def-def.ensures in
    rw c.as_slice.ensures (omega arith)

pub invariant_of-result : goal.invariant_of-result
invariant_of-result c =
    let def = c.task_def-def.result.now in
    let regions_are : c.in_ok-regions.regions ≡ regions def.accesses.items = c.in_ok-regions.ensures ∙ ap regions c.as_slice.ensures in
    let cells : cell_total c.in_ok-regions.regions ≡ cells_among def.accesses.items = ap cell_total regions_are ∙ cell_total-regions def.accesses.items in
    let made = c.in_ok-copy.ensures in
    let scratch = c.in_ok-scratch.ensures in
    let room = subst (λ (ops : List Op). IsScratchOf c.in_ok-regions.regions ops c.longest_scratch.result) c.as_slice-2.ensures c.longest_scratch.ensures in
    record {
      task = def;
      is_task = rw c.of.ensures c.task_def-def.ensures;
      place = tt;
      ordered_regions = regions_are;
      cells = omega (arith, made.len, c.in_ok-copy.copy.ok.0);
      room = subst (IsScratchOf c.in_ok-regions.regions def.body.items) (omega (arith, scratch.len, c.in_ok-scratch.scratch.ok.0)) room;
    }
