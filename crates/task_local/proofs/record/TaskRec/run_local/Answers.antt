use Rattle.std.proofs.Common.{◌≡◌, ℤ, List, ◌++◌, ◌<◌, take, drop, subst, sym, ap, ◌∙◌, length, take_at, arith}
use Rattle.rt_base.specs.declared.data.TaskDef.{TaskDef}
use Rattle.task_local.specs.Local.{run_front}
use Rattle.task_local.specs.Kept.{IsPhaseOf, IsScratchOf}
use Rattle.task_local.specs.StandsFor.{Record}
use Rattle.task_local.specs.Standing.{def, moved_on}
use Rattle.task_local.proofs.Programs.{record_can_run, few_operations, stop_is_phase, one_task, def_is, moved_on_is}
use Rattle.task_local.proofs.record.TaskRec.run_local.Goals as goal

pub run_from-self-inside-requires-clause-few : goal.run_from-self-inside-requires-clause-few
run_from-self-inside-requires-clause-few c =
    omega (arith, few_operations c.args.prog.now c.self.inside.task.0 c.task_def-def.result.now c.requires.well_formed c.task_def-def.ensures)

pub run_from-self-inside-requires-clause-can : goal.run_from-self-inside-requires-clause-can
run_from-self-inside-requires-clause-can c =
    let same = rw (← c.self.view_is) at c.requires.same in
    rw (c.deref_mut.ensures.value, c.deref_mut-in-At.ensures.value)
    (record_can_run c.args.prog.now c.self.inside.program.value c.self.inside.task.0 c.task_def-def.result.now c.self.invariant.task c.self.inside.regions _ _
    c.requires.well_formed same c.task_def-def.ensures c.self.invariant.is_task c.self.invariant.ordered_regions c.self.invariant.cells
    c.self.invariant.room.enough)

pub invariant_of-self : goal.invariant_of-self
invariant_of-self c =
    let same = rw (← c.self.view_is) at c.requires.same in
    let def = c.task_def-def.result.now in
    let task = c.self.invariant.task in
    let one = one_task c.args.prog.now c.self.inside.program.value c.self.inside.task.0 def task same c.task_def-def.ensures c.self.invariant.is_task in
    let operations : length def.body.items ≡ length task.body.items = ap (λ (d : TaskDef). length d.body.items) one in
    let within : c.in-At.k < length task.body.items = subst (IsPhaseOf task) c.in-At.is c.self.invariant.place in
    let ran = c.run_from-self-inside in
    let copy = take_at ran.new.copy (drop (length ran.new.copy) c.self.inside.copy.items) c.self.inside.copy.len (ran.auto.copy ∙ c.deref_mut.ensures.len) in
    let scratch = take_at ran.new.scratch (drop (length ran.new.scratch) c.self.inside.scratch.items) c.self.inside.scratch.len (ran.auto.scratch
    ∙ c.deref_mut-in-At.ensures.len) in
    record {
      task = task;
      is_task = c.self.invariant.is_task;
      place = subst (λ (d : TaskDef). IsPhaseOf d ran.result) one (rw ran.ensures.phase (stop_is_phase def c.in-At.k (omega arith)));
      ordered_regions = c.self.invariant.ordered_regions;
      cells = ap length copy ∙ ran.auto.copy ∙ ap length c.deref_mut.ensures.value ∙ c.self.invariant.cells;
      room = subst (IsScratchOf c.self.inside.regions task.body.items)
          (sym (ap length scratch ∙ ran.auto.scratch ∙ ap length c.deref_mut-in-At.ensures.value)) c.self.invariant.room;
    }

pub returns-in-At : goal.returns-in-At
returns-in-At c =
    let same = rw (← c.self.view_is) at c.requires.same in
    let inside = c.self.inside in
    let ran = c.run_from-self-inside in
    let copied : List ℤ = take inside.copy.len (ran.new.copy ++ drop (length ran.new.copy) inside.copy.items) in
    let copy : copied ≡ ran.new.copy = take_at ran.new.copy (drop (length ran.new.copy) inside.copy.items) inside.copy.len (ran.auto.copy
    ∙ c.deref_mut.ensures.len) in
    let held : Record = record { program = inside.program.value; task = inside.task.0; phase = inside.phase; copy = inside.copy.items } in
    let after : Record = record { program = inside.program.value; task = inside.task.0; phase = ran.result; copy = copied } in
    let front = λ (cells : List ℤ). run_front c.task_def-def.result.now (drop c.in-At.k c.task_def-def.result.now.body.items) cells in
    subst (λ (h : Record). after ≡ moved_on (def h) h.phase h) c.self.view_is
    (moved_on_is held c.task_def-def.result.now c.in-At.k ran.result copied c.in-At.is
    (def_is c.args.prog.now inside.program.value inside.task.0 c.task_def-def.result.now same c.task_def-def.ensures)
    ran.ensures.phase (copy ∙ ran.ensures.copy ∙ ap front c.deref_mut.ensures.value))
