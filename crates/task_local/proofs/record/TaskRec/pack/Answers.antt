use Rattle.std.proofs.Common.{◌≡◌, ℤ, subst, ap, ◌∙◌}
use Rattle.std.proofs.lemmas.Result.{IfOk-weaker}
use Rattle.rt_base.specs.Listing.{Listing}
use Rattle.task_local.specs.Kept.{sent_in}
use Rattle.task_local.specs.StandsFor.{Record}
use Rattle.task_local.specs.Standing.{def, packed_next}
use Rattle.task_local.proofs.Programs.{record_sends, packed_is, one_task, def_is}
use Rattle.task_local.proofs.record.TaskRec.pack.Goals as goal

pub sent_cells-requires : goal.sent_cells-requires
sent_cells-requires c =
    let same = rw (← c.self.view_is) at c.requires.same in
    rw c.deref.ensures.value
    (record {
      fits = record_sends c.args.prog.now c.self.inside.program.value c.self.inside.task.0 c.task_def-def.result.now c.self.invariant.task
          c.self.inside.regions _
          c.in-At.k c.operation.result.now c.requires.well_formed same c.task_def-def.ensures c.self.invariant.is_task c.self.invariant.ordered_regions
          c.self.invariant.cells c.operation.ensures;
    })

pub returns-in-At : goal.returns-in-At
returns-in-At c =
    let same = rw (← c.self.view_is) at c.requires.same in
    let inside = c.self.inside in
    let found = c.task_def-def.result.now in
    let held : Record = record { program = inside.program.value; task = inside.task.0; phase = inside.phase; copy = inside.copy.items } in
    let sent : c.sent_cells.result.now ≡ sent_in inside.regions inside.copy.items c.operation.result.now =
    c.sent_cells.ensures ∙ ap (λ copy. sent_in inside.regions copy c.operation.result.now) c.deref.ensures.value in
    IfOk-weaker c.listed.result (λ (cells : Listing ℤ). cells.items ≡ c.sent_cells.result.now)
    (λ (cells : Listing ℤ). cells.items ≡ packed_next (def c.args.self.now) c.args.self.now.phase c.args.self.now.copy)
    (λ cells is_sent. subst (λ (h : Record). cells.items ≡ packed_next (def h) h.phase h.copy) c.self.view_is
    (packed_is held found c.self.invariant.task inside.regions c.in-At.k c.operation.result.now cells.items c.in-At.is
    (def_is c.args.prog.now inside.program.value inside.task.0 found same c.task_def-def.ensures)
    (one_task c.args.prog.now inside.program.value inside.task.0 found c.self.invariant.task same c.task_def-def.ensures c.self.invariant.is_task)
    c.self.invariant.ordered_regions c.operation.ensures (is_sent ∙ sent)))
    c.listed.ensures
