use Rattle.std.proofs.Common.{◌≡◌, ℤ, List, ◌++◌, take, drop, length, subst, ap, ◌∙◌, refl, take_at}
use Rattle.rt_base.specs.declared.data.TaskDef.{TaskDef}
use Rattle.rt_base.specs.WellFormed.{IsDeclared}
use Rattle.task_local.specs.Regions.{put, spliced}
use Rattle.task_local.specs.Kept.{place_in}
use Rattle.task_local.specs.StandsFor.{Record}
use Rattle.task_local.specs.Standing.{def}
use Rattle.task_local.proofs.Programs.{record_stores, stored_is, def_is}
use Rattle.task_local.proofs.record.TaskRec.store.Goals as goal

pub put_cells-requires : goal.put_cells-requires
put_cells-requires c =
    let kept = c.self.invariant in
    let p = c.self.inside.program.value in
    let declared = rw (← c.self.view_is) at c.requires.declared in
    let is_def = def_is p p c.self.inside.task.0 kept.task refl kept.is_task in
    rw c.deref_mut.ensures.value
    (record {
      fits = record_stores kept.task c.self.inside.regions _ (length c.args.cells.now) c.args.span kept.ordered_regions kept.cells
          (subst (λ (d : TaskDef). IsDeclared d.accesses.items c.args.span) is_def declared) c.requires.fits;
    })

pub returns : goal.returns
returns c =
    let inside = c.self.inside in
    let kept = c.self.invariant in
    let new = c.put_cells.new.copy in
    let copied : List ℤ = take inside.copy.len (new ++ drop (length new) inside.copy.items) in
    let copy : copied ≡ new = take_at new (drop (length new) inside.copy.items) inside.copy.len (c.put_cells.auto.copy ∙ c.deref_mut.ensures.len) in
    let held : Record = record { program = inside.program.value; task = inside.task.0; phase = inside.phase; copy = inside.copy.items } in
    let cells = ap (λ whole. spliced (place_in inside.regions c.args.span.array c.args.span.from) c.args.cells.now whole) c.deref_mut.ensures.value in
    let after : Record = record { program = inside.program.value; task = inside.task.0; phase = inside.phase; copy = copied } in
    subst (λ (h : Record). after ≡ record h { copy = put (def h) c.args.span c.args.cells.now h.copy }) c.self.view_is
    (stored_is held kept.task inside.regions c.args.span c.args.cells.now copied
    (def_is inside.program.value inside.program.value inside.task.0 kept.task refl kept.is_task) kept.ordered_regions
    (copy ∙ c.put_cells.ensures ∙ cells))
