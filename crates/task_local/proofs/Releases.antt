-- What a release takes by handles that store no cells: their statuses alone.
use Rattle.std.proofs.Common.{◌≡◌, ℕ, List, [], ◌∷◌, Option, Some, None, refl, ap, ◌∙◌}
use Rattle.std.specs.Prelude.{ℤ, All, slice_get, filter}
use Rattle.std.proofs.lemmas.List.Elements.{All-head, All-tail}
use Rattle.rt_base.specs.declared.data.Span.{Span}
use Rattle.rt_base.specs.declared.data.Handle.{Handle}
use Rattle.rt_base.specs.declared.data.Handle.TheVariants as handle
use Rattle.rt_base.specs.declared.data.Op.{Op}
use Rattle.rt_base.specs.declared.data.Op.TheVariants as op
use Rattle.rt_base.specs.declared.data.TaskDef.{TaskDef}
use Rattle.rt_base.specs.declared.data.Program.{Program}
use Rattle.rt_base.specs.Operations.{request, is_posting}
use Rattle.rt_base.specs.Exchange.{Exchange}
use Rattle.task_local.specs.Waits.{status_of, put_at_posting, stored_by_handle, put_status, put_statuses, behind_status, statuses_of, taken_by_handles}
use Rattle.task_local.specs.Laws.{StoresNoCells}

-- no cells stored where an operation is a posting change nothing, and so it is where it is none
nothing_put : (task : TaskDef) (operation : Option Op) (copy : List ℤ) → put_at_posting task operation [] copy ≡ copy
nothing_put task None copy = refl
nothing_put task (Some (op.Compute kernel dst left right value step)) copy = refl
nothing_put task (Some (op.Post how span peer tag comm status)) copy = refl
nothing_put task (Some (op.Await later handles status)) copy = refl

nothing_stored : (p : Program) (x : Exchange) (t : ℕ) (task : TaskDef) (named : Handle) (copy : List ℤ) → StoresNoCells p x t named
    → stored_by_handle p x t task named copy ≡ copy
nothing_stored p x t task handle.Null copy none = refl
nothing_stored p x t task (handle.Nth n) copy none =
    ap (λ cells. put_at_posting task (slice_get (filter is_posting task.body.items) n) cells copy) none
    ∙ nothing_put task (slice_get (filter is_posting task.body.items) n) copy

pub statuses_alone : (p : Program) (x : Exchange) (t : ℕ) (task : TaskDef) (span : Option Span) (handles : List Handle) (copy : List ℤ)
    → All (StoresNoCells p x t) handles → taken_by_handles p x t task span handles copy ≡ put_statuses task span (statuses_of p x t handles) copy
statuses_alone p x t task None [] copy none = refl
statuses_alone p x t task (Some span) [] copy none = refl
statuses_alone p x t task None (named ∷ handles) copy none =
    ap (λ cells. taken_by_handles p x t task None handles cells) (nothing_stored p x t task named copy (All-head (StoresNoCells p x t) named handles none))
    ∙ statuses_alone p x t task None handles copy (All-tail (StoresNoCells p x t) named handles none)
statuses_alone p x t task (Some span) (named ∷ handles) copy none =
    let status = status_of p x t named in
    ap (λ cells. taken_by_handles p x t task (behind_status (Some span)) handles (put_status task (Some span) status cells))
    (nothing_stored p x t task named copy (All-head (StoresNoCells p x t) named handles none))
    ∙ statuses_alone p x t task (behind_status (Some span)) handles (put_status task (Some span) status copy)
    (All-tail (StoresNoCells p x t) named handles none)
