-- What the end of a wait does to a task's copy: received cells and statuses are stored, and statuses are told.
use Rattle.std.specs.Prelude.{ℕ, ◌+◌, List, [], ◌∷◌, filter, slice_get, ℤ, pos, Option, Some, None, if◌then◌else◌}
use Rattle.std.specs.List.{flat_map}
use Rattle.rt_base.specs.declared.data.Span.{Span}
use Rattle.rt_base.specs.declared.data.Status.{Status}
use Rattle.rt_base.specs.declared.data.Handle.{Handle}
use Rattle.rt_base.specs.declared.data.Handle.TheVariants as handle
use Rattle.rt_base.specs.declared.data.Op.{Op}
use Rattle.rt_base.specs.declared.data.TaskDef.{TaskDef}
use Rattle.rt_base.specs.declared.data.Program.{Program}
use Rattle.rt_base.specs.Operations.{request, is_posting, is_receive, nth_at, by_parts_of}
use Rattle.rt_base.specs.Exchange.{Exchange}
use Rattle.rt_base.specs.Completion.{empty_status, request_status, request_cells}
use Rattle.task_local.specs.Regions.{put}

-- a status as cells: source, tag, count, error (MPI 4.0, 3.2.5; four cells in this order are this project's)
abbrev pub status_cells : Status → List ℤ
status_cells status = status.source ∷ status.tag ∷ pos status.count ∷ pos status.error ∷ []

-- the status of what a handle names; that of the null request is the empty one (MPI 4.0, 3.7.3)
abbrev pub status_of : Program → Exchange → ℕ → Handle → Status
status_of program exchange t handle.Null = empty_status
status_of program exchange t (handle.Nth n) = request_status program exchange (request t n)

-- the copy with cells at the front of an operation's span, where it is a posting
abbrev pub put_at_posting : TaskDef → Option Op → List ℤ → List ℤ → List ℤ
put_at_posting task operation cells copy = by_parts_of copy (λ posted. put task posted.span cells copy) (λ waited. copy) operation

-- the copy after what a handle's request received is stored at the front of its span (MPI 4.0, 3.2.4)
abbrev pub stored_by_handle : Program → Exchange → ℕ → TaskDef → Handle → List ℤ → List ℤ
stored_by_handle program exchange t task handle.Null copy = copy
stored_by_handle program exchange t task (handle.Nth n) copy =
    put_at_posting task (slice_get (filter is_posting task.body.items) n) (request_cells program exchange (request t n)) copy

-- the same for each of these handles in order
abbrev pub stored_by_handles : Program → Exchange → ℕ → TaskDef → List Handle → List ℤ → List ℤ
stored_by_handles program exchange t task [] copy = copy
stored_by_handles program exchange t task (named ∷ handles) copy =
    stored_by_handles program exchange t task handles (stored_by_handle program exchange t task named copy)

-- the span behind the four cells of its first status, where there is one (this project's)
abbrev pub behind_status : Option Span → Option Span
behind_status None = None
behind_status (Some span) = Some (record span { from = span.from + 4 })

-- the copy with a status at the front of a status span, where there is one
abbrev pub put_status : TaskDef → Option Span → Status → List ℤ → List ℤ
put_status task None status copy = copy
put_status task (Some span) status copy = put task span (status_cells status) copy

-- the copy with statuses in a status span, where there is one, one behind another
abbrev pub put_statuses : TaskDef → Option Span → List Status → List ℤ → List ℤ
put_statuses task None statuses copy = copy
put_statuses task (Some span) [] copy = copy
put_statuses task (Some span) (status ∷ statuses) copy =
    put_statuses task (behind_status (Some span)) statuses (put_status task (Some span) status copy)

-- the handles for which an operation waits; a posting that blocks waits for its own request, here the nth
abbrev pub handles_of : ℕ → Option Op → List Handle
handles_of n operation = by_parts_of [] (λ posted. handle.Nth n ∷ []) (λ waited. waited.handles) operation

-- the status span of an operation, where it has one
abbrev pub status_span_of : Option Op → Option Span
status_span_of operation = by_parts_of None (λ posted. posted.status) (λ waited. waited.status) operation

-- the statuses of these handles in order
abbrev pub statuses_of : Program → Exchange → ℕ → List Handle → List Status
statuses_of program exchange t [] = []
statuses_of program exchange t (named ∷ handles) = status_of program exchange t named ∷ statuses_of program exchange t handles

-- the statuses that an operation tells at its end: none for a send, one for a receive, and one for each handle of a wait
abbrev pub told_by : Program → Exchange → ℕ → ℕ → Option Op → List Status
told_by program exchange t n operation =
    by_parts_of [] (λ posted. if is_receive posted.how then status_of program exchange t (handle.Nth n) ∷ [] else [])
    (λ waited. statuses_of program exchange t waited.handles) operation

-- the statuses that operation k of task t tells at its end
unfoldable pub told : Program → Exchange → ℕ → TaskDef → ℕ → List Status
told program exchange t task k = told_by program exchange t (nth_at task k) (slice_get task.body.items k)

-- the copy after operation k of task t has stored what it received, and then its statuses
unfoldable pub taken : Program → Exchange → ℕ → TaskDef → ℕ → List ℤ → List ℤ
taken program exchange t task k copy =
    put_statuses task (status_span_of (slice_get task.body.items k)) (told program exchange t task k)
    (stored_by_handles program exchange t task (handles_of (nth_at task k) (slice_get task.body.items k)) copy)

-- the copy after what a handle's request received is stored, and then its status at the front of a status span, where there is one
abbrev pub taken_by_handle : Program → Exchange → ℕ → TaskDef → Option Span → Handle → List ℤ → List ℤ
taken_by_handle program exchange t task span named copy =
    put_status task span (status_of program exchange t named) (stored_by_handle program exchange t task named copy)

-- the same for each of these handles in order: the cells and the status of one before those of the next, the statuses one behind another
abbrev pub taken_by_handles : Program → Exchange → ℕ → TaskDef → Option Span → List Handle → List ℤ → List ℤ
taken_by_handles program exchange t task span [] copy = copy
taken_by_handles program exchange t task span (named ∷ handles) copy =
    taken_by_handles program exchange t task (behind_status span) handles (taken_by_handle program exchange t task span named copy)

-- the copy after the release of task t has stored what the handles of operation k, which didn't wait for them, name: handle by handle
-- (TAMPI, TAMPI_Iwait and TAMPI_Iwaitall; the order is this project's)
unfoldable pub taken_later : Program → Exchange → ℕ → TaskDef → ℕ → List ℤ → List ℤ
taken_later program exchange t task k copy =
    taken_by_handles program exchange t task (status_span_of (slice_get task.body.items k)) (handles_of (nth_at task k) (slice_get task.body.items k)) copy

-- the same for each of these operations in order, the first one first: all that the release of task t stores in its copy
abbrev pub taken_at_release : Program → Exchange → ℕ → TaskDef → List ℕ → List ℤ → List ℤ
taken_at_release program exchange t task [] copy = copy
taken_at_release program exchange t task (k ∷ named) copy =
    taken_at_release program exchange t task named (taken_later program exchange t task k copy)

-- the statuses that the release tells: those of these operations, in the same order
abbrev pub told_at_release : Program → Exchange → ℕ → TaskDef → List ℕ → List Status
told_at_release program exchange t task named = flat_map (told program exchange t task) named
