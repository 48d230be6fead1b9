-- What a move leaves open, and which requests a task is still to be told of.
use Rattle.std.specs.Prelude.{◌≡◌, ℕ, nat_lt, Bool, true, false, List, [], ◌∷◌, length, slice_get, Option, Some, None, ◌⊎◌, if◌then◌else◌}
use Rattle.std.specs.List.{list_any}
use Rattle.rt_base.specs.declared.data.ReqNo.{ReqNo}
use Rattle.rt_base.specs.declared.data.Phase.{Phase}
use Rattle.rt_base.specs.declared.data.Phase.TheVariants as phase
use Rattle.rt_base.specs.declared.data.Op.{Op}
use Rattle.rt_base.specs.declared.data.Entry.{Entry}
use Rattle.rt_base.specs.declared.data.TaskDef.{TaskDef}
use Rattle.rt_base.specs.declared.data.Program.{Program}
use Rattle.rt_base.specs.Operations.{request, blocks, nth_at, named_requests, by_parts_of}
use Rattle.rt_base.specs.Matching.{same_request}
use Rattle.rt_base.specs.Exchange.{post}
use Rattle.rt_base.specs.Completion.{is_complete}
use Rattle.rt_base.specs.State.{State, Task, opening}
use Rattle.task_local.specs.Packed.{packed}
use Rattle.task_machine.specs.Machine.{is_expected, open_ones, step}
use Rattle.task_machine.specs.Legal.{callers}

-- a posting opens its own request, where it blocks and the request is incomplete after it
abbrev pub opened_by_posting : Program → State → ℕ → TaskDef → Task → ℕ → Bool → List ReqNo
opened_by_posting program state t def task k false = []
opened_by_posting program state t def task k true =
    let req = request t (nth_at def k) in
    open_ones program (post program state.exchange req (packed def k task.copy)) (req ∷ [])

-- the call of an operation opens what it then waits for, or binds: a wait, what it names and is incomplete (MPI 4.0, 3.7.3 and 3.7.5; TAMPI, TAMPI_Iwait)
abbrev pub opened_by : Program → State → ℕ → TaskDef → Task → ℕ → Option Op → List ReqNo
opened_by program state t def task k operation =
    by_parts_of [] (λ posted. opened_by_posting program state t def task k (blocks posted.how))
    (λ waited. open_ones program state.exchange (named_requests t waited.handles)) operation

-- what the move of a task opens that stands there: only a call opens anything
abbrev pub opened_at : Program → State → ℕ → TaskDef → Task → Phase → List ReqNo
opened_at program state t def task phase.Waiting = []
opened_at program state t def task (phase.At k) = opened_by program state t def task k (slice_get def.body.items k)
opened_at program state t def task (phase.In k) = []
opened_at program state t def task phase.Ended = []
opened_at program state t def task phase.Returned = []
opened_at program state t def task phase.Released = []

-- what the move of a task opens; another opens nothing
abbrev pub opened_of : Program → State → ℕ → Option TaskDef → Option Task → List ReqNo
opened_of program state t None task = []
opened_of program state t (Some def) None = []
opened_of program state t (Some def) (Some task) = opened_at program state t def task task.phase

-- the requests that the move of task t opens: incomplete after it, and awaited or bound by the task from then on
unfoldable pub opened : Program → State → ℕ → List ReqNo
opened program state t = opened_of program state t (slice_get program.tasks.items t) (slice_get state.tasks t)

-- what the last move opened, once this caller has made its step: a poll is no move, and leaves it (TAMPI, completion by polling)
abbrev pub opened_by_step : Program → State → ℕ → List ReqNo → List ReqNo
opened_by_step program state caller before = if nat_lt caller (length program.tasks.items) then opened program state caller else before

-- what the last move of a run opened, and what the last move before the run opened where the run has none
abbrev pub opened_after : Program → State → List ReqNo → List ℕ → List ReqNo
opened_after program state before [] = before
opened_after program state before (caller ∷ callers) =
    opened_after program (step program state caller).state (opened_by_step program state caller before) callers

-- the requests that the last move of a history opened, none before the first one (this project's)
unfoldable pub last_opened : Program → List Entry → List ReqNo
last_opened program entries = opened_after program (opening program) [] (callers program entries)

-- the request is one of these
abbrev pub IsOneOf : ReqNo → List ReqNo → Type 0
IsOneOf req reqs = list_any (same_request req) reqs ≡ true

-- a task is still to be told of the request: it is incomplete and expected, or its notice stands (TAMPI, completion by polling)
abbrev pub IsOwed : Program → State → ReqNo → Type 0
IsOwed program state req = ((is_complete program state.exchange req ≡ false) × (is_expected program state.tasks req ≡ true)) ⊎ IsOneOf req state.notices
