-- The machine that has a thread for each task: its moves, and what each of them adds to the history.
use Rattle.std.specs.Prelude.{ℕ, ◌+◌, ◌-◌, ◌<◌, ◌≤◌, nat_lt, Bool, true, false, ◌&&◌, not, ◌⊎◌, List, [], ◌∷◌, ◌++◌, length, slice_get, slice_set}
use Rattle.std.specs.Prelude.{count_by, ℤ, Option, Some, None, option_map, if◌then◌else◌}
use Rattle.std.specs.List.{list_any}
use Rattle.rt_base.specs.declared.data.ReqNo.{ReqNo}
use Rattle.rt_base.specs.declared.data.Phase.{Phase}
use Rattle.rt_base.specs.declared.data.Phase.TheVariants as phase
use Rattle.rt_base.specs.declared.data.Handle.{Handle}
use Rattle.rt_base.specs.declared.data.Op.{Op}
use Rattle.rt_base.specs.declared.data.Entry.{Entry}
use Rattle.rt_base.specs.declared.data.Entry.TheVariants as entry
use Rattle.rt_base.specs.declared.data.TaskDef.{TaskDef}
use Rattle.rt_base.specs.declared.data.Program.{Program}
use Rattle.rt_base.specs.Operations.{task_no, request, blocks, nth_at, named_requests, awaited, by_parts_of}
use Rattle.rt_base.specs.Matching.{same_request}
use Rattle.rt_base.specs.Exchange.{Exchange, post, partner}
use Rattle.rt_base.specs.Completion.{is_complete}
use Rattle.rt_base.specs.State.{State, Task}
use Rattle.rt_base.specs.MayMove.{MayMove}
use Rattle.task_local.specs.Regions.{loaded, saved}
use Rattle.task_local.specs.Local.{advanced, stop}
use Rattle.task_local.specs.Packed.{packed}
use Rattle.task_local.specs.Waits.{taken, told, taken_at_release, told_at_release}

-- the state after a move, and the entry that the move adds to the history
pub record Moved : Type 0 where
  pub state : State
  pub entry : Entry

-- the state with another task at place t
abbrev pub with_task : State → ℕ → Task → State
with_task state t task = record state { tasks = slice_set state.tasks t task }

-- the requests for which a task that stands there waits now
abbrev pub awaited_at : ℕ → Option TaskDef → Option Phase → List ReqNo
awaited_at t None at = []
awaited_at t (Some def) None = []
awaited_at t (Some def) (Some phase.Waiting) = []
awaited_at t (Some def) (Some (phase.At k)) = []
awaited_at t (Some def) (Some (phase.In k)) = awaited t def k
awaited_at t (Some def) (Some phase.Ended) = []
awaited_at t (Some def) (Some phase.Returned) = []
awaited_at t (Some def) (Some phase.Released) = []

-- no requests where there is no list
abbrev pub or_none : Option (List ReqNo) → List ReqNo
or_none None = []
or_none (Some reqs) = reqs

-- the requests of whose completion a task is told: those bound to it, and those that it awaits (TAMPI, TAMPI_Iwait)
abbrev pub listened : Program → ℕ → Option Phase → Option (List ReqNo) → List ReqNo
listened program t at bound = or_none bound ++ awaited_at t (slice_get program.tasks.items t) at

-- the phase of a task
abbrev pub phase_at : List Task → ℕ → Option Phase
phase_at tasks t = option_map (λ (task : Task). task.phase) (slice_get tasks t)

-- the requests that are bound to a task
abbrev pub bound_at : List Task → ℕ → Option (List ReqNo)
bound_at tasks t = option_map (λ (task : Task). task.bound) (slice_get tasks t)

-- the request is bound, or awaited by a task in a blocking operation
unfoldable pub is_expected : Program → List Task → ReqNo → Bool
is_expected program tasks req =
    list_any (same_request req) (listened program req.task.0 (phase_at tasks req.task.0) (bound_at tasks req.task.0))

-- the notice of a request that a posting completed beside its own: it was incomplete before, and is expected
abbrev pub noticed : Program → List Task → Exchange → Option ReqNo → List ReqNo
noticed program tasks before None = []
noticed program tasks before (Some req) = if not (is_complete program before req) && is_expected program tasks req then req ∷ [] else []

-- how many of these requests are incomplete
unfoldable pub open_count : Program → Exchange → List ReqNo → ℕ
open_count program exchange reqs = count_by (λ req. not (is_complete program exchange req)) reqs

-- those of these requests that are incomplete, in order
abbrev pub open_ones : Program → Exchange → List ReqNo → List ReqNo
open_ones program exchange [] = []
open_ones program exchange (req ∷ reqs) =
    if is_complete program exchange req then open_ones program exchange reqs else req ∷ open_ones program exchange reqs

-- a task that can't move stays; no legal run makes such a move
abbrev pub no_move : State → ℕ → Moved
no_move state t = record { state = state; entry = entry.Return (task_no t) }

-- a waiting task starts with a copy of its regions (OmpSs-2, task dependences; the copy is this project's)
abbrev pub start_move : Program → State → ℕ → TaskDef → Task → Moved
start_move program state t def task = record {
  state = with_task state t (record task { phase = stop def 0; copy = advanced def 0 (loaded program def state.memory) });
  entry = entry.Start (task_no t);
}

-- where a posting leads: a blocking one stays in its operation, another goes on
abbrev pub posted_task : TaskDef → ℕ → Bool → Task → Task
posted_task def k true task = record task { phase = phase.In k }
posted_task def k false task = record task { phase = stop def (k + 1); copy = advanced def (k + 1) task.copy }

-- operation k posts its request with the cells that the copy has now (MPI 4.0, 3.2, 3.4 and 3.7.2)
abbrev pub post_move : Program → State → ℕ → TaskDef → Task → ℕ → Bool → Moved
post_move program state t def task k blocking =
    let req = request t (nth_at def k) in
    let cells = packed def k task.copy in
    let after = post program state.exchange req cells in
    record {
      state = record state {
        tasks = slice_set state.tasks t (posted_task def k blocking task);
        exchange = after;
        notices = state.notices ++ noticed program state.tasks state.exchange (partner program state.exchange req cells);
      };
      entry = entry.Call (task_no t) k (open_count program after (req ∷ []));
    }

-- operation k waits for the requests that it names (MPI 4.0, 3.7.3 and 3.7.5)
abbrev pub wait_move : Program → State → ℕ → Task → ℕ → List ReqNo → Moved
wait_move program state t task k reqs = record {
  state = with_task state t (record task { phase = phase.In k });
  entry = entry.Call (task_no t) k (open_count program state.exchange reqs);
}

-- operation k binds the requests that it names, and goes on (TAMPI, TAMPI_Iwait and TAMPI_Iwaitall; that only incomplete ones are bound is this project's)
abbrev pub bind_move : Program → State → ℕ → TaskDef → Task → ℕ → List ReqNo → Moved
bind_move program state t def task k reqs = record {
  state = with_task state t (record task {
    phase = stop def (k + 1);
    copy = advanced def (k + 1) task.copy;
    named = task.named ++ k ∷ [];
    bound = task.bound ++ open_ones program state.exchange reqs;
  });
  entry = entry.Call (task_no t) k (open_count program state.exchange reqs);
}

-- a task at a wait: it waits in it, or binds its requests to the task (MPI 4.0, 3.7.3)
abbrev pub await_move : Program → State → ℕ → TaskDef → Task → ℕ → List Handle → Bool → Moved
await_move program state t def task k handles false = wait_move program state t task k (named_requests t handles)
await_move program state t def task k handles true = bind_move program state t def task k (named_requests t handles)

-- a task calls its next operation, which is none of the local ones
abbrev pub call_move : Program → State → ℕ → TaskDef → Task → ℕ → Option Op → Moved
call_move program state t def task k operation =
    by_parts_of (no_move state t) (λ posted. post_move program state t def task k (blocks posted.how))
    (λ waited. await_move program state t def task k waited.handles waited.later) operation

-- a task leaves its blocking operation: received cells and statuses are stored, and the body goes on (MPI 4.0, 3.7.3)
abbrev pub leave_move : Program → State → ℕ → TaskDef → Task → ℕ → Moved
leave_move program state t def task k =
    let statuses = told program state.exchange t def k in
    record {
      state = record state {
        tasks = slice_set state.tasks t (record task {
          phase = stop def (k + 1);
          copy = advanced def (k + 1) (taken program state.exchange t def k task.copy);
        });
        statuses = state.statuses ++ statuses;
      };
      entry = entry.Leave (task_no t) k (length state.statuses) (length statuses);
    }

-- a task whose body has ended returns
abbrev pub return_move : State → ℕ → Task → Moved
return_move state t task = record {
  state = with_task state t (record task { phase = phase.Returned });
  entry = entry.Return (task_no t);
}

-- a returned task lets go of its regions: what its bound requests received is stored, handle by handle, and its written cells are put back
-- (OmpSs-2, task dependences; TAMPI, TAMPI_Iwait: the release waits for bound requests)
abbrev pub release_move : Program → State → ℕ → TaskDef → Task → Moved
release_move program state t def task =
    let statuses = told_at_release program state.exchange t def task.named in
    let copy = taken_at_release program state.exchange t def task.named task.copy in
    record {
      state = record state {
        memory = saved program def copy state.memory;
        tasks = slice_set state.tasks t (record task { phase = phase.Released; copy = copy });
        statuses = state.statuses ++ statuses;
      };
      entry = entry.Release (task_no t) (length state.statuses) (length statuses);
    }

-- the move of a task that stands there
abbrev pub move_at : Program → State → ℕ → TaskDef → Task → Phase → Moved
move_at program state t def task phase.Waiting = start_move program state t def task
move_at program state t def task (phase.At k) = call_move program state t def task k (slice_get def.body.items k)
move_at program state t def task (phase.In k) = leave_move program state t def task k
move_at program state t def task phase.Ended = return_move state t task
move_at program state t def task phase.Returned = release_move program state t def task
move_at program state t def task phase.Released = no_move state t

-- the move of a task of the program; there is none of another
abbrev pub move_of : Program → State → ℕ → Option TaskDef → Option Task → Moved
move_of program state t None task = no_move state t
move_of program state t (Some def) None = no_move state t
move_of program state t (Some def) (Some task) = move_at program state t def task task.phase

-- the move of task t; it is made only where the task may move
unfoldable pub move : Program → State → ℕ → Moved
move program state t = move_of program state t (slice_get program.tasks.items t) (slice_get state.tasks t)

-- the state after a poller took the oldest notice, with its entry
abbrev pub polled : State → ℕ → List ReqNo → Moved
polled state poller [] = no_move state poller
polled state poller (req ∷ notices) = record { state = record state { notices = notices }; entry = entry.Poll poller req }

-- a poller takes the first notice (TAMPI: completion by polling)
unfoldable pub poll : State → ℕ → Moved
poll state poller = polled state poller state.notices

-- the callers are numbered: the tasks have their own numbers, and poller w has the number of tasks plus w
unfoldable pub step : Program → State → ℕ → Moved
step program state caller =
    if nat_lt caller (length program.tasks.items) then move program state caller
    else poll state (caller - length program.tasks.items)

-- a poller of that many workers may take a notice
pub record MayPoll (program : Program) (workers : ℕ) (state : State) (caller : ℕ) : Type 0 where
  pub poller : length program.tasks.items ≤ caller
  pub exists : caller < length program.tasks.items + workers
  pub notice : 0 < length state.notices

-- the caller exists and may make its step now
abbrev pub MayStep : Program → ℕ → State → ℕ → Type 0
MayStep program workers state caller = MayMove program state caller ⊎ MayPoll program workers state caller
