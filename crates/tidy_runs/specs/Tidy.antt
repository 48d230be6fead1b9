-- What tasks have bound, and for what they wait, wherever they stand in a run.
use Rattle.std.specs.Prelude.{◌≡◌, ℕ, ◌+◌, ◌<◌, ◌≤◌, Bool, true, false, ◌⊎◌, List, [], ◌∷◌, take, slice_get, count_by, Contains, Some, ⊤, if◌then◌else◌}
use Rattle.std.specs.List.{list_any}
use Rattle.rt_base.specs.declared.data.ReqNo.{ReqNo}
use Rattle.rt_base.specs.declared.data.Phase.{Phase}
use Rattle.rt_base.specs.declared.data.Phase.TheVariants as phase
use Rattle.rt_base.specs.declared.data.Op.{Op}
use Rattle.rt_base.specs.declared.data.TaskDef.{TaskDef}
use Rattle.rt_base.specs.declared.data.Program.{Program}
use Rattle.rt_base.specs.Operations.{request, postings, nth_at, named_requests, by_parts}
use Rattle.rt_base.specs.Matching.{same_request}
use Rattle.rt_base.specs.Completion.{is_complete}
use Rattle.rt_base.specs.State.{State, Task, opening}
use Rattle.rt_base.specs.InUse.{left_after}
use Rattle.rt_base.specs.WellFormed.{WellFormed}
use Rattle.task_local.specs.Waits.{handles_of}
use Rattle.task_machine.specs.Machine.{awaited_at}
use Rattle.task_machine.specs.Legal.{IsDefined, state_of}

-- the operations that a task which stands there has called or run: those before its next one, and the one in which it is (this project's)
abbrev pub called : TaskDef → Phase → List Op
called def phase.Waiting = []
called def (phase.At k) = take k def.body.items
called def (phase.In k) = take (k + 1) def.body.items
called def phase.Ended = def.body.items
called def phase.Returned = def.body.items
called def phase.Released = def.body.items

-- the operation binds what it names to its task and goes on (TAMPI, TAMPI_Iwait and TAMPI_Iwaitall)
abbrev pub binds : Op → Bool
binds operation = by_parts false (λ posted. false) (λ waited. waited.later) operation

-- the numbers of those of these operations that bind, in order, where the first is operation k
abbrev pub bindings : ℕ → List Op → List ℕ
bindings k [] = []
bindings k (operation ∷ more) = if binds operation then k ∷ bindings (k + 1) more else bindings (k + 1) more

-- the requests that operation k of task t names (MPI 4.0, 3.7.3 and 3.7.5; TAMPI, TAMPI_Iwaitall)
abbrev pub named_at : ℕ → TaskDef → ℕ → List ReqNo
named_at t def k = named_requests t (handles_of (nth_at def k) (slice_get def.body.items k))

-- each of these requests is one of task t
abbrev pub AreOf : ℕ → List ReqNo → Type 0
AreOf t [] = ⊤
AreOf t (req ∷ reqs) = (req.task.0 ≡ t) × AreOf t reqs

-- what may be bound to task t after these operations of its body: requests of its own that these post, each once, and none that a later wait may name
-- (MPI 4.0, 3.7.3: a request is named by one wait; TAMPI, TAMPI_Iwait)
pub record IsBoundBy (t : ℕ) (front : List Op) (bound : List ReqNo) : Type 0 where
  pub own : AreOf t bound
  pub once : (req : ReqNo) → count_by (same_request req) bound ≤ 1
  pub posted : (n : ℕ) → list_any (same_request (request t n)) bound ≡ true → n < postings front
  pub closed : (n : ℕ) → list_any (same_request (request t n)) bound ≡ true → Contains (left_after 0 front) n → ⊥

-- the books of task t are in order: it has noted exactly the operations that bind and that it has called; what is bound to it may be bound there;
-- these operations name it, and all else that they name is complete; it awaits requests of its own, each once and none of them bound
-- (MPI 4.0, 3.7.3; TAMPI, TAMPI_Iwait and TAMPI_Iwaitall)
pub record IsTidyTask (program : Program) (state : State) (t : ℕ) (def : TaskDef) (task : Task) : Type 0 where
  pub named : task.named ≡ bindings 0 (called def task.phase)
  pub bound : IsBoundBy t (called def task.phase) task.bound
  pub covered : (k : ℕ) → Contains task.named k → (req : ReqNo) → list_any (same_request req) (named_at t def k) ≡ true
      → (is_complete program state.exchange req ≡ true) ⊎ (list_any (same_request req) task.bound ≡ true)
  pub bound_named : (req : ReqNo) → list_any (same_request req) task.bound ≡ true
      → (k : ℕ) × Contains task.named k × (list_any (same_request req) (named_at t def k) ≡ true)
  pub awaited_own : AreOf t (awaited_at t (Some def) (Some task.phase))
  pub awaited_once : (req : ReqNo) → count_by (same_request req) (awaited_at t (Some def) (Some task.phase)) ≤ 1
  pub apart : (req : ReqNo) → list_any (same_request req) task.bound ≡ true
      → list_any (same_request req) (awaited_at t (Some def) (Some task.phase)) ≡ true → ⊥

-- so it is for each task
abbrev pub IsTidy : Program → State → Type 0
IsTidy program state =
    (t : ℕ) (def : TaskDef) (task : Task) → slice_get program.tasks.items t ≡ Some def → slice_get state.tasks t ≡ Some task
    → IsTidyTask program state t def task

-- the books of all tasks are in order after every run of a program that may be run
abbrev pub RunsAreTidy : Type 0
RunsAreTidy =
    (program : Program) (workers : ℕ) (callers : List ℕ) → WellFormed program → IsDefined program workers (opening program) callers
    → IsTidy program (state_of program callers)
