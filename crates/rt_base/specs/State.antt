-- The state of the machine that has a thread for each task.
use Rattle.std.specs.Prelude.{◌≡◌, ℕ, Bool, true, false, List, [], ◌∷◌, map, replicate, length, slice_get, ℤ, pos, Option, option_map}
use Rattle.rt_base.specs.declared.data.ReqNo.{ReqNo}
use Rattle.rt_base.specs.declared.data.Phase.{Phase}
use Rattle.rt_base.specs.declared.data.Phase.TheVariants as phase
use Rattle.rt_base.specs.declared.data.Status.{Status}
use Rattle.rt_base.specs.declared.data.Program.{Program}
use Rattle.rt_base.specs.Layout.{memory_len}
use Rattle.rt_base.specs.Precedes.{LetGo}
use Rattle.rt_base.specs.Exchange.{Exchange, silent}

-- a task: where it stands, its own copy of the cells that it declares, in the order of array and cell,
-- the operations by number that bound requests to it, and the requests bound to it (TAMPI, TAMPI_Iwait; that only incomplete
-- ones are bound is this project's own)
pub record Task : Type 0 where
  pub phase : Phase
  pub copy : List ℤ
  pub named : List ℕ
  pub bound : List ReqNo

-- all cells of all arrays of all ranks, the tasks by number, what is under way between the ranks,
-- the notices of completions that no poller has taken, and all statuses that were told so far
pub record State : Type 0 where
  pub memory : List ℤ
  pub tasks : List Task
  pub exchange : Exchange
  pub notices : List ReqNo
  pub statuses : List Status

-- a task that was not started
abbrev pub waiting_task : Task
waiting_task = record { phase = phase.Waiting; copy = []; named = []; bound = [] }

-- all cells are 0, all tasks are waiting, and the rest is empty
abbrev pub opening : Program → State
opening program = record {
  memory = replicate (memory_len program) (pos 0);
  tasks = replicate (length program.tasks.items) waiting_task;
  exchange = silent program.ranks;
  notices = [];
  statuses = [];
}

-- where the task stands, if there is such a task
abbrev pub phase_of : State → ℕ → Option Phase
phase_of state t = option_map (λ (task : Task). task.phase) (slice_get state.tasks t)

-- the accesses of the task are let go
abbrev pub is_released : Phase → Bool
is_released phase.Waiting = false
is_released (phase.At k) = false
is_released (phase.In k) = false
is_released phase.Ended = false
is_released phase.Returned = false
is_released phase.Released = true

-- what the tasks have let go of
abbrev pub let_go : List Task → LetGo
let_go tasks = record { released = map (λ (task : Task). is_released task.phase) tasks }
