-- When a task may make its next move.
use Rattle.std.specs.Prelude.{◌≡◌, ℕ, true, List, [], ◌∷◌, slice_get, Some, All, ⊤}
use Rattle.rt_base.specs.declared.data.ReqNo.{ReqNo}
use Rattle.rt_base.specs.declared.data.Phase.{Phase}
use Rattle.rt_base.specs.declared.data.Phase.TheVariants as phase
use Rattle.rt_base.specs.declared.data.TaskDef.{TaskDef}
use Rattle.rt_base.specs.declared.data.Program.{Program}
use Rattle.rt_base.specs.Precedes.{MayStart}
use Rattle.rt_base.specs.Operations.{awaited}
use Rattle.rt_base.specs.Exchange.{Exchange}
use Rattle.rt_base.specs.Completion.{is_complete}
use Rattle.rt_base.specs.State.{State, Task, let_go}

-- all these requests are complete (MPI 4.0, 3.7.5)
abbrev pub AreComplete : Program → Exchange → List ReqNo → Type 0
AreComplete program exchange [] = ⊤
AreComplete program exchange (req ∷ reqs) = (is_complete program exchange req ≡ true) × AreComplete program exchange reqs

-- a task that stands there may move: a waiting one as its predecessors allow, one in a blocking operation when all that it awaits is complete,
-- a returned one when all that is bound to it is complete (TAMPI, TAMPI_Iwait), a released one never
abbrev pub MayMoveAt : Program → List Task → Exchange → ℕ → TaskDef → Task → Phase → Type 0
MayMoveAt program tasks exchange t def task phase.Waiting = MayStart program (let_go tasks) t
MayMoveAt program tasks exchange t def task (phase.At k) = ⊤
MayMoveAt program tasks exchange t def task (phase.In k) = AreComplete program exchange (awaited t def k)
MayMoveAt program tasks exchange t def task phase.Ended = ⊤
MayMoveAt program tasks exchange t def task phase.Returned = AreComplete program exchange task.bound
MayMoveAt program tasks exchange t def task phase.Released = ⊥

-- task t exists and may make its next move
pub record MayMove (program : Program) (state : State) (t : ℕ) : Type 0 where
  pub def : TaskDef
  pub task : Task
  pub is_def : slice_get program.tasks.items t ≡ Some def
  pub is_task : slice_get state.tasks t ≡ Some task
  pub enabled : MayMoveAt program state.tasks state.exchange t def task task.phase
