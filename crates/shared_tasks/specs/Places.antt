-- The two meetings of a task, and the places that its holders issue.
use Rattle.std.specs.Prelude.{◌≡◌, ℕ, ◌+◌, ◌*◌, ◌<◌, false, List, [], ◌∷◌, map, slice_get, Option, Some, None, ⊤}
use Rattle.rt_base.specs.declared.data.ReqNo.{ReqNo}
use Rattle.rt_base.specs.declared.data.TaskDef.{TaskDef}
use Rattle.rt_base.specs.declared.data.Program.{Program}
use Rattle.rt_base.specs.Operations.{postings}
use Rattle.rt_base.specs.Exchange.{Exchange}
use Rattle.rt_base.specs.Completion.{is_complete}
use Rattle.rt_base.specs.State.{State}
use Rattle.task_machine.specs.Machine.{awaited_at, or_none, phase_at, bound_at}
use Rattle.pass_table.specs.Passes.{TableId}
use Rattle.meetings.specs.Meetings.{times}
use Rattle.meet_hall.specs.Holders.{HolderIs}
use Rattle.turn_table.specs.declared.hands.Door.{Door}
use Rattle.turn_table.specs.declared.hands.Door.TheVariants.{Pause, Events}

-- each task has two meetings: where it pauses, and where it waits for the requests that are bound to it (OmpSs-2, pause and resume, event counters)
abbrev pub meeting_of : Door → ℕ → ℕ
meeting_of Pause t = 2 * t
meeting_of Events t = 2 * t + 1

-- how many requests a task posts, none where there is no such task
abbrev pub requests_of : Option TaskDef → ℕ
requests_of None = 0
requests_of (Some def) = postings def.body.items

-- the holder of a meeting of task t, in the hall of this name: it has a place for each request of the task, and has taken all notes
pub record IsHolder (program : Program) (site : TableId) (t meeting : ℕ) (holder : HolderIs) : Type 0 where
  pub hall : holder.hall ≡ site
  pub meeting_is : holder.meeting ≡ meeting
  pub places : holder.places ≡ requests_of (slice_get program.tasks.items t)
  pub none_left : holder.left ≡ []

-- the requests for which task t waits at one of its meetings: those that it awaits in its operation, or those that are bound to it
-- (MPI 4.0, 3.7.3; TAMPI, TAMPI_Iwait)
abbrev pub waits_at : Program → State → ℕ → Door → List ReqNo
waits_at program state t Pause = awaited_at t (slice_get program.tasks.items t) (phase_at state.tasks t)
waits_at program state t Events = or_none (bound_at state.tasks t)

-- the place of a request is its number among those of its task
abbrev pub places_of : List ReqNo → List ℕ
places_of reqs = map (λ (req : ReqNo). req.nth) reqs

-- each of these requests that is incomplete is one of task t, and its place is among these
abbrev pub AreAwaited : Program → Exchange → ℕ → List ℕ → List ReqNo → Type 0
AreAwaited program exchange t places [] = ⊤
AreAwaited program exchange t places (req ∷ reqs) =
    (is_complete program exchange req ≡ false → (req.task.0 ≡ t) × (0 < times req.nth places)) × AreAwaited program exchange t places reqs
