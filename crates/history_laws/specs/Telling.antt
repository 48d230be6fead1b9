-- How often a task is told of a request, over the steps of a run.
use Rattle.std.specs.Prelude.{◌≡◌, ℕ, ◌+◌, ◌≤◌, ◌↔◌, Bool, true, false, List, count_by}
use Rattle.rt_base.specs.declared.data.ReqNo.{ReqNo}
use Rattle.rt_base.specs.declared.data.Entry.{Entry}
use Rattle.rt_base.specs.declared.data.Entry.TheVariants as entry
use Rattle.rt_base.specs.declared.data.Program.{Program}
use Rattle.rt_base.specs.Matching.{same_request}
use Rattle.rt_base.specs.Completion.{is_complete}
use Rattle.rt_base.specs.State.{State, opening}
use Rattle.rt_base.specs.MayMove.{MayMove}
use Rattle.task_machine.specs.Machine.{move, is_expected}
use Rattle.task_machine.specs.Legal.{IsDefined, state_after, entries_after, state_of}
use Rattle.task_machine.specs.Owed.{IsOneOf, IsOwed}
use Rattle.tidy_runs.specs.Openings.{openings}
use Rattle.history_laws.specs.Notices.{WaitsNamePosted, standing}

-- a move turns the completion of a request into its notice: where the request is expected, as often as before a task is still to be told of it;
-- where it is not, or was complete, no notice of it comes or goes (TAMPI, completion by polling)
pub record TellsOnce (program : Program) (before after : State) (req : ReqNo) : Type 0 where
  pub expected : is_expected program before.tasks req ≡ true → standing program after req ≡ standing program before req
  pub unexpected : is_expected program before.tasks req ≡ false
      → count_by (same_request req) after.notices ≡ count_by (same_request req) before.notices
  pub complete : is_complete program before.exchange req ≡ true
      → count_by (same_request req) after.notices ≡ count_by (same_request req) before.notices

-- so does each move of a task after a run, where waits name posted requests
abbrev pub MovesTellOnce : Type 0
MovesTellOnce =
    (program : Program) (workers : ℕ) (made_by : List ℕ) → IsDefined program workers (opening program) made_by → WaitsNamePosted program
    → (t : ℕ) → MayMove program (state_of program made_by) t
    → (req : ReqNo) → TellsOnce program (state_of program made_by) (move program (state_of program made_by) t).state req

-- the entry is that of a poll which took the notice of this request (TAMPI, completion by polling)
abbrev pub is_poll_of : ReqNo → Entry → Bool
is_poll_of req (entry.Start task) = false
is_poll_of req (entry.Call task op pending) = false
is_poll_of req (entry.Leave task op from count) = false
is_poll_of req (entry.Return task) = false
is_poll_of req (entry.Release task from count) = false
is_poll_of req (entry.Poll poller other) = same_request req other

-- how many polls of these steps took the notice of this request
abbrev pub polls_of : ReqNo → List Entry → ℕ
polls_of req entries = count_by (is_poll_of req) entries

-- over a run the polls that took the notice of a request, its notices that stand, and one more while it is incomplete, are at most one
abbrev pub RequestsAreToldAtMostOnce : Type 0
RequestsAreToldAtMostOnce =
    (program : Program) (workers : ℕ) (made_by : List ℕ) → IsDefined program workers (opening program) made_by → WaitsNamePosted program
    → (req : ReqNo) → polls_of req (entries_after program (opening program) made_by) + standing program (state_of program made_by) req ≤ 1

-- each request that a move opened was told exactly once: by one poll, or else its notice stands once, or else it is incomplete
abbrev pub OpenedAreToldOnce : Type 0
OpenedAreToldOnce =
    (program : Program) (workers : ℕ) (made_by : List ℕ) → IsDefined program workers (opening program) made_by → WaitsNamePosted program
    → (req : ReqNo) → IsOneOf req (openings program (opening program) made_by)
    → polls_of req (entries_after program (opening program) made_by) + standing program (state_of program made_by) req ≡ 1

-- what is owed is owed until a poll takes its notice, and no longer
abbrev pub OwedUntilTold : Type 0
OwedUntilTold =
    (program : Program) (workers : ℕ) (made_by later : List ℕ) → IsDefined program workers (opening program) made_by → WaitsNamePosted program
    → IsDefined program workers (state_of program made_by) later → (req : ReqNo) → IsOwed program (state_of program made_by) req
    → IsOwed program (state_after program (state_of program made_by) later) req
    ↔ (polls_of req (entries_after program (state_of program made_by) later) ≡ 0)
