-- What a book counts: for how many things each task waits, what it has posted and bound, and who is told of a completion.
use Rattle.std.specs.Prelude.{◌≡◌, ℕ, ◌-◌, ◌<◌, Bool, true, false, List, [], ◌∷◌, length, slice_get, slice_set, slice_index_or, count_by, ◌==◌}
use Rattle.std.specs.Prelude.{Option, Some, None, not, ◌&&◌, ◌||◌, IsSome, if◌then◌else◌}
use Rattle.std.specs.List.{list_any}
use Rattle.rt_base.specs.declared.data.ReqNo.{ReqNo}
use Rattle.rt_base.specs.declared.data.Phase.{Phase}
use Rattle.rt_base.specs.declared.data.Phase.TheVariants as phase
use Rattle.rt_base.specs.declared.data.TaskDef.{TaskDef}
use Rattle.rt_base.specs.declared.data.Program.{Program}
use Rattle.rt_base.specs.Operations.{posting_of}
use Rattle.rt_base.specs.Matching.{same_request}
use Rattle.rt_base.specs.Precedes.{LetGo, MayStart}
use Rattle.rt_base.specs.Exchange.{Exchange}
use Rattle.rt_base.specs.Completion.{completes_alone}
use Rattle.rt_base.specs.State.{is_released}
use Rattle.wait_steps.specs.MarkedRows.{is_marked, mark_of}
use Rattle.book_counts.specs.declared.telling.Told.{Told}
use Rattle.task_machine.specs.Machine.{awaited_at, open_count}
use Rattle.task_machine.specs.Course.{posted_by_phase}

-- the number is 0
abbrev pub is_zero : ℕ → Bool
is_zero n = n == 0

-- a task that stands there is not released
abbrev pub is_unreleased : Phase → Bool
is_unreleased at = not (is_released at)

-- for how many things a task that stands there and has bound these requests waits before its next move: to be handed out, for the requests that it
-- awaits, once it has returned for those that it has bound, or for what never comes
abbrev pub waits_at : Program → Exchange → List Bool → ℕ → Phase → List ReqNo → ℕ
waits_at program exchange handed t phase.Waiting bound = if slice_index_or handed t false then 0 else 1
waits_at program exchange handed t (phase.At k) bound = 0
waits_at program exchange handed t (phase.In k) bound =
    open_count program exchange (awaited_at t (slice_get program.tasks.items t) (Some (phase.In k)))
waits_at program exchange handed t phase.Ended bound = 0
waits_at program exchange handed t phase.Returned bound = open_count program exchange bound
waits_at program exchange handed t phase.Released bound = 1

-- what a book counts: the tasks that are not released, and for each task for how many things it waits. A task that was handed out may start,
-- as the tasks have let go of so much
pub record IsCounted (program : Program) (gone : LetGo) (handed : List Bool) (phases : List Phase) (bound : ℕ → List ReqNo) (exchange : Exchange)
    (unreleased : ℕ) (waits : List ℕ) : Type 0 where
  pub unreleased_is : unreleased ≡ count_by is_unreleased phases
  pub long : length waits ≡ length phases
  pub waits_are : (t : ℕ) (at : Phase) → slice_get phases t ≡ Some at → slice_get waits t ≡ Some (waits_at program exchange handed t at (bound t))
  pub let_in : (t : ℕ) → slice_get handed t ≡ Some true → MayStart program gone t

-- what a book keeps of the requests that tasks have bound: a mark for each, how many each task has bound, and how many of these are incomplete
pub record IsBinding (program : Program) (bound : ℕ → List ReqNo) (exchange : Exchange) (marks : List (List Bool))
    (numbers incomplete : List ℕ) : Type 0 where
  pub marked : (req : ReqNo) → is_marked marks req ≡ list_any (same_request req) (bound req.task.0)
  pub have : (req : ReqNo) → IsSome (posting_of program req) → IsSome (mark_of marks req)
  pub long : length numbers ≡ length program.tasks.items
  pub numbers_are : (t : ℕ) → t < length program.tasks.items → slice_get numbers t ≡ Some (length (bound t))
  pub long_incomplete : length incomplete ≡ length program.tasks.items
  pub incomplete_are : (t : ℕ) → t < length program.tasks.items → slice_get incomplete t ≡ Some (open_count program exchange (bound t))

-- how many requests each task has posted, as it stands
pub record IsNumbered (program : Program) (phases : List Phase) (posted : List ℕ) : Type 0 where
  pub long : length posted ≡ length phases
  pub posted_are : (t : ℕ) (def : TaskDef) (at : Phase) → slice_get program.tasks.items t ≡ Some def → slice_get phases t ≡ Some at
      → slice_get posted t ≡ Some (posted_by_phase def at)

-- one less for the task of each of these requests
abbrev pub one_less_for : List ℕ → List ReqNo → List ℕ
one_less_for waits [] = waits
one_less_for waits (req ∷ reqs) = one_less_for (slice_set waits req.task.0 (slice_index_or waits req.task.0 0 - 1)) reqs

-- whether a task in one of these phases awaits the request
abbrev pub awaits_now : Program → List Phase → ReqNo → Bool
awaits_now program phases req =
    list_any (same_request req) (awaited_at req.task.0 (slice_get program.tasks.items req.task.0) (slice_get phases req.task.0))

-- whether the task of the request has returned
abbrev pub is_returned : Option Phase → Bool
is_returned None = false
is_returned (Some phase.Waiting) = false
is_returned (Some (phase.At k)) = false
is_returned (Some (phase.In k)) = false
is_returned (Some phase.Ended) = false
is_returned (Some phase.Returned) = true
is_returned (Some phase.Released) = false

-- whether the task of the request, where it is marked if it is bound, makes its next move only when the request is complete
abbrev pub holds_now : Program → List Phase → List (List Bool) → ReqNo → Bool
holds_now program phases marks req = awaits_now program phases req || (is_marked marks req && is_returned (slice_get phases req.task.0))

-- whether a task is told of the request
abbrev pub expects_now : Program → List Phase → List (List Bool) → ReqNo → Bool
expects_now program phases marks req = is_marked marks req || awaits_now program phases req

-- the request that a posting completed beside its own, where it was incomplete before and this is said of it
abbrev pub completed_now : Program → (ReqNo → Bool) → Option ReqNo → List ReqNo
completed_now program said None = []
completed_now program said (Some req) = if not (completes_alone program.eager (posting_of program req)) && said req then req ∷ [] else []

-- the request of what was told, where this holds of it
abbrev pub told_requests : (Told → Bool) → Option Told → List ReqNo
told_requests said None = []
told_requests said (Some told) = if said told then told.req ∷ [] else []
