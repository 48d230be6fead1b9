-- What follows for every sound list.
use Rattle.std.specs.Prelude.{◌≡◌, ℕ, ◌+◌, ◌^◌, ◌<◌, ◌≤◌, true, List, [], ◌∷◌, ◌++◌, length, Some}
use Rattle.rt_base.specs.declared.data.ReqNo.{ReqNo}
use Rattle.rt_base.specs.declared.data.Phase.TheVariants as phase
use Rattle.rt_base.specs.declared.data.Program.{Program}
use Rattle.rt_base.specs.Completion.{is_complete}
use Rattle.rt_base.specs.State.{State, opening, phase_of}
use Rattle.task_local.specs.StandsFor.{Record, StandsFor}
use Rattle.task_machine.specs.Legal.{IsDefined, IsQuiet}
use Rattle.task_machine.specs.Owed.{opened}
use Rattle.pass_table.specs.Passes.{times, longer}
use Rattle.shared_lists.specs.Deeds.{deed, moves, how_many, state_seen, opened_seen, is_offered, looks, stop_number}
use Rattle.shared_lists.specs.Sound.{MayDo, IsSoundAfter, IsSound}
use Rattle.shared_lists.specs.Said.{IsStill}

-- a sound list stays sound with one pair more that may be done after it
abbrev pub SoundListsGrow : Type 0
SoundListsGrow =
    (program : Program) (workers : ℕ) (pairs : List (ℕ × ℕ)) (caller number : ℕ) → IsSound program workers pairs
    → MayDo program workers pairs caller (deed (length program.tasks.items) number) → IsSound program workers (pairs ++ (caller, number) ∷ [])

-- each front of a sound list is sound, and each pair behind it may be done after those before it
abbrev pub FrontsAreSound : Type 0
FrontsAreSound =
    (program : Program) (workers : ℕ) (pairs later : List (ℕ × ℕ)) → IsSound program workers (pairs ++ later)
    → IsSound program workers pairs × IsSoundAfter program workers pairs later

-- the steps of a sound list are a run of the machine (transition systems)
abbrev pub SoundListsRun : Type 0
SoundListsRun =
    (program : Program) (workers : ℕ) (pairs : List (ℕ × ℕ)) → IsSound program workers pairs → IsDefined program workers (opening program) (moves pairs)

-- no task is offered twice, there are at most 2^63 looks and one stop, and so the list is not much longer than its steps
pub record HasFew (program : Program) (pairs : List (ℕ × ℕ)) : Type 0 where
  pub offers : (t : ℕ) → t < length program.tasks.items → how_many (t + 1) pairs ≤ 1
  pub few_looks : looks program pairs ≤ 2 ^ 63
  pub stops : how_many (stop_number program) pairs ≤ 1
  pub short : length pairs ≤ length (moves pairs) + length program.tasks.items + 2 ^ 63 + 1

-- so is every sound list
abbrev pub SoundListsHaveFew : Type 0
SoundListsHaveFew = (program : Program) (workers : ℕ) (pairs : List (ℕ × ℕ)) → IsSound program workers pairs → HasFew program pairs

-- what others do takes nothing from a task that does nothing (transition systems: an enabled step stays enabled)
abbrev pub OthersLeaveTasks : Type 0
OthersLeaveTasks =
    (program : Program) (workers : ℕ) (pairs since : List (ℕ × ℕ)) → IsSound program workers (pairs ++ since)
    → (t : ℕ) → times t since ≡ 0 → IsStill program t (state_seen program pairs) (state_seen program (pairs ++ since))

-- a record stands for a task from which nothing was taken
abbrev pub RecordsStandOn : Type 0
RecordsStandOn =
    (program : Program) (held : Record) (old new : State) → StandsFor program held old → IsStill program held.task old new → StandsFor program held new

-- a complete request stays complete over a longer list (MPI 4.0, 3.7.3)
abbrev pub CompleteSince : Type 0
CompleteSince =
    (program : Program) (workers : ℕ) (pairs since : List (ℕ × ℕ)) → IsSound program workers (pairs ++ since)
    → (req : ReqNo) → is_complete program (state_seen program pairs).exchange req ≡ true
    → is_complete program (state_seen program (pairs ++ since)).exchange req ≡ true

-- a task that stands nowhere in the list waits
abbrev pub NewCallersWait : Type 0
NewCallersWait =
    (program : Program) (workers : ℕ) (pairs : List (ℕ × ℕ)) → IsSound program workers pairs
    → (t : ℕ) → t < length program.tasks.items → times t pairs ≡ 0 → phase_of (state_seen program pairs) t ≡ Some phase.Waiting

-- a task that waits no longer was offered
abbrev pub StartedWereOffered : Type 0
StartedWereOffered =
    (program : Program) (workers : ℕ) (pairs : List (ℕ × ℕ)) → IsSound program workers pairs
    → (t : ℕ) → t < length program.tasks.items → ¬ (phase_of (state_seen program pairs) t ≡ Some phase.Waiting) → is_offered t pairs ≡ true

-- what is quiet stays quiet over a longer list (transition systems)
abbrev pub QuietStays : Type 0
QuietStays =
    (program : Program) (workers : ℕ) (pairs since : List (ℕ × ℕ)) → IsSound program workers (pairs ++ since)
    → IsQuiet program (state_seen program pairs) → IsQuiet program (state_seen program (pairs ++ since))

-- the longer of two sound lists is sound
abbrev pub LongerIsSound : Type 0
LongerIsSound =
    (program : Program) (workers : ℕ) (one other : List (ℕ × ℕ)) → IsSound program workers one → IsSound program workers other
    → IsSound program workers (longer one other)

-- what the last move of a list opened is what the step of its last caller opens, where that is a task, and nothing else changes it
pub record OpensLast (program : Program) (pairs : List (ℕ × ℕ)) (caller : ℕ) : Type 0 where
  pub by_task : caller < length program.tasks.items → opened_seen program (pairs ++ (caller, 0) ∷ []) ≡ opened program (state_seen program pairs) caller
  pub by_poller : length program.tasks.items ≤ caller → opened_seen program (pairs ++ (caller, 0) ∷ []) ≡ opened_seen program pairs
  pub by_else : (number : ℕ) → opened_seen program (pairs ++ (caller, number + 1) ∷ []) ≡ opened_seen program pairs

-- so it is for every list, sound or not
abbrev pub MovesOpenLast : Type 0
MovesOpenLast = (program : Program) (pairs : List (ℕ × ℕ)) (caller : ℕ) → OpensLast program pairs caller
