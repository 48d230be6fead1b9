-- What follows for every legal history, whoever makes it.
use Rattle.std.specs.Prelude.{◌≡◌, ℕ, ◌<◌, ◌≤◌, ◌↔◌, nat_eq, Bool, true, false, ◌&&◌, not, ◌⊎◌, List, [], ◌∷◌, slice_get, count_by, Option, Some}
use Rattle.std.specs.Prelude.{None, take, ◌++◌, length}
use Rattle.rt_base.specs.declared.data.ReqNo.{ReqNo}
use Rattle.rt_base.specs.declared.data.Phase.TheVariants as phase
use Rattle.rt_base.specs.declared.data.Op.{Op}
use Rattle.rt_base.specs.declared.data.TaskDef.{TaskDef}
use Rattle.rt_base.specs.declared.data.Status.{Status}
use Rattle.rt_base.specs.declared.data.Entry.{Entry}
use Rattle.rt_base.specs.declared.data.Entry.TheVariants as entry
use Rattle.rt_base.specs.declared.data.Program.{Program}
use Rattle.rt_base.specs.Operations.{task_no, blocks, awaited, by_parts_of}
use Rattle.rt_base.specs.MayMove.{AreComplete}
use Rattle.rt_base.specs.Precedes.{LetGo, GoneMore, MayStart}
use Rattle.rt_base.specs.State.{State, Task, opening, let_go}
use Rattle.task_machine.specs.Machine.{move, poll, step, MayStep}
use Rattle.task_machine.specs.Legal.{IsDefined, entries_after, caller, callers, state_of, final, IsLegal, IsQuiet}
use Rattle.task_machine.specs.Owed.{opened, last_opened, IsOneOf, IsOwed}

-- the operation is a call that blocks: a blocking send or receive, or a wait (MPI 4.0, 2.4.2, 3.4 and 3.7.3)
abbrev pub is_blocking_call : Option Op → Bool
is_blocking_call operation = by_parts_of false (λ posted. blocks posted.how) (λ waited. not waited.later) operation

-- the entry is the call of operation k of task t
abbrev pub is_call_of : ℕ → ℕ → Entry → Bool
is_call_of t k (entry.Start task) = false
is_call_of t k (entry.Call task op pending) = nat_eq task.0 t && nat_eq op k
is_call_of t k (entry.Leave task op from count) = false
is_call_of t k (entry.Return task) = false
is_call_of t k (entry.Release task from count) = false
is_call_of t k (entry.Poll poller req) = false

-- the entry is the leave of operation k of task t
abbrev pub is_leave_of : ℕ → ℕ → Entry → Bool
is_leave_of t k (entry.Start task) = false
is_leave_of t k (entry.Call task op pending) = false
is_leave_of t k (entry.Leave task op from count) = nat_eq task.0 t && nat_eq op k
is_leave_of t k (entry.Return task) = false
is_leave_of t k (entry.Release task from count) = false
is_leave_of t k (entry.Poll poller req) = false

-- each operation of each task is left at most once
abbrev pub CallsAreLeftOnce : Type 0
CallsAreLeftOnce =
    (program : Program) (workers : ℕ) (entries : List Entry) (statuses : List Status) → IsLegal program workers entries statuses
    → (t k : ℕ) (def : TaskDef) → slice_get program.tasks.items t ≡ Some def
    → count_by (is_leave_of t k) entries ≤ 1

-- an operation that doesn't block is never left: an `iwait` or `iwaitall`, a posting that doesn't block (MPI 4.0, 3.7.2; TAMPI, TAMPI_Iwait)
abbrev pub OthersAreNotLeft : Type 0
OthersAreNotLeft =
    (program : Program) (workers : ℕ) (entries : List Entry) (statuses : List Status) → IsLegal program workers entries statuses
    → (t k : ℕ) (def : TaskDef) → slice_get program.tasks.items t ≡ Some def
    → is_blocking_call (slice_get def.body.items k) ≡ false → count_by (is_leave_of t k) entries ≡ 0

-- at a quiet end a blocking call that was made was left exactly where all the requests that it awaits are complete
abbrev pub CompleteCallsAreLeft : Type 0
CompleteCallsAreLeft =
    (program : Program) (workers : ℕ) (entries : List Entry) (statuses : List Status) → IsLegal program workers entries statuses
    → IsQuiet program (final program entries)
    → (t k : ℕ) (def : TaskDef) → slice_get program.tasks.items t ≡ Some def
    → is_blocking_call (slice_get def.body.items k) ≡ true → 1 ≤ count_by (is_call_of t k) entries
    → (count_by (is_leave_of t k) entries ≡ 1) ↔ AreComplete program (final program entries).exchange (awaited t def k)

-- the callers of the entries of a run are those who made it, so that a history says who moved (transition systems)
abbrev pub EntriesNameTheirCallers : Type 0
EntriesNameTheirCallers =
    (program : Program) (workers : ℕ) (made_by : List ℕ) → IsDefined program workers (opening program) made_by
    → callers program (entries_after program (opening program) made_by) ≡ made_by

-- the entries of a run, with the statuses that it told, are a legal history
abbrev pub RunsAreLegal : Type 0
RunsAreLegal =
    (program : Program) (workers : ℕ) (made_by : List ℕ) → IsDefined program workers (opening program) made_by
    → IsLegal program workers (entries_after program (opening program) made_by) (state_of program made_by).statuses

-- each front of a legal history is legal, with a front of its statuses
abbrev pub FrontsAreLegal : Type 0
FrontsAreLegal =
    (program : Program) (workers : ℕ) (entries : List Entry) (statuses : List Status) → IsLegal program workers entries statuses
    → (n : ℕ) → (told : List Status) × (later : List Status) × IsLegal program workers (take n entries) told × (statuses ≡ told ++ later)

-- a task that may start still may where more is let go of (OmpSs-2, task dependences)
abbrev pub StartsGrow : Type 0
StartsGrow = (program : Program) (old new : LetGo) (t : ℕ) → GoneMore old new → MayStart program old t → MayStart program new t

-- a step takes nothing back that was let go of (OmpSs-2, task dependences)
abbrev pub StepsLetGo : Type 0
StepsLetGo =
    (program : Program) (workers : ℕ) (state : State) (who : ℕ) → MayStep program workers state who
    → GoneMore (let_go state.tasks) (let_go (step program state who).state.tasks)

-- nothing is owed after a move but what was owed before it or what the move opened (TAMPI, completion by polling); it holds in every state
abbrev pub MovesOweWhatTheyOpened : Type 0
MovesOweWhatTheyOpened =
    (program : Program) (state : State) (t : ℕ) (req : ReqNo)
    → IsOwed program (move program state t).state req → IsOwed program state req ⊎ IsOneOf req (opened program state t)

-- a history that goes on by the move of a task opened last what that move opens, and one that goes on by a poll what it opened before (this project's)
abbrev pub LastMoveOpens : Type 0
LastMoveOpens =
    (program : Program) (entries : List Entry) (t : ℕ) (more : Entry) → t < length program.tasks.items → caller (length program.tasks.items) more ≡ t
    → last_opened program (entries ++ more ∷ []) ≡ opened program (final program entries) t

-- a poll leaves what the last move opened (this project's)
abbrev pub PollsOpenNothing : Type 0
PollsOpenNothing =
    (program : Program) (entries : List Entry) (poller : ℕ) (req : ReqNo)
    → last_opened program (entries ++ entry.Poll poller req ∷ []) ≡ last_opened program entries

-- nothing is owed after a poll but what was owed before it (TAMPI, completion by polling)
abbrev pub PollsOweNothingNew : Type 0
PollsOweNothingNew =
    (program : Program) (state : State) (poller : ℕ) (req : ReqNo) → IsOwed program (poll state poller).state req → IsOwed program state req

-- the operation is a call that opens what it waits for or binds: a posting that blocks, or a wait (MPI 4.0, 3.4, 3.7.3 and 3.7.5; TAMPI, TAMPI_Iwait)
abbrev pub is_call_that_opens : Option Op → Bool
is_call_that_opens operation = by_parts_of false (λ posted. blocks posted.how) (λ waited. true) operation

-- the entry of such a call tells how many requests it opened
abbrev pub CallsTellWhatTheyOpened : Type 0
CallsTellWhatTheyOpened =
    (program : Program) (state : State) (t k : ℕ) (def : TaskDef) (task : Task) → slice_get program.tasks.items t ≡ Some def
    → slice_get state.tasks t ≡ Some task → task.phase ≡ phase.At k → is_call_that_opens (slice_get def.body.items k) ≡ true
    → (move program state t).entry ≡ entry.Call (task_no t) k (length (opened program state t))
