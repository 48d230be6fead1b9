-- Runs of the machine, and which histories are legal.
use Rattle.std.specs.Prelude.{◌≡◌, ℕ, ◌+◌, List, [], ◌∷◌, map, length, All, ⊤}
use Rattle.rt_base.specs.declared.data.Phase.{Phase}
use Rattle.rt_base.specs.declared.data.Phase.TheVariants as phase
use Rattle.rt_base.specs.declared.data.Status.{Status}
use Rattle.rt_base.specs.declared.data.Entry.{Entry}
use Rattle.rt_base.specs.declared.data.Entry.TheVariants as entry
use Rattle.rt_base.specs.declared.data.Program.{Program}
use Rattle.rt_base.specs.State.{State, Task, opening}
use Rattle.rt_base.specs.MayMove.{MayMove}
use Rattle.task_machine.specs.Machine.{step, MayStep}

-- each of the callers may make its step in its turn (transition systems: a run)
abbrev pub IsDefined : Program → ℕ → State → List ℕ → Type 0
IsDefined program workers state [] = ⊤
IsDefined program workers state (caller ∷ callers) =
    MayStep program workers state caller × IsDefined program workers (step program state caller).state callers

-- the state after the steps of these callers
abbrev pub state_after : Program → State → List ℕ → State
state_after program state [] = state
state_after program state (caller ∷ callers) = state_after program (step program state caller).state callers

-- the entries of these steps
abbrev pub entries_after : Program → State → List ℕ → List Entry
entries_after program state [] = []
entries_after program state (caller ∷ callers) =
    (step program state caller).entry ∷ entries_after program (step program state caller).state callers

-- who made a step, in a program of so many tasks
abbrev pub caller : ℕ → Entry → ℕ
caller tasks (entry.Start task) = task.0
caller tasks (entry.Call task op pending) = task.0
caller tasks (entry.Leave task op from count) = task.0
caller tasks (entry.Return task) = task.0
caller tasks (entry.Release task from count) = task.0
caller tasks (entry.Poll poller req) = tasks + poller

-- who called, entry by entry
abbrev pub callers : Program → List Entry → List ℕ
callers program entries = map (caller (length program.tasks.items)) entries

-- the state after the steps of these callers, from the opening on
abbrev pub state_of : Program → List ℕ → State
state_of program callers = state_after program (opening program) callers

-- the state at the end of a history
abbrev pub final : Program → List Entry → State
final program entries = state_of program (callers program entries)

-- a legal history: its callers may make their steps in this order, and its entries and statuses are those of these steps
pub record IsLegal (program : Program) (workers : ℕ) (entries : List Entry) (statuses : List Status) : Type 0 where
  pub runs : IsDefined program workers (opening program) (callers program entries)
  pub replies : entries ≡ entries_after program (opening program) (callers program entries)
  pub told : statuses ≡ (final program entries).statuses

-- no task may move
abbrev pub IsQuiet : Program → State → Type 0
IsQuiet program state = (t : ℕ) → MayMove program state t → ⊥

-- all tasks are released
abbrev pub IsFinished : State → Type 0
IsFinished state = All (λ (task : Task). task.phase ≡ phase.Released) state.tasks

-- quiet, and not finished: the deadlock of the field
abbrev pub IsStuck : Program → State → Type 0
IsStuck program state = IsQuiet program state × (IsFinished state → ⊥)

-- where each of the tasks stands
abbrev pub phases_of : List Task → List Phase
phases_of tasks = map (λ (task : Task). task.phase) tasks
