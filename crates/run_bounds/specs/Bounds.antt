-- How many entries, statuses and notices runs make at most.
use Rattle.std.specs.Prelude.{ℕ, ◌+◌, ◌^◌, ◌<◌, ◌≤◌, List, length, sum_by, if◌then◌else◌}
use Rattle.rt_base.specs.declared.data.Op.{Op}
use Rattle.rt_base.specs.declared.data.TaskDef.{TaskDef}
use Rattle.rt_base.specs.declared.data.Program.{Program}
use Rattle.rt_base.specs.Operations.{postings, by_parts}
use Rattle.rt_base.specs.State.{State, opening}
use Rattle.rt_base.specs.WellFormed.{WellFormed, over_operations}
use Rattle.task_machine.specs.Course.{most_moves}
use Rattle.task_machine.specs.Legal.{IsDefined, state_of}

-- how many requests tasks post
abbrev pub most_postings : List TaskDef → ℕ
most_postings defs = sum_by (λ (def : TaskDef). postings def.body.items) defs

-- at most how many statuses an operation tells at its end: one for a posting, and one for each handle of a wait (MPI 4.0, 3.7.3 and 3.7.5)
abbrev pub tells : Op → ℕ
tells operation = by_parts 0 (λ posted. 1) (λ waited. length waited.handles) operation

-- of these, what it tells where it is left
abbrev pub tells_now : Op → ℕ
tells_now operation = by_parts 0 (λ posted. 1) (λ waited. if waited.later then 0 else length waited.handles) operation

-- and what it tells at the release of its task (TAMPI, TAMPI_Iwait and TAMPI_Iwaitall)
abbrev pub tells_late : Op → ℕ
tells_late operation = by_parts 0 (λ posted. 0) (λ waited. if waited.later then length waited.handles else 0) operation

-- at most how many entries runs make: the moves of the tasks, and a poll for each notice of what they post
abbrev pub most_entries : Program → ℕ
most_entries program = most_moves program.tasks.items + most_postings program.tasks.items

-- at most how many statuses runs tell
abbrev pub most_statuses : Program → ℕ
most_statuses program = over_operations tells program.tasks.items

-- after so many steps of a run: with a poll for each notice that stands there are no more entries than that, no more statuses and no more notices
pub record IsShort (program : Program) (state : State) (steps : ℕ) : Type 0 where
  pub entries : steps + length state.notices ≤ most_entries program
  pub statuses : length state.statuses ≤ most_statuses program
  pub notices : length state.notices ≤ most_postings program.tasks.items

-- so it is after every run of a program that may be run (this project's)
abbrev pub RunsStayShort : Type 0
RunsStayShort =
    (program : Program) (workers : ℕ) (callers : List ℕ) → WellFormed program → IsDefined program workers (opening program) callers
    → IsShort program (state_of program callers) (length callers)

-- all of them are counted in 32 bits, where a program may be run
abbrev pub BoundsAreFew : Type 0
BoundsAreFew = (program : Program) → WellFormed program → (most_entries program < 2 ^ 32) × (most_statuses program < 2 ^ 32)
