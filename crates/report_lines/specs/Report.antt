-- The report of a run (this project's): its verdict, the shown arrays of each rank, where it is stuck each task that is not released,
-- and where it is asked for the trace.
use Rattle.std.specs.Prelude.{ℕ, ◌+◌, Bool, List, [], ◌∷◌, ◌++◌, take, drop, slice_get, ℤ, codes, unwrap_or, if◌then◌else◌}
use Rattle.std.specs.List.{flat_map, list_all, range_with_len}
use Rattle.std.specs.Fmt.{decimal}
use Rattle.rt_base.specs.declared.data.Phase.{Phase}
use Rattle.rt_base.specs.declared.data.Phase.TheVariants as phase
use Rattle.rt_base.specs.declared.data.Status.{Status}
use Rattle.rt_base.specs.declared.data.Entry.{Entry}
use Rattle.rt_base.specs.declared.data.TaskDef.{TaskDef}
use Rattle.rt_base.specs.declared.data.Program.{Program}
use Rattle.rt_base.specs.Layout.{address, array_len}
use Rattle.rt_base.specs.State.{State, is_released}
use Rattle.task_machine.specs.Legal.{final, phases_of}
use Rattle.report_lines.specs.Lines.{line, numbers_text, trace_text}

-- the cells of an array of a rank
abbrev pub cells_of : Program → List ℤ → ℕ → ℕ → List ℤ
cells_of program memory rank array = take (array_len program rank array) (drop (address program rank array 0) memory)

-- the name of an array
abbrev pub name_of : Program → ℕ → List ℕ
name_of program array = unwrap_or (slice_get program.names.items array) []

-- `RANK NAME`, and each cell of the array
abbrev pub shown_line : Program → List ℤ → ℕ → ℕ → List ℕ
shown_line program memory rank array =
    line (decimal rank ++ codes " " ++ name_of program array ++ numbers_text (cells_of program memory rank array))

-- the shown arrays of a rank, in the order in which they are shown
abbrev pub rank_lines : Program → List ℤ → ℕ → List ℕ
rank_lines program memory rank = flat_map (shown_line program memory rank) program.shows.items

-- the shown arrays of each rank, in order
abbrev pub shown_lines : Program → List ℤ → List ℕ
shown_lines program memory = flat_map (rank_lines program memory) (range_with_len 0 program.ranks)

-- where a task stands. At the end of a run no task stands `at` an operation, is `ended`, or is named as `released`
abbrev pub place_text : Phase → List ℕ
place_text phase.Waiting = codes "waiting"
place_text (phase.At k) = codes "at " ++ decimal k
place_text (phase.In k) = codes "in " ++ decimal k
place_text phase.Ended = codes "ended"
place_text phase.Returned = codes "returned"
place_text phase.Released = codes "released"

-- `task T rank R line L` and where it stands, for a task that is not released; the line is that of the word `task`
abbrev pub task_line : ℕ → TaskDef → Phase → List ℕ
task_line t def at =
    if is_released at then []
    else line (codes "task " ++ decimal t ++ codes " rank " ++ decimal def.rank ++ codes " line " ++ decimal def.line ++ codes " " ++ place_text at)

-- the tasks from number t on that are not released
abbrev pub task_lines : ℕ → List TaskDef → List Phase → List ℕ
task_lines t [] phases = []
task_lines t (def ∷ defs) [] = []
task_lines t (def ∷ defs) (at ∷ phases) = task_line t def at ++ task_lines (t + 1) defs phases

-- all tasks are released
abbrev pub is_finished : List Phase → Bool
is_finished phases = list_all is_released phases

-- the report without a trace, of a program whose memory and phases are these at the end
abbrev pub end_text : Program → List ℤ → List Phase → List ℕ
end_text program memory phases =
    if is_finished phases then line (codes "finished") ++ shown_lines program memory
    else line (codes "stuck") ++ shown_lines program memory ++ task_lines 0 program.tasks.items phases

-- the same, of a program in this state at the end
abbrev pub report_at : Program → State → List ℕ
report_at program state = end_text program state.memory (phases_of state.tasks)

-- the report of a history of the program, with its trace where it is asked for
abbrev pub report : Program → ℕ → List Entry → List Status → Bool → List ℕ
report program workers entries statuses trace =
    report_at program (final program entries) ++ (if trace then trace_text program workers entries statuses else [])
