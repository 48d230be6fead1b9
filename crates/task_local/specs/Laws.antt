-- What follows from the definitions alone.
use Rattle.std.specs.Prelude.{◌≡◌, ◌↔◌, ℕ, ◌*◌, ◌≤◌, true, ℤ, List, [], length, take, drop, slice_get, Option, Some, All, ⊤}
use Rattle.std.specs.List.{flat_map}
use Rattle.rt_base.specs.declared.data.Span.{Span}
use Rattle.rt_base.specs.declared.data.Access.{Access}
use Rattle.rt_base.specs.declared.data.Status.{Status}
use Rattle.rt_base.specs.declared.data.Handle.{Handle}
use Rattle.rt_base.specs.declared.data.Handle.TheVariants as handle
use Rattle.rt_base.specs.declared.data.TaskDef.{TaskDef}
use Rattle.rt_base.specs.declared.data.Program.{Program}
use Rattle.rt_base.specs.Spans.{span_len, Covers, is_written}
use Rattle.rt_base.specs.Layout.{address, memory_len}
use Rattle.rt_base.specs.WellFormed.{WellFormed, IsTask, MayRead, MayWrite, region_cells}
use Rattle.rt_base.specs.Operations.{request}
use Rattle.rt_base.specs.Exchange.{Exchange}
use Rattle.rt_base.specs.Completion.{request_cells}
use Rattle.rt_base.specs.State.{State}
use Rattle.task_local.specs.Regions.{cells_of_span, put, loaded, saved}
use Rattle.task_local.specs.Waits.{status_cells, put_statuses, statuses_of, taken_by_handles}
use Rattle.task_local.specs.StandsFor.{Record, StandsFor}
use Rattle.task_local.specs.Standing.{def, moved_on}

-- a record stands for its task after its local operations exactly where it does before them (this project's)
abbrev pub LocalOperationsAreUnseen : Type 0
LocalOperationsAreUnseen =
    (program : Program) (held : Record) (state : State)
    → StandsFor program held state ↔ StandsFor program (moved_on (def held) held.phase held) state

-- a span of a fresh copy has the cells that it has in the memory, over however many regions it lies (this project's)
abbrev pub FreshSpansAreOfMemory : Type 0
FreshSpansAreOfMemory =
    (program : Program) (task : TaskDef) (memory : List ℤ) (span : Span) → WellFormed program → IsTask program task
    → length memory ≡ memory_len program → MayRead program task span
    → cells_of_span task span (loaded program task memory)
    ≡ take (span_len span) (drop (address program task.rank span.array span.from) memory)

-- a cell of the span has this address, in an array of this rank (this project's)
abbrev pub IsCellAt : Program → ℕ → Span → ℕ → Type 0
IsCellAt program rank span at = (cell : ℕ) × Covers span cell × (address program rank span.array cell ≡ at)

-- a span that a task may write, as each region that isn't `in`, has in the memory after its release the cells that it has in the
-- copy, over however many regions it lies (this project's)
abbrev pub SavedSpansAreOfCopy : Type 0
SavedSpansAreOfCopy =
    (program : Program) (task : TaskDef) (copy memory : List ℤ) (span : Span) → WellFormed program → IsTask program task
    → length copy ≡ region_cells task → length memory ≡ memory_len program → MayWrite program task span
    → take (span_len span) (drop (address program task.rank span.array span.from) (saved program task copy memory))
    ≡ cells_of_span task span copy

-- and a cell of no region that it may write is what it was (this project's)
abbrev pub OtherCellsStay : Type 0
OtherCellsStay =
    (program : Program) (task : TaskDef) (copy memory : List ℤ) (at : ℕ) → WellFormed program → IsTask program task
    → length copy ≡ region_cells task → length memory ≡ memory_len program
    → All (λ (access : Access). is_written access.mode ≡ true → ¬ IsCellAt program task.rank access.span at) task.accesses.items
    → slice_get (saved program task copy memory) at ≡ slice_get memory at

-- statuses that are stored one behind another, in a span that the task may write, are all their cells stored at once (this project's)
abbrev pub StatusesAreInARow : Type 0
StatusesAreInARow =
    (program : Program) (task : TaskDef) (copy : List ℤ) (span : Span) (statuses : List Status) → WellFormed program → IsTask program task
    → length copy ≡ region_cells task → MayWrite program task span → 4 * length statuses ≤ span_len span
    → put_statuses task (Some span) statuses copy ≡ put task span (flat_map status_cells statuses) copy

-- what the handle names stores no cells: the null request, a send, a receive of an empty message (MPI 4.0, 3.2.4 and 3.7.3)
abbrev pub StoresNoCells : Program → Exchange → ℕ → Handle → Type 0
StoresNoCells program exchange t handle.Null = ⊤
StoresNoCells program exchange t (handle.Nth n) = request_cells program exchange (request t n) ≡ []

-- where handles store no cells, a release takes by them their statuses alone, in the order of the handles and one behind another (this project's)
abbrev pub ReleasedStatusesAreInARow : Type 0
ReleasedStatusesAreInARow =
    (program : Program) (exchange : Exchange) (t : ℕ) (task : TaskDef) (span : Option Span) (handles : List Handle) (copy : List ℤ)
    → All (StoresNoCells program exchange t) handles
    → taken_by_handles program exchange t task span handles copy ≡ put_statuses task span (statuses_of program exchange t handles) copy
