-- The bounds that cut the arrays, on one line of all ranks. No public clause cites this module.
use Rattle.std.specs.Prelude.{ℕ, ◌+◌, ◌*◌, ◌<◌, nat_eq, List, [], ◌∷◌, ◌++◌, count_by, sum_by, ⊤}
use Rattle.std.specs.List.{list_any}
use Rattle.rt_base.specs.declared.data.Span.{Span}
use Rattle.rt_base.specs.declared.data.Access.{Access}
use Rattle.rt_base.specs.declared.data.TaskDef.{TaskDef}
use Rattle.rt_base.specs.Touched.{cells_of}
use Rattle.cell_spans.specs.Covering.{AreSmall}

-- where a cell of an array of a rank lies
abbrev pub spot : ℕ → ℕ → ℕ → ℕ
spot rank array cell = (rank * 65536 + array) * 4294967296 + cell

-- where the accesses of a rank begin and end, in order
abbrev pub bounds_of : ℕ → List Access → List ℕ
bounds_of rank [] = []
bounds_of rank (access ∷ accesses) = spot rank access.span.array access.span.from ∷ spot rank access.span.array access.span.to ∷ bounds_of rank accesses

-- where the accesses of all tasks begin and end
abbrev pub all_bounds : List TaskDef → List ℕ
all_bounds [] = []
all_bounds (task ∷ tasks) = bounds_of task.rank task.accesses.items ++ all_bounds tasks

-- the numbers of all tasks fit their types
abbrev pub AreTasksSmall : List TaskDef → Type 0
AreTasksSmall [] = ⊤
AreTasksSmall (task ∷ tasks) = (task.rank < 65536) × AreSmall task.accesses.items × AreTasksSmall tasks

-- how many cells of the span begin a segment, by these cuts
abbrev pub cut_cells : List ℕ → ℕ → Span → ℕ
cut_cells cuts rank span = count_by (λ cell. list_any (nat_eq (spot rank span.array cell)) cuts) (cells_of span)

-- how many cells of the accesses begin a segment, counted in each access
abbrev pub cut_by_accesses : List ℕ → ℕ → List Access → ℕ
cut_by_accesses cuts rank accesses = sum_by (λ (access : Access). cut_cells cuts rank access.span) accesses

-- how many cells of the accesses of all tasks do, counted in each access
abbrev pub cut_by_tasks : List ℕ → List TaskDef → ℕ
cut_by_tasks cuts tasks = sum_by (λ (task : TaskDef). cut_by_accesses cuts task.rank task.accesses.items) tasks
