-- How finely the accesses of all tasks cut the arrays.
use Rattle.std.specs.Prelude.{ℕ, Bool, ◌&&◌, ◌||◌, nat_eq, List, sum_by, count_by}
use Rattle.std.specs.List.{list_any}
use Rattle.rt_base.specs.declared.data.Span.{Span}
use Rattle.rt_base.specs.declared.data.Access.{Access}
use Rattle.rt_base.specs.declared.data.TaskDef.{TaskDef}
use Rattle.rt_base.specs.Touched.{cells_of}

-- the span begins or ends at this cell of the array
abbrev pub is_bound : ℕ → ℕ → Span → Bool
is_bound array cell span = nat_eq span.array array && (nat_eq span.from cell || nat_eq span.to cell)

-- some access of the rank begins or ends at this cell of its array
abbrev pub is_bound_of : List TaskDef → ℕ → ℕ → ℕ → Bool
is_bound_of tasks rank array cell =
    list_any (λ (task : TaskDef). nat_eq task.rank rank && list_any (λ (access : Access). is_bound array cell access.span) task.accesses.items) tasks

-- the elementary segments inside an access: as many of its cells begin one (OmpSs-2, fragments of a region).
-- A segment is what remains between neighbouring bounds of all accesses to the array on that rank (this project's)
abbrev pub pieces_of : List TaskDef → ℕ → Access → ℕ
pieces_of tasks rank access = count_by (is_bound_of tasks rank access.span.array) (cells_of access.span)

-- the pairs of an access and an elementary segment inside it
unfoldable pub pieces : List TaskDef → ℕ
pieces tasks = sum_by (λ (task : TaskDef). sum_by (pieces_of tasks task.rank) task.accesses.items) tasks
