-- A task's own copy: the cells that it declares, in the order of array and cell.
use Rattle.std.specs.Prelude.{ℕ, ◌+◌, ◌-◌, Bool, ◌||◌, ◌&&◌, ◌==◌, nat_lt, min, List, [], ◌∷◌, ◌++◌, length, take, drop, sum_by, ℤ, if◌then◌else◌}
use Rattle.rt_base.specs.declared.data.Span.{Span}
use Rattle.rt_base.specs.declared.data.Access.{Access}
use Rattle.rt_base.specs.declared.data.TaskDef.{TaskDef}
use Rattle.rt_base.specs.declared.data.Program.{Program}
use Rattle.rt_base.specs.Spans.{span_len, is_written}
use Rattle.rt_base.specs.Layout.{address}
use Rattle.task_local.specs.declared.index.Region.{Region}

-- the accesses of a task with their numbers, from this one on, in the order of its text (this project's)
abbrev pub numbered : ℕ → List Access → List Region
numbered n [] = []
numbered n (access ∷ accesses) = record { number = n; access = access } ∷ numbered (n + 1) accesses

-- the region begins before the other, by array and then by cell (this project's)
abbrev pub begins_before : Region → Region → Bool
begins_before one other =
    nat_lt one.access.span.array other.access.span.array
    || ((one.access.span.array == other.access.span.array) && nat_lt one.access.span.from other.access.span.from)

-- a region among ordered ones, in its place
abbrev pub placed_in_order : Region → List Region → List Region
placed_in_order region [] = region ∷ []
placed_in_order region (next ∷ others) = if begins_before region next then region ∷ next ∷ others else next ∷ placed_in_order region others

-- those of these regions that aren't empty, by array and then by first cell
abbrev pub in_order : List Region → List Region
in_order [] = []
in_order (region ∷ others) = if span_len region.access.span == 0 then in_order others else placed_in_order region (in_order others)

-- the regions of a task: its accesses that aren't empty, each with its number, in order (they share no cell, so the order is the only one)
abbrev pub regions : List Access → List Region
regions accesses = in_order (numbered 0 accesses)

-- how many cells of the access come before this cell, by array and then by cell
abbrev pub cells_before : ℕ → ℕ → Access → ℕ
cells_before array cell access =
    if nat_lt access.span.array array then span_len access.span
    else (if access.span.array == array then min cell access.span.to - access.span.from else 0)

-- the place of a cell in the copy: how many declared cells come before it (this project's)
abbrev pub place : TaskDef → ℕ → ℕ → ℕ
place task array cell = sum_by (cells_before array cell) task.accesses.items

-- the cells of the copy in a span
abbrev pub cells_of_span : TaskDef → Span → List ℤ → List ℤ
cells_of_span task span copy = take (span_len span) (drop (place task span.array span.from) copy)

-- a list with these cells from a place on
abbrev pub spliced : ℕ → List ℤ → List ℤ → List ℤ
spliced at cells whole = take at whole ++ (cells ++ drop (at + length cells) whole)

-- the copy with these cells at the front of a span; no cell changes nothing
abbrev pub put : TaskDef → Span → List ℤ → List ℤ → List ℤ
put task span [] copy = copy
put task span (cell ∷ cells) copy = spliced (place task span.array span.from) (cell ∷ cells) copy

-- the cells of these regions of a rank's memory, one region after another
abbrev pub loaded_regions : Program → ℕ → List Region → List ℤ → List ℤ
loaded_regions program rank [] memory = []
loaded_regions program rank (region ∷ others) memory =
    take (span_len region.access.span) (drop (address program rank region.access.span.array region.access.span.from) memory)
    ++ loaded_regions program rank others memory

-- the copy with which a task starts (this project's: a task works on its own copy of its regions)
abbrev pub loaded : Program → TaskDef → List ℤ → List ℤ
loaded program task memory = loaded_regions program task.rank (regions task.accesses.items) memory

-- the memory after the cells of one access are put back, where it is written
abbrev pub put_back : Program → ℕ → Access → List ℤ → List ℤ → List ℤ
put_back program rank access cells memory =
    if is_written access.mode then spliced (address program rank access.span.array access.span.from) cells memory else memory

-- the memory after the cells of these regions are put back from the front of the copy, one region after another
abbrev pub saved_regions : Program → ℕ → List Region → List ℤ → List ℤ → List ℤ
saved_regions program rank [] copy memory = memory
saved_regions program rank (region ∷ others) copy memory =
    saved_regions program rank others (drop (span_len region.access.span) copy)
    (put_back program rank region.access (take (span_len region.access.span) copy) memory)

-- the memory after a task is released: its `out` and `inout` cells are those of its copy (OmpSs-2, data accesses; this project's copy)
abbrev pub saved : Program → TaskDef → List ℤ → List ℤ → List ℤ
saved program task copy memory = saved_regions program task.rank (regions task.accesses.items) copy memory
