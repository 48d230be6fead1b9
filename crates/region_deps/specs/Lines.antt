-- The accesses of a program as regions on one line of places, and that line in segments. No public clause cites this module.
use Rattle.std.specs.Prelude.{ℕ, ◌+◌, ◌*◌, ◌<◌, ◌≤◌, List, [], ◌∷◌, ◌++◌, All, AllPairs, Contains, length, map, take, sum_by, nat_lt, slice_index}
use Rattle.std.specs.List.{prefix_len}
use Rattle.rt_base.specs.declared.data.Access.{Access}
use Rattle.rt_base.specs.declared.data.TaskDef.{TaskDef}
use Rattle.rt_base.specs.Spans.{Overlaps, is_written}
use Rattle.region_deps.specs.declared.segments.Region.{Region}

-- where a cell of an array of a rank stands on the line of all of them
abbrev pub place_of : ℕ → ℕ → ℕ → ℕ
place_of rank array cell = rank * 281474976710656 + array * 4294967296 + cell

-- the region of an access: from and to on the line of its rank, and whether it writes
abbrev pub region_of : ℕ → ℕ → Access → Region
region_of task rank access = record {
  task = task;
  from = place_of rank access.span.array access.span.from;
  to = place_of rank access.span.array access.span.to;
  writes = is_written access.mode;
}

-- the regions of one task, and those of all tasks from this number on
abbrev pub regions_of : ℕ → TaskDef → List Region
regions_of task def = map (region_of task def.rank) def.accesses.items

-- the regions of the tasks from this one on, in the order of the tasks
abbrev pub regions_from : ℕ → List TaskDef → List Region
regions_from task [] = []
regions_from task (def ∷ defs) = regions_of task def ++ regions_from (task + 1) defs

-- how many accesses a task has
abbrev pub access_count : TaskDef → ℕ
access_count def = length def.accesses.items

-- how many accesses the tasks before this one have
abbrev pub accesses_before : List TaskDef → ℕ → ℕ
accesses_before tasks task = sum_by access_count (take task tasks)

-- the numbers of an access are no greater than their types allow
pub record IsSmall (access : Access) : Type 0 where
  pub array : access.span.array < 65536
  pub from : access.span.from < 4294967296
  pub to : access.span.to < 4294967296

-- the numbers of a task's rank and accesses are no greater than their types allow
pub record IsSmallTask (def : TaskDef) : Type 0 where
  pub rank : def.rank < 65536
  pub accesses : All IsSmall def.accesses.items

-- the accesses of the task share no cell
abbrev pub IsApart : TaskDef → Type 0
IsApart def = AllPairs (λ (one other : Access). ¬ Overlaps one.span other.span) def.accesses.items

-- the places where segments begin: they rise, and each region begins at one of them
pub record IsBounds (regions : List Region) (bounds : List ℕ) : Type 0 where
  pub rises : (i j : ℕ) → i ≤ j → j < length bounds → slice_index bounds i ≤ slice_index bounds j
  pub begins : All (λ (region : Region). Contains bounds region.from) regions

-- how many bounds stand below the place
abbrev pub position_in : List ℕ → ℕ → ℕ
position_in bounds place = prefix_len (λ bound. nat_lt bound place) bounds

-- the region by the numbers of its segments
abbrev pub laid : List ℕ → Region → Region
laid bounds region = record { task = region.task; from = position_in bounds region.from; to = position_in bounds region.to; writes = region.writes }
