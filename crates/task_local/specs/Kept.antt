-- What a record keeps in its fields. No clause of a public call cites this module.
use Rattle.std.specs.Prelude.{◌≡◌, ℕ, ◌+◌, ◌*◌, ◌^◌, ◌<◌, ◌≤◌, Bool, not, ◌==◌, List, [], ◌++◌, length, take, drop, All, AllPairs, slice_get}
use Rattle.std.specs.Prelude.{slice_index, slice_index_or, sum_by, ℤ, pos, ◌≤ℤ◌, Option, Some, None, false, if◌then◌else◌, IfSome, ⊤, ◌⊎◌}
use Rattle.rt_base.specs.declared.data.Span.{Span}
use Rattle.rt_base.specs.declared.data.Access.{Access}
use Rattle.rt_base.specs.declared.data.Kernel.{Kernel}
use Rattle.rt_base.specs.declared.data.Kernel.TheVariants as kernel
use Rattle.rt_base.specs.declared.data.Op.{Op}
use Rattle.rt_base.specs.declared.data.Phase.{Phase}
use Rattle.rt_base.specs.declared.data.Phase.TheVariants as phase
use Rattle.rt_base.specs.declared.data.TaskDef.{TaskDef}
use Rattle.rt_base.specs.declared.data.Program.{Program}
use Rattle.rt_base.specs.Spans.{span_len}
use Rattle.rt_base.specs.Operations.{is_receive, posting_parts, kernel_parts, given}
use Rattle.rt_base.specs.Layout.{array_place, address, memory_len, starts_from}
use Rattle.rt_base.specs.WellFormed.{region_cells}
use Rattle.task_local.specs.declared.index.Region.{Region}
use Rattle.task_local.specs.Regions.{regions, cells_before}

-- the phase names an operation that the task has
abbrev pub IsPhaseOf : TaskDef → Phase → Type 0
IsPhaseOf task phase.Waiting = ⊤
IsPhaseOf task (phase.At k) = k < length task.body.items
IsPhaseOf task (phase.In k) = k < length task.body.items
IsPhaseOf task phase.Ended = ⊤
IsPhaseOf task phase.Returned = ⊤
IsPhaseOf task phase.Released = ⊤

-- the number of a region's first cell, by array and then by cell, and that of the place behind its last
abbrev pub first_cell : Region → ℕ
first_cell region = region.access.span.array * 2 ^ 32 + region.access.span.from

-- where a region ends, as a number above all cells of the arrays before
abbrev pub end_cell : Region → ℕ
end_cell region = region.access.span.array * 2 ^ 32 + region.access.span.to

-- the region ends before the other begins
abbrev pub EndsBefore : Region → Region → Type 0
EndsBefore region other = end_cell region ≤ first_cell other

-- the region isn't empty
abbrev pub is_nonempty : Region → Bool
is_nonempty region = not (span_len region.access.span == 0)

-- the region has a cell, and its cells have low numbers
abbrev pub IsRegion : Region → Type 0
IsRegion region = (region.access.span.from < region.access.span.to) × (region.access.span.to < 2 ^ 32)

-- how many cells a kernel takes from its sources for so many in its destination, and which number
abbrev pub TakesCells : Kernel → ℕ → ℕ → ℕ → ℤ → Type 0
TakesCells kernel.Fill count left right value = ⊤
TakesCells kernel.Ramp count left right value = ⊤
TakesCells kernel.Copy count left right value = left ≡ count
TakesCells kernel.Add count left right value = (left ≡ count) × (right ≡ count)
TakesCells kernel.Sub count left right value = (left ≡ count) × (right ≡ count)
TakesCells kernel.Scale count left right value = left ≡ count
TakesCells kernel.Shift count left right value = (left ≡ count) × (pos 0 ≤ℤ value) × (value ≤ℤ pos 63)
TakesCells kernel.Jacobi2 count left right value = left ≡ count + 2
TakesCells kernel.Sum count left right value = count ≡ 1
TakesCells kernel.Least count left right value = (count ≡ 1) × (0 < left)
TakesCells kernel.Greatest count left right value = (count ≡ 1) × (0 < left)

-- how many cells a region has, and how many of them come before a cell
abbrev pub region_len : Region → ℕ
region_len region = span_len region.access.span

-- how many cells of a region come before a cell
abbrev pub region_before : ℕ → ℕ → Region → ℕ
region_before array cell region = cells_before array cell region.access

-- how many cells of these regions come before a cell
abbrev pub place_in : List Region → ℕ → ℕ → ℕ
place_in ordered array cell = sum_by (region_before array cell) ordered

-- how many cells these regions have
abbrev pub cell_total : List Region → ℕ
cell_total ordered = sum_by region_len ordered

-- the cells of the span lie one behind another in so many cells of these regions
abbrev pub FitsIn : List Region → ℕ → Span → Type 0
FitsIn ordered count span = place_in ordered span.array span.from + span_len span ≤ count

-- the same of a source, and how many cells it has
abbrev pub SourceFits : List Region → ℕ → Option Span → Type 0
SourceFits ordered count None = ⊤
SourceFits ordered count (Some span) = FitsIn ordered count span

-- how many cells a source has; none where there is no source
abbrev pub source_len : Option Span → ℕ
source_len None = 0
source_len (Some span) = span_len span

-- where a source lies in the copy; at its front where there is no such source
abbrev pub source_place : List Region → Option Span → ℕ
source_place ordered None = 0
source_place ordered (Some span) = place_in ordered span.array span.from

-- one part of the copy ends before the other begins
abbrev pub AreApart : ℕ → ℕ → ℕ → ℕ → Type 0
AreApart one one_count other other_count = (one + one_count ≤ other) ⊎ (other + other_count ≤ one)

-- both parts of the copy are the same
abbrev pub AreSame : ℕ → ℕ → ℕ → ℕ → Type 0
AreSame one one_count other other_count = (one ≡ other) × (one_count ≡ other_count)

-- so many cells are scratch enough: the destination lies apart from both sources, or has no more cells
abbrev pub IsRoomFor : ℕ → ℕ → ℕ → ℕ → ℕ → ℕ → ℕ → Type 0
IsRoomFor scratch at count left left_count right right_count =
    (AreApart at count left left_count × AreApart at count right right_count) ⊎ (count ≤ scratch)

-- so many are scratch enough for an operation
abbrev pub HasScratchFor : List Region → ℕ → Op → Type 0
HasScratchFor ordered scratch operation =
    IfSome (kernel_parts operation)
    (λ parts. IsRoomFor scratch (place_in ordered parts.dst.array parts.dst.from) (span_len parts.dst) (source_place ordered parts.left) (source_len parts.left)
    (source_place ordered parts.right) (source_len parts.right))

-- so many are enough for an operation, and no fewer are
pub record IsScratchFor (ordered : List Region) (scratch : ℕ) (operation : Op) : Type 0 where
  pub enough : HasScratchFor ordered scratch operation
  pub no_more : (other : ℕ) → HasScratchFor ordered other operation → scratch ≤ other

-- so many are enough for each of these operations
abbrev pub HasRoomFor : List Region → List Op → ℕ → Type 0
HasRoomFor ordered ops scratch = All (HasScratchFor ordered scratch) ops

-- so many are enough for each of these operations, and no fewer are: as many as the longest destination has of those that may
-- share cells with a source, and 0 where there is no such destination
pub record IsScratchOf (ordered : List Region) (ops : List Op) (scratch : ℕ) : Type 0 where
  pub enough : HasRoomFor ordered ops scratch
  pub no_more : (other : ℕ) → HasRoomFor ordered ops other → scratch ≤ other

-- the task is there; its regions in order, a copy of its cells, and the scratch that its operations ask for and no more
pub record KeepsCopy (program : Program) (t : ℕ) (where_at : Phase) (ordered : List Region) (copy scratch : List ℤ) : Type 0 where
  pub task : TaskDef
  pub is_task : slice_get program.tasks.items t ≡ Some task
  pub place : IsPhaseOf task where_at
  pub ordered_regions : ordered ≡ regions task.accesses.items
  pub cells : length copy ≡ region_cells task
  pub room : IsScratchOf ordered task.body.items (length scratch)

-- the part lies in a front of so many cells, or in a back of so many that begins at this place
abbrev pub FitsBeside : ℕ → ℕ → ℕ → ℕ → ℕ → Type 0
FitsBeside front back begins at count =
    (at + count ≤ front) ⊎ ((begins ≤ at) × (at + count ≤ begins + back))

-- these are the part's cells in the whole copy, whatever cells stand between its front and its back
abbrev pub IsSeenBeside : List ℤ → List ℤ → ℕ → ℕ → ℕ → List ℤ → Type 0
IsSeenBeside front back begins at count cells =
    (between : List ℤ) → length front + length between ≡ begins → cells ≡ take count (drop at (front ++ (between ++ back)))

-- the cells of a source in the copy, none where there is no such source
abbrev pub source_in : List Region → List ℤ → Option Span → List ℤ
source_in ordered copy None = []
source_in ordered copy (Some span) = take (span_len span) (drop (place_in ordered span.array span.from) copy)

-- a local operation can run on a copy and with a scratch of so many cells
pub record CanCompute (ordered : List Region) (copy scratch : ℕ) (kind : Kernel) (dst : Span) (left right : Option Span) (value : ℤ) : Type 0 where
  pub room : IsRoomFor scratch (place_in ordered dst.array dst.from) (span_len dst) (source_place ordered left) (source_len left)
      (source_place ordered right) (source_len right)
  pub dst_fits : FitsIn ordered copy dst
  pub left_fits : SourceFits ordered copy left
  pub right_fits : SourceFits ordered copy right
  pub takes : TakesCells kind (span_len dst) (source_len left) (source_len right) value

-- so can an operation, if it is a local one
abbrev pub CanRun : List Region → ℕ → ℕ → Op → Type 0
CanRun ordered copy scratch operation =
    IfSome (kernel_parts operation) (λ parts. CanCompute ordered copy scratch parts.kernel parts.dst parts.left parts.right parts.value)

-- the span of a send fits
abbrev pub FitsSend : List Region → ℕ → Op → Type 0
FitsSend ordered count operation = IfSome (posting_parts operation) (λ parts. is_receive parts.how ≡ false → FitsIn ordered count parts.span)

-- the cells that an operation sends
abbrev pub sent_in : List Region → List ℤ → Op → List ℤ
sent_in ordered copy operation =
    given []
    (λ parts. if is_receive parts.how then [] else take (span_len parts.span) (drop (place_in ordered parts.span.array parts.span.from) copy))
    (posting_parts operation)

-- the array of the access is there, its cells lie in the memory of all ranks, which isn't too long, and the program says where arrays begin
pub record LiesIn (program : Program) (rank : ℕ) (access : Access) : Type 0 where
  pub array : array_place program rank access.span.array < length program.lens.items
  pub inside : address program rank access.span.array access.span.from + span_len access.span ≤ memory_len program
  pub small : memory_len program ≤ 16777216
  pub starts : program.starts.items ≡ starts_from 0 program.lens.items

-- the same of a region
abbrev pub RegionLies : Program → ℕ → Region → Type 0
RegionLies program rank region = LiesIn program rank region.access

-- for each region how many cells come before it
pub record HasOffsets (ordered : List Region) (offsets : List ℕ) : Type 0 where
  pub len : length offsets ≡ length ordered
  pub before : (i : ℕ) → i < length ordered → slice_index offsets i ≡ cell_total (take i ordered)

-- regions in order, not too many cells, and the place of each
pub record IsIndex (ordered : List Region) (offsets : List ℕ) : Type 0 where
  pub filled : All IsRegion ordered
  pub order : AllPairs EndsBefore ordered
  pub total : cell_total ordered < 2 ^ 63
  pub places : HasOffsets ordered offsets

-- regions that begin at a cell of this number or before it come first, so many
pub record HasBegun (ordered : List Region) (number count : ℕ) : Type 0 where
  pub within : count ≤ length ordered
  pub begun : (i : ℕ) (d : Region) → i < count → first_cell (slice_index_or ordered i d) ≤ number
  pub later : (i : ℕ) (d : Region) → count ≤ i → i < length ordered → number < first_cell (slice_index_or ordered i d)
