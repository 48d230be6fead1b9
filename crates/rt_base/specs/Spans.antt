-- Spans of cells, and the regions that tasks declare.
use Rattle.std.specs.Prelude.{◌≡◌, ℕ, ◌-◌, ◌≤◌, ◌<◌, Bool, true, false}
use Rattle.rt_base.specs.declared.data.Span.{Span}
use Rattle.rt_base.specs.declared.data.Mode.{Mode}
use Rattle.rt_base.specs.declared.data.Mode.TheVariants as mode

-- how many cells a span has (this project's)
abbrev pub span_len : Span → ℕ
span_len span = span.to - span.from

-- the cell of this number lies in the span (this project's)
abbrev pub Covers : Span → ℕ → Type 0
Covers span cell = (span.from ≤ cell) × (cell < span.to)

-- both name one array and share a cell (OmpSs-2, task dependences: overlapping regions)
abbrev pub Overlaps : Span → Span → Type 0
Overlaps one other = (one.array ≡ other.array) × ((cell : ℕ) × Covers one cell × Covers other cell)

-- whether a task may change the cells that it declares so (OmpSs-2, data accesses)
abbrev pub is_written : Mode → Bool
is_written mode.In = false
is_written mode.Out = true
is_written mode.Inout = true
