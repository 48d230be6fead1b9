-- The line on which the tables lay the cells of all arrays of a rank. No public clause cites this module.
use Rattle.std.specs.Prelude.{ℕ, ◌+◌, ◌*◌, ◌<◌, ◌≤◌, Bool, ◌&&◌, nat_le, nat_lt, Option, Some, None, if◌then◌else◌}
use Rattle.rt_base.specs.declared.data.Span.{Span}
use Rattle.cell_spans.specs.declared.line.Interval.{Interval}

-- where a cell lies: each array has room for all cells that a number names
abbrev pub place : ℕ → ℕ → ℕ
place array cell = array * 4294967296 + cell

-- where the cells of the span begin
abbrev pub begin_of : Span → ℕ
begin_of span = place span.array span.from

-- the place behind the last cell of the span
abbrev pub end_of : Span → ℕ
end_of span = place span.array span.to

-- the span has a cell
abbrev pub is_some_span : Span → Bool
is_some_span span = nat_lt span.from span.to

-- the numbers of the span fit their types
abbrev pub IsSmall : Span → Type 0
IsSmall span = (span.array < 65536) × (span.from < 4294967296) × (span.to < 4294967296)

-- where the cells of the span lie, if it has any
abbrev pub interval_of : Span → Option Interval
interval_of span = if nat_le span.to span.from then None else Some (record { begin = begin_of span; end = end_of span })

-- the place belongs to a cell of the span
abbrev pub lies_in : ℕ → Span → Bool
lies_in spot span = nat_le (begin_of span) spot && nat_lt spot (end_of span)

-- the place belongs to the interval
abbrev pub is_in : ℕ → Interval → Bool
is_in spot interval = nat_le interval.begin spot && nat_lt spot interval.end

-- the place belongs to the interval, as a fact
abbrev pub IsIn : ℕ → Interval → Type 0
IsIn spot interval = (interval.begin ≤ spot) × (spot < interval.end)
