-- The cells that an operation reads and writes, and what its task declares of them.
use Rattle.std.specs.Prelude.{ℕ, zero, suc, ◌-◌, max, min, Bool, true, false, ◌&&◌, ◌||◌, nat_eq, nat_le, nat_lt, List, [], ◌∷◌, ◌++◌, option_to_list}
use Rattle.std.specs.Prelude.{if◌then◌else◌}
use Rattle.std.specs.List.{list_any, list_all}
use Rattle.rt_base.specs.declared.data.Span.{Span}
use Rattle.rt_base.specs.declared.data.Access.{Access}
use Rattle.rt_base.specs.declared.data.Op.{Op}
use Rattle.rt_base.specs.declared.data.Op.TheVariants as op
use Rattle.rt_base.specs.Spans.{is_written}
use Rattle.rt_base.specs.Operations.{is_receive}

-- the spans that an operation of a task with these accesses reads: the sources of a kernel, and what a send takes (MPI 4.0, 3.2.2)
abbrev pub reads : List Access → Op → List Span
reads accesses (op.Compute kernel dst left right value step) = option_to_list left ++ option_to_list right
reads accesses (op.Post how span whom tag comm status) = if is_receive how then [] else span ∷ []
reads accesses (op.Await later handles status) = []

-- the spans that it writes: the destination of a kernel, what a receive fills (MPI 4.0, 3.2.4), and its status
abbrev pub writes : List Access → Op → List Span
writes accesses (op.Compute kernel dst left right value step) = dst ∷ []
writes accesses (op.Post how span whom tag comm status) = (if is_receive how then span ∷ [] else []) ++ option_to_list status
writes accesses (op.Await later handles status) = option_to_list status

-- the cell of this number lies in the span
abbrev pub has_cell : ℕ → ℕ → Span → Bool
has_cell array cell span = nat_eq span.array array && (nat_le span.from cell && nat_lt cell span.to)

-- the numbers of the cells of a span
abbrev pub numbers_from : ℕ → ℕ → List ℕ
numbers_from first zero = []
numbers_from first (suc count) = first ∷ numbers_from (suc first) count

-- the cells of a span, by number
abbrev pub cells_of : Span → List ℕ
cells_of span = numbers_from span.from (span.to - span.from)

-- two spans share a cell
abbrev pub shares : Span → Span → Bool
shares one other = nat_eq one.array other.array && nat_lt (max one.from other.from) (min one.to other.to)

-- the span shares a cell with one of these
abbrev pub shares_any : List Span → Span → Bool
shares_any spans span = list_any (shares span) spans

-- each cell of the span lies in an access (OmpSs-2, data accesses: a task works on what it declares)
unfoldable pub is_declared : List Access → Span → Bool
is_declared accesses span = list_all (λ cell. list_any (λ (access : Access). has_cell span.array cell access.span) accesses) (cells_of span)

-- each cell of the span lies in an access that may be written
unfoldable pub is_writable : List Access → Span → Bool
is_writable accesses span =
    list_all (λ cell. list_any (λ (access : Access). has_cell span.array cell access.span && is_written access.mode) accesses) (cells_of span)
