-- Which spans have room for statuses.
use Rattle.std.specs.Prelude.{ℕ, ◌*◌, ◌≤◌, Option}
use Rattle.rt_base.specs.declared.data.Span.{Span}
use Rattle.rt_base.specs.declared.data.TaskDef.{TaskDef}
use Rattle.rt_base.specs.Spans.{span_len}
use Rattle.rt_base.specs.WellFormed.{IsDeclared, OfSpan}

-- where there is a status span, the task declares it, and it has four cells for each of so many statuses (MPI 4.0, 3.2.5; the cells are this project's)
abbrev pub HasPlaces : TaskDef → Option Span → ℕ → Type 0
HasPlaces task span count = OfSpan (λ cells. IsDeclared task.accesses.items cells × (4 * count ≤ span_len cells)) span

-- where there is a status span, it has the four cells of a first status
abbrev pub HasFront : Option Span → Type 0
HasFront span = OfSpan (λ cells. 4 ≤ span_len cells) span
