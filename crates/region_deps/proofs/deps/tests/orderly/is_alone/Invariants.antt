-- the access overlaps with none of those so far
use Rattle.std.specs.Prelude.{ℕ, ◌<◌, slice_index_or}
use Rattle.rt_base.specs.declared.data.Access.{Access}
use Rattle.rt_base.specs.Spans.{Overlaps}
use Rattle.region_deps.proofs.deps.tests.orderly.is_alone.Given as goal

abbrev pub invariant-loop-other : goal.invariant-loop-other
invariant-loop-other l = (j : ℕ) (d : Access) → l.one < j → j < l.other
    → ¬ Overlaps (slice_index_or l.accesses l.one d).span (slice_index_or l.accesses j d).span
