-- none of the accesses so far overlaps with one behind it
use Rattle.std.specs.Prelude.{ℕ, ◌<◌, length, slice_index_or}
use Rattle.rt_base.specs.declared.data.Access.{Access}
use Rattle.rt_base.specs.Spans.{Overlaps}
use Rattle.region_deps.proofs.deps.tests.orderly.are_apart.Given as goal

abbrev pub invariant-loop-one : goal.invariant-loop-one
invariant-loop-one l = (i j : ℕ) (d : Access) → i < l.one → i < j → j < length l.accesses
    → ¬ Overlaps (slice_index_or l.accesses i d).span (slice_index_or l.accesses j d).span
