-- none of the segments so far was touched
use Rattle.std.specs.Prelude.{◌≡◌, replicate}
use Rattle.region_deps.specs.Segments.{untouched}
use Rattle.region_deps.proofs.segments.fresh.Given as goal

abbrev pub invariant-loop-segment : goal.invariant-loop-segment
invariant-loop-segment l = l.fresh.items ≡ replicate l._segment untouched
