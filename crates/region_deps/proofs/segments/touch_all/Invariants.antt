-- the region touched its segments so far
use Rattle.std.specs.Prelude.{◌≡◌, ◌<◌}
use Rattle.region_deps.specs.Segments.{IsTouched}
use Rattle.region_deps.proofs.segments.touch_all.Given as goal

abbrev pub invariant-loop-at : goal.invariant-loop-at
invariant-loop-at l = record {
  touched : IsTouched l.initial.segments.items l.segments.items l.region.from l.at l.number l.region.task l.region.writes l.initial.links.items l.links.items;
  upto : l.region.to < l.at → l.at ≡ l.region.from;
}
