-- the regions so far are linked
use Rattle.std.specs.Prelude.{◌≡◌, length}
use Rattle.region_deps.proofs.LinkLemmas.{IsLinked}
use Rattle.region_deps.proofs.segments.linked.Given as goal

abbrev pub invariant-loop-number : goal.invariant-loop-number
invariant-loop-number l = record {
  linked : IsLinked l.regions l.number l.segments.items l.links.items;
  long : length l.segments.items ≡ l.fn.segments;
}
