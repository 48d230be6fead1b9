-- each place so far has the links of lower sources before it, and the others behind
use Rattle.std.specs.Prelude.{◌≡◌, ℕ, ◌<◌, length, slice_index_or}
use Rattle.region_deps.specs.Queues.{IsPlace}
use Rattle.region_deps.proofs.order.places.Given as goal

abbrev pub invariant-loop-source : goal.invariant-loop-source
invariant-loop-source l = record {
  long : length l.first.items ≡ l.source;
  place : (source : ℕ) → source < l.source → IsPlace l.links source (slice_index_or l.first.items source 0);
}
