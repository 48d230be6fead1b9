-- the links so far are taken off
use Rattle.std.specs.Prelude.{List, Bool, vec_capacity}
use Rattle.region_deps.specs.Queues.{IsQueued, HasRoom}
use Rattle.region_deps.proofs.QueueLemmas.{IsCountedDown}
use Rattle.region_deps.proofs.graph.count_down.Given as goal

abbrev pub invariant-loop-link : goal.invariant-loop-link
invariant-loop-link l = record {
  down : IsCountedDown l.links l.link-index l.initial.left.items l.left.items;
  queued : (handed : List Bool) → IsQueued l.initial.left.items handed l.initial.startable.items → IsQueued l.left.items handed l.startable.items;
  room : HasRoom l.left.items l.startable.items (vec_capacity l.startable);
}
