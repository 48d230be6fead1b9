-- each task has the count of its links so far
use Rattle.region_deps.proofs.LayoutLemmas.{IsCounted}
use Rattle.region_deps.proofs.order.counts.Given as goal

abbrev pub invariant-loop-link : goal.invariant-loop-link
invariant-loop-link l = IsCounted l.links l.link-index l.tasks l.left.items
