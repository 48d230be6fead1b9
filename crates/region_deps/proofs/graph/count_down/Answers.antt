-- one more link is taken off, and at the end all are
use Rattle.std.proofs.Common.{arith, rules}
use Rattle.region_deps.proofs.QueueLemmas.{down_more, down_all}
use Rattle.region_deps.proofs.graph.count_down.Goals as goal

pub loop-link-preserved : goal.loop-link-preserved
loop-link-preserved c = record {
  down = down_more c.args.links.now c.loop-link.link-index _ _ c.loop-link.left.items _ c.loop-link-test.true
      (search rules) c.loop-link.invariant.down c.one_less.ensures.left;
  queued = λ handed q. c.one_less.ensures.queued handed (c.loop-link.invariant.queued handed q);
  room = c.one_less.ensures.room;
}

pub returns-clause-left : goal.returns-clause-left
returns-clause-left c = down_all c.args.links.now c.loop-link.link-index _ c.loop-link.left.items (omega arith) c.loop-link.invariant.down
