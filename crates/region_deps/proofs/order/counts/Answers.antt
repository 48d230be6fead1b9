-- one more link is counted
use Rattle.std.proofs.Common.{arith}
use Rattle.region_deps.specs.Links.{link}
use Rattle.region_deps.proofs.LayoutLemmas.{counted_more, counted_within}
use Rattle.region_deps.proofs.order.counts.Goals as goal

pub overflow_add-index_mut : goal.overflow_add-index_mut
overflow_add-index_mut c =
    omega (
      arith,
      counted_within c.args.links.now c.loop-link.link-index c.args.tasks c.loop-link.left.items (link 0 0) c.index_mut.result.now c.loop-link-test.true
          (c.requires c.loop-link.link-index (link 0 0) c.loop-link-test.true) c.loop-link.invariant c.index_mut.ensures.value,
    )

pub loop-link-preserved : goal.loop-link-preserved
loop-link-preserved c =
    counted_more c.args.links.now c.loop-link.link-index c.args.tasks c.loop-link.left.items (link 0 0) c.index_mut.result.now c.loop-link-test.true
    (c.requires c.loop-link.link-index (link 0 0) c.loop-link-test.true) c.loop-link.invariant c.index_mut.ensures.value
