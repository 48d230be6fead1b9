-- one more head is counted, and at the end all are
use Rattle.std.proofs.Common.{arith}
use Rattle.region_deps.proofs.EpochLemmas.{sized_more, sized_within}
use Rattle.region_deps.proofs.epochs.group_sizes.Goals as goal

pub overflow_add-index_mut : goal.overflow_add-index_mut
overflow_add-index_mut c =
    omega (
      arith,
      sized_within c.args.heads.now c.loop-head.head-index c.loop-head.sizes.items c.index_mut.result.now c.loop-head-test.true
          (c.requires c.loop-head.head-index c.loop-head-test.true) c.loop-head.invariant c.index_mut.ensures.value,
    )

pub loop-head-preserved : goal.loop-head-preserved
loop-head-preserved c =
    sized_more c.args.heads.now c.loop-head.head-index c.loop-head.sizes.items c.index_mut.result.now c.loop-head-test.true
    (c.requires c.loop-head.head-index c.loop-head-test.true) c.loop-head.invariant c.index_mut.ensures.value
