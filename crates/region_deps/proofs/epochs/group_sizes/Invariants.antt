-- the groups of the heads so far are counted
use Rattle.region_deps.proofs.EpochLemmas.{IsSized}
use Rattle.region_deps.proofs.epochs.group_sizes.Given as goal

abbrev pub invariant-loop-head : goal.invariant-loop-head
invariant-loop-head l = IsSized l.heads l.head-index l.sizes.items
