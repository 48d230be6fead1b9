-- one more access is added
use Rattle.std.proofs.lemmas.List.Elements.{All-more}
use Rattle.region_deps.specs.Lines.{IsSmall}
use Rattle.region_deps.proofs.RegionLemmas.{added_more}
use Rattle.region_deps.proofs.regions.add.Goals as goal

pub loop-access-preserved : goal.loop-access-preserved
loop-access-preserved c = record {
  added = added_more c.args.task c.args.def.now.rank c.as_slice-accesses.result.now c.loop-access.access-index _ _ _ _ _ c.loop-access-test.true
      c.loop-access.invariant.added c.region_of.ensures.region c.in_ok-push.ensures.items;
  small = All-more IsSmall c.as_slice-accesses.result.now c.loop-access.access-index _ c.loop-access-test.true c.loop-access.invariant.small
      c.region_of.ensures.small;
}
