-- one more region is linked, and at the end all are
use Rattle.std.proofs.Common.{◌∙◌, arith}
use Rattle.region_deps.proofs.ChainLemmas.{lies_within}
use Rattle.region_deps.proofs.LinkLemmas.{linked_more}
use Rattle.region_deps.proofs.segments.linked.Goals as goal

pub loop-number-preserved : goal.loop-number-preserved
loop-number-preserved c = record {
  linked = linked_more c.args.regions.now c.loop-number.number _ _ _ _ c.loop-number-test.true c.loop-number.invariant.linked c.in_ok-touch_all.ensures;
  long = c.in_ok-touch_all.ensures.long ∙ c.loop-number.invariant.long;
}

pub returns-clause-linked : goal.returns-clause-linked
returns-clause-linked c = λ at k j waits.
    c.loop-number.invariant.linked.made at k j (omega (arith, lies_within c.args.regions.now at j waits.clash.other, c.loop-number-test.false)) waits
