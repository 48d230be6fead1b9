use Rattle.cell_spans.proofs.CutLemmas.{access_done, access_small}
use Rattle.cell_spans.proofs.pieces.push_all.Goals as goal

pub loop-access-preserved : goal.loop-access-preserved
loop-access-preserved c = record {
  bounds = access_done _ _ _ _ _ _ _ c.loop-access-test.true c.loop-access.invariant.bounds c.in_ok-push_bounds.ensures.bounds;
  small = access_small _ _ _ c.loop-access-test.true c.loop-access.invariant.small c.in_ok-push_bounds.ensures.small;
}
