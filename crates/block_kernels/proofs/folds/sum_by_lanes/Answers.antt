use Rattle.std.proofs.Common.{subst, sym, arith, rules, refl}
use Rattle.block_kernels.specs.Lanes.{Fit}
use Rattle.block_kernels.proofs.Groups.{grouped_none, grouped_more, grouped_all, kept_bits, sums_in_any_order}
use Rattle.block_kernels.proofs.folds.sum_by_lanes.Goals as goal

pub loop-k-init : goal.loop-k-init
loop-k-init c = grouped_none _ _ sums_in_any_order _ _ (search rules) refl

pub added_lanes-lanes-requires-clause-one : goal.added_lanes-lanes-requires-clause-one
added_lanes-lanes-requires-clause-one c = c.loop-k.invariant.fit

pub added_lanes-lanes-requires-clause-other : goal.added_lanes-lanes-requires-clause-other
added_lanes-lanes-requires-clause-other c = subst Fit (sym (kept_bits _ c.lanes_at.ensures.fit)) c.lanes_at.ensures.fit

pub loop-k-preserved : goal.loop-k-preserved
loop-k-preserved c =
    grouped_more _ _ sums_in_any_order _ _ _ _ _ (omega arith) c.loop-k.invariant c.lanes_at.ensures.cells c.lanes_at.ensures.fit
    c.added_lanes-lanes.ensures.value c.added_lanes-lanes.ensures.fit

pub returns : goal.returns
returns c = grouped_all _ _ _ _ _ _ c.loop-k.invariant (omega arith)
