use Rattle.std.proofs.Common.{◌≡◌, ℤ, fold, take, map, subst, sym, to_z, w64, arith, rules, refl, length, ◌/◌, ◌*◌}
use Rattle.std.proofs.lemmas.Int.{to_z-of_z}
use Rattle.std.specs.Int.{int_min}
use Rattle.block_kernels.specs.Lanes.{Fit}
use Rattle.block_kernels.proofs.Groups.{grouped_none, grouped_more, grouped_all, kept_bits, least_in_any_order}
use Rattle.block_kernels.proofs.folds.least_by_lanes.Goals as goal

pub loop-k-init : goal.loop-k-init
loop-k-init c = grouped_none _ _ (least_in_any_order _) _ _ (search rules) refl

pub least_lanes-lanes-requires-clause-one : goal.least_lanes-lanes-requires-clause-one
least_lanes-lanes-requires-clause-one c = c.loop-k.invariant.fit

pub least_lanes-lanes-requires-clause-other : goal.least_lanes-lanes-requires-clause-other
least_lanes-lanes-requires-clause-other c = subst Fit (sym (kept_bits _ c.lanes_at.ensures.fit)) c.lanes_at.ensures.fit

pub loop-k-preserved : goal.loop-k-preserved
loop-k-preserved c =
    grouped_more _ _ (least_in_any_order _) _ _ _ _ _ (omega arith) c.loop-k.invariant c.lanes_at.ensures.cells c.lanes_at.ensures.fit
    c.least_lanes-lanes.ensures.value c.least_lanes-lanes.ensures.fit

pub returns : goal.returns
returns c =
    subst (λ (n : ℤ). fold int_min n (map (to_z w64) c.loop-k.lanes) ≡ fold int_min n (take (length c.args.left.now / 8 * 8) c.args.left.now))
    (to_z-of_z w64 c.args.first c.ranges.first) (grouped_all _ _ _ _ _ _ c.loop-k.invariant (omega arith))
