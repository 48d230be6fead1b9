use Rattle.std.proofs.Common.{subst, sym, refl}
use Rattle.std.proofs.lemmas.Int.{SFits-int_wrap}
use Rattle.block_kernels.specs.Lanes.{Fit, wrapped_sum}
use Rattle.block_kernels.proofs.Groups.{summed_lanes, fit-zip}
use Rattle.block_kernels.proofs.folds.added_lanes.Goals as goal

pub returns-clause-value : goal.returns-clause-value
returns-clause-value c = summed_lanes _ (λ m n. refl) c.args.one c.args.other c.requires.one c.requires.other

pub returns-clause-fit : goal.returns-clause-fit
returns-clause-fit c =
    subst Fit (sym (summed_lanes _ (λ m n. refl) c.args.one c.args.other c.requires.one c.requires.other))
    (fit-zip wrapped_sum (λ x y fit fits. SFits-int_wrap _ _) c.args.one c.args.other c.requires.one c.requires.other)
