use Rattle.std.proofs.Common.{subst, sym, refl}
use Rattle.std.specs.Int.{int_min}
use Rattle.block_kernels.specs.Lanes.{Fit}
use Rattle.block_kernels.proofs.Groups.{least_of_lanes, least-fits, fit-zip}
use Rattle.block_kernels.proofs.folds.least_lanes.Goals as goal

pub returns-clause-value : goal.returns-clause-value
returns-clause-value c = least_of_lanes _ (λ m n. refl) c.args.one c.args.other c.requires.one c.requires.other

pub returns-clause-fit : goal.returns-clause-fit
returns-clause-fit c =
    subst Fit (sym (least_of_lanes _ (λ m n. refl) c.args.one c.args.other c.requires.one c.requires.other))
    (fit-zip int_min least-fits c.args.one c.args.other c.requires.one c.requires.other)
