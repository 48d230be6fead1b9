use Rattle.std.proofs.Common.{subst, sym, refl}
use Rattle.std.specs.Int.{int_max}
use Rattle.block_kernels.specs.Lanes.{Fit}
use Rattle.block_kernels.proofs.Groups.{greatest_of_lanes, greatest-fits, fit-zip}
use Rattle.block_kernels.proofs.folds.greatest_lanes.Goals as goal

pub returns-clause-value : goal.returns-clause-value
returns-clause-value c = greatest_of_lanes _ (λ m n. refl) c.args.one c.args.other c.requires.one c.requires.other

pub returns-clause-fit : goal.returns-clause-fit
returns-clause-fit c =
    subst Fit (sym (greatest_of_lanes _ (λ m n. refl) c.args.one c.args.other c.requires.one c.requires.other))
    (fit-zip int_max greatest-fits c.args.one c.args.other c.requires.one c.requires.other)
