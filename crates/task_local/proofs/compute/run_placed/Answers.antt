use Rattle.std.proofs.Common.{◌∙◌, subst}
use Rattle.task_local.specs.declared.compute.Way.{Way}
use Rattle.task_local.specs.Placed.{FitsWay}
use Rattle.task_local.proofs.Beside.{along_is}
use Rattle.task_local.proofs.compute.run_placed.Goals as goal

pub returns-in-Along : goal.returns-in-Along
returns-in-Along c =
    let is_copy = subst (λ (found : Way). FitsWay c.args.placed.now found) c.in-Along.is c.way_of.ensures in
    c.copy_along.ensures ∙ along_is c.args.placed.now c.args.copy.now is_copy c.requires.fits.left c.requires.fits.takes
