use Rattle.tampi_top.proofs.AcceptedLemmas.{found_from, well_formed_from}
use Rattle.tampi_top.proofs.accepted.program_of.Goals as goal

pub returns-in-Ok-clause-found : goal.returns-in-Ok-clause-found
returns-in-Ok-clause-found c = found_from c.args.asked c.args.text.now _ c.unrolled.result c.in-Ok.ensures.tree c.unrolled.ensures.found

pub returns-in-Ok-clause-well_formed : goal.returns-in-Ok-clause-well_formed
returns-in-Ok-clause-well_formed c = well_formed_from c.args.text.now _ c.unrolled.result c.in-Ok.ensures.tree c.unrolled.ensures.well_formed
