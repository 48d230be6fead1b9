use Rattle.tampi_top.proofs.CauseLemmas.{programs_are_run}
use Rattle.tampi_top.proofs.laws.programs_are_run.Goals as goal

pub returns : goal.returns
returns c = programs_are_run c.one_outcome_a_text.ensures c.one_text_in_blocks.ensures
