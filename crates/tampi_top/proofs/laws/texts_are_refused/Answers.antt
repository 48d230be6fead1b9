use Rattle.tampi_top.proofs.CauseLemmas.{texts_are_refused}
use Rattle.tampi_top.proofs.laws.texts_are_refused.Goals as goal

pub returns : goal.returns
returns c = texts_are_refused c.one_outcome_a_text.ensures c.one_text_in_blocks.ensures
