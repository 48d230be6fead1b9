use Rattle.history_laws.proofs.Handles.{handles_law}
use Rattle.history_laws.proofs.well_formed_waits_name_posted.Goals as goal

pub returns : goal.returns
returns c = handles_law
