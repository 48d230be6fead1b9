use Rattle.history_laws.proofs.Notified.{noticed_law}
use Rattle.history_laws.proofs.moves_notice_completions.Goals as goal

pub returns : goal.returns
returns c = noticed_law
