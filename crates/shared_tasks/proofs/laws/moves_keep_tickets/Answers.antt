use Rattle.shared_tasks.proofs.Owed.{none_owed, move_keeps}
use Rattle.shared_tasks.proofs.laws.moves_keep_tickets.Goals as goal

pub returns-clause-first : goal.returns-clause-first
returns-clause-first c = none_owed

pub returns-clause-moves : goal.returns-clause-moves
returns-clause-moves c = move_keeps
