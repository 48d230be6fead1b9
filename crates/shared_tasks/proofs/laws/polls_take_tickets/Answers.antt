use Rattle.shared_tasks.proofs.Owed.{first_ticket, poll_keeps}
use Rattle.shared_tasks.proofs.laws.polls_take_tickets.Goals as goal

pub returns-clause-notices : goal.returns-clause-notices
returns-clause-notices c = first_ticket

pub returns-clause-polls : goal.returns-clause-polls
returns-clause-polls c = poll_keeps
