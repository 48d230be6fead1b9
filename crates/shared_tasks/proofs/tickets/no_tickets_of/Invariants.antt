use Rattle.std.proofs.Common.{◌≡◌, replicate, None}
use Rattle.shared_tasks.proofs.tickets.no_tickets_of.Given as goal

-- the places so far
abbrev pub invariant-loop : goal.invariant-loop
invariant-loop l = l.row.items ≡ replicate l.counter None
