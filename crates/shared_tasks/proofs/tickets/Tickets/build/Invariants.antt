use Rattle.std.proofs.Common.{◌≡◌, take, map, vec_items}
use Rattle.shared_tasks.specs.Owing.{no_tickets_for}
use Rattle.shared_tasks.proofs.tickets.Tickets.build.Given as goal

-- the rows of the tasks so far
abbrev pub invariant-loop-task : goal.invariant-loop-task
invariant-loop-task l = map vec_items l.rows.items ≡ map no_tickets_for (take l.task-index l.prog.tasks.items)
