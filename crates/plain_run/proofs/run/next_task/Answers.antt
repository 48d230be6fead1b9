-- Where the book is quiet no task may move.
use Rattle.plain_run.proofs.run.next_task.Goals as goal

pub returns-then-quiet-clause-none : goal.returns-then-quiet-clause-none
returns-then-quiet-clause-none c = c.quiet.ensures.0 c.if-quiet.true
