use Rattle.task_machine.specs.Legal.{final}
use Rattle.book_parts.proofs.Questions.{NoneBefore}
use Rattle.plain_run.proofs.run.first_able.Given as goal

-- none of the tasks so far may move
abbrev pub invariant-loop-t : goal.invariant-loop-t
invariant-loop-t l = NoneBefore l.prog (final l.prog l.book.history) l.t
