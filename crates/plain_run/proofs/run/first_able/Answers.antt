-- No task may move where none was found that may.
use Rattle.std.proofs.Common.{arith}
use Rattle.task_machine.specs.Legal.{final}
use Rattle.book_parts.proofs.Questions.{quiet_of_all, none_before_more}
use Rattle.plain_run.proofs.run.first_able.Goals as goal

pub loop-t-preserved : goal.loop-t-preserved
loop-t-preserved c =
    none_before_more c.args.prog.now (final c.args.prog.now c.args.book.now.history) c.loop-t.t c.loop-t.invariant
    (λ may. absurd (cc (c.can_move.ensures.1 may, c.if-can_move.false)))

pub returns-clause-none : goal.returns-clause-none
returns-clause-none c = quiet_of_all c.args.prog.now (final c.args.prog.now c.args.book.now.history) c.loop-t.t (omega arith) c.loop-t.invariant
