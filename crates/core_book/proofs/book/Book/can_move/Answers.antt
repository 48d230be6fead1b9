-- A task that was not started asks the dependency graph, and another the number of things for which it waits.
use Rattle.std.proofs.Common.{arith}
use Rattle.rt_base.specs.declared.data.Phase.TheVariants as phase
use Rattle.core_book.proofs.Insides.{parts_of}
use Rattle.book_parts.proofs.Questions.{can_move_answer, waiting_answer}
use Rattle.book_parts.proofs.Quiet.{can_move_started, past_stays, exists_at}
use Rattle.core_book.proofs.book.Book.can_move.Goals as goal

pub returns-then-task-len : goal.returns-then-task-len
returns-then-task-len c =
    past_stays (parts_of c.self.inside) c.args.task.0 c.args.self.now c.args.prog.now c.self.invariant.kept c.self.view_is c.requires.same (omega arith)

pub returns-then-is_waiting : goal.returns-then-is_waiting
returns-then-is_waiting c =
    let s = parts_of c.self.inside in
    let k = c.self.invariant.kept in
    can_move_answer s c.args.task.0 phase.Waiting c.index.result.now c.may_start.result c.args.self.now c.args.prog.now k c.self.view_is c.requires.same
    (exists_at s c.args.task.0 c.args.self.now c.args.prog.now k c.self.view_is c.requires.same (omega arith)) c.index.ensures
    (c.is_waiting.ensures.0 c.if-is_waiting.true)
    (λ def task is_def is_task. waiting_answer s c.args.task.0 c.may_start.result k c.may_start.ensures)

pub returns-else-is_waiting : goal.returns-else-is_waiting
returns-else-is_waiting c =
    let s = parts_of c.self.inside in
    can_move_started s c.args.task.0 c.at.result c.index.result.now c.args.self.now c.args.prog.now c.self.invariant c.self.view_is c.requires.same
    (exists_at s c.args.task.0 c.args.self.now c.args.prog.now c.self.invariant.kept c.self.view_is c.requires.same (omega arith)) c.index.ensures
    (λ waits. absurd (cc (c.is_waiting.ensures.1 waits, c.if-is_waiting.false))) c.at.ensures
