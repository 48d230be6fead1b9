-- The records stay in line with the book, and the last turn finds that no task may move.
use Rattle.std.proofs.Common.{ap, arith}
use Rattle.book_parts.specs.Ledger.{Ledger}
use Rattle.plain_run.proofs.Lines.{line_at_opening, still_running, quiet_end, told_end}
use Rattle.plain_run.proofs.run.run_plainly.Goals as goal

pub loop-again-init : goal.loop-again-init
loop-again-init c = record {
  of_program = ap (λ (l : Ledger). l.program) c.in_ok-book.ensures;
  alone = ap (λ (l : Ledger). l.workers) c.in_ok-book.ensures;
  in_line = line_at_opening c.args.prog.now 1 c.in_ok-book.book c.in_ok-recs.recs.items c.in_ok-book.ensures c.in_ok-recs.ensures.count
      c.in_ok-recs.ensures.fresh;
}

pub loop-again-preserved : goal.loop-again-preserved
loop-again-preserved c =
    still_running c.args.prog.now c.loop-again.book c.turn.new.book c.loop-again.recs.items c.turn.new.recs c.loop-again.recs.len c.in_ok-turn.field-0
    (omega arith) c.loop-again.invariant c.in_ok-turn.ensures.turn c.if-branch.true

pub returns-clause-quiet : goal.returns-clause-quiet
returns-clause-quiet c =
    quiet_end c.args.prog.now c.loop-again.book c.turn.new.book c.turn.new.recs c.into_end.result.history.entries.items c.in_ok-turn.field-0
    c.loop-again.invariant.of_program c.into_end.ensures.history c.in_ok-turn.ensures.turn c.if-branch.false

pub returns-clause-told : goal.returns-clause-told
returns-clause-told c =
    told_end c.args.prog.now c.loop-again.book c.turn.new.book c.turn.new.recs c.into_end.result.history.entries.items c.in_ok-turn.field-0
    c.loop-again.invariant.of_program c.into_end.ensures.history c.in_ok-turn.ensures.turn c.if-branch.false c.in_ok-turn.ensures.told
