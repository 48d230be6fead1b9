-- A notice is taken where one stands, and else a move is made.
use Rattle.plain_run.proofs.Polls.{goes_on_polled, none_left}
use Rattle.plain_run.proofs.run.turn.Goals as goal

pub returns-in_ok-push-clause-turn : goal.returns-in_ok-push-clause-turn
returns-in_ok-push-clause-turn c = goes_on_polled c.args.book.now c.poll-req.new.self c.args.recs.now 0 c.poll-req.result c.requires.in_line c.poll-req.ensures

pub returns-else-has_notice-clause-told : goal.returns-else-has_notice-clause-told
returns-else-has_notice-clause-told c =
    none_left c.args.prog.now c.args.book.now c.has_notice.result c.move_on.result c.requires.same c.has_notice.ensures c.if-has_notice.false
