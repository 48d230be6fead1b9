-- After its local operations the record is before the move that the standing says.
use Rattle.std.proofs.Common.{sym, ◌∙◌, subst}
use Rattle.task_local.specs.StandsFor.{Record}
use Rattle.book_parts.specs.Ledger.{MakesMove}
use Rattle.task_local.specs.Standing.{def}
use Rattle.task_machine.specs.Legal.{final}
use Rattle.plain_run.proofs.Before.{is_before, not_local, not_fresh, at_call, in_operation, has_ended}
use Rattle.plain_run.proofs.run.move_one.Goals as goal

pub unreachable-requires : goal.unreachable-requires
unreachable-requires c =
    let p = c.args.prog.now in
    let mid = c.run_local.new.self in
    let b = is_before p (final p c.args.book.now.history) c.args.book.now.handed c.args.rec.now.task c.args.rec.now mid c.requires.in_line
    c.requires.started c.requires.enabled c.run_local.ensures in
    not_local (def mid) mid.phase b.able (sym c.at.ensures.at ∙ c.in-Local.is)

pub unreachable-requires-in-Fresh : goal.unreachable-requires-in-Fresh
unreachable-requires-in-Fresh c =
    let p = c.args.prog.now in
    let mid = c.run_local.new.self in
    let b = is_before p (final p c.args.book.now.history) c.args.book.now.handed c.args.rec.now.task c.args.rec.now mid c.requires.in_line
    c.requires.started c.requires.enabled c.run_local.ensures in
    not_fresh (def mid) mid.phase b.able b.started (sym c.at.ensures.at ∙ c.in-Fresh.is)

pub call-requires-clause-stands : goal.call-requires-clause-stands
call-requires-clause-stands c =
    let p = c.args.prog.now in
    let mid = c.run_local.new.self in
    (is_before p (final p c.args.book.now.history) c.args.book.now.handed c.args.rec.now.task c.args.rec.now mid c.requires.in_line
    c.requires.started c.requires.enabled c.run_local.ensures).stands

pub call-requires-clause-before : goal.call-requires-clause-before
call-requires-clause-before c =
    let p = c.args.prog.now in
    let mid = c.run_local.new.self in
    let b = is_before p (final p c.args.book.now.history) c.args.book.now.handed c.args.rec.now.task c.args.rec.now mid c.requires.in_line
    c.requires.started c.requires.enabled c.run_local.ensures in
    at_call (def mid) mid.phase c.in-Call.field-0 b.able (sym c.at.ensures.at ∙ c.in-Call.is)

pub leave-requires-clause-within : goal.leave-requires-clause-within
leave-requires-clause-within c =
    let p = c.args.prog.now in
    let mid = c.run_local.new.self in
    let b = is_before p (final p c.args.book.now.history) c.args.book.now.handed c.args.rec.now.task c.args.rec.now mid c.requires.in_line
    c.requires.started c.requires.enabled c.run_local.ensures in
    in_operation (def mid) mid.phase c.in-In.field-0 b.able (sym c.at.ensures.at ∙ c.in-In.is)

pub ret-requires-clause-stands : goal.ret-requires-clause-stands
ret-requires-clause-stands c =
    let p = c.args.prog.now in
    let mid = c.run_local.new.self in
    (is_before p (final p c.args.book.now.history) c.args.book.now.handed c.args.rec.now.task c.args.rec.now mid c.requires.in_line
    c.requires.started c.requires.enabled c.run_local.ensures).stands

pub ret-requires-clause-ended : goal.ret-requires-clause-ended
ret-requires-clause-ended c =
    let p = c.args.prog.now in
    let mid = c.run_local.new.self in
    let b = is_before p (final p c.args.book.now.history) c.args.book.now.handed c.args.rec.now.task c.args.rec.now mid c.requires.in_line
    c.requires.started c.requires.enabled c.run_local.ensures in
    has_ended (def mid) mid.phase b.able (sym c.at.ensures.at ∙ c.in-Ended.is)

pub returns-in_ok-cells-in-Call : goal.returns-in_ok-cells-in-Call
returns-in_ok-cells-in-Call c = subst (λ (z : Record). MakesMove c.args.book.now c.call.new.self z c.call.new.rec) c.run_local.ensures c.call.ensures.moves

pub returns-in-In : goal.returns-in-In
returns-in-In c = subst (λ (z : Record). MakesMove c.args.book.now c.leave.new.self z c.leave.new.rec) c.run_local.ensures c.leave.ensures

pub returns-in-Ended : goal.returns-in-Ended
returns-in-Ended c = subst (λ (z : Record). MakesMove c.args.book.now c.ret.new.self z c.ret.new.rec) c.run_local.ensures c.ret.ensures

pub returns-in-Returned : goal.returns-in-Returned
returns-in-Returned c = subst (λ (z : Record). MakesMove c.args.book.now c.release.new.self z c.release.new.rec) c.run_local.ensures c.release.ensures
