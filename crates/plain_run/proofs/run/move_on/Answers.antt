-- A task that is ready has a fresh record, and starts.
use Rattle.std.proofs.Common.{get_or, subst, sym}
use Rattle.rt_base.specs.declared.data.Entry.{Entry}
use Rattle.std.specs.Prelude.{List, IfOk}
use Rattle.rt_base.specs.MayMove.{MayMove}
use Rattle.task_local.specs.StandsFor.{StandsFor}
use Rattle.book_parts.specs.Ledger.{Ledger}
use Rattle.task_machine.specs.Legal.{final}
use Rattle.plain_run.specs.Turns.{EndsTurn}
use Rattle.plain_run.proofs.Picks.{line_here, ready_exists, ready_waits, ready_may, ready_handed, given_history, goes_on_ready}
use Rattle.plain_run.proofs.run.move_on.Goals as goal

pub start-requires-clause-stands : goal.start-requires-clause-stands
start-requires-clause-stands c =
    let p = c.args.prog.now in
    let old = c.args.book.now in
    let t = c.in-Some.task.0 in
    let own = line_here p old c.args.recs.now t c.index-recs-task.result c.requires.same c.requires.in_line (ready_exists old t c.in-Some.ensures.startable) in
    subst (λ (es : List Entry). StandsFor p (get_or c.args.recs.now t c.index-recs-task.result) (final p es))
    (sym (given_history old c.ready.new.self t c.in-Some.ensures.handed)) own.stands

pub start-requires-clause-fresh : goal.start-requires-clause-fresh
start-requires-clause-fresh c =
    let p = c.args.prog.now in
    let old = c.args.book.now in
    let t = c.in-Some.task.0 in
    let own = line_here p old c.args.recs.now t c.index-recs-task.result c.requires.same c.requires.in_line (ready_exists old t c.in-Some.ensures.startable) in
    ready_waits p old t (get_or c.args.recs.now t c.index-recs-task.result) own c.in-Some.ensures.startable

pub start-requires-clause-enabled : goal.start-requires-clause-enabled
start-requires-clause-enabled c =
    let p = c.args.prog.now in
    let old = c.args.book.now in
    let t = c.in-Some.task.0 in
    let held = get_or c.args.recs.now t c.index-recs-task.result in
    let own = line_here p old c.args.recs.now t c.index-recs-task.result c.requires.same c.requires.in_line (ready_exists old t c.in-Some.ensures.startable) in
    subst (λ (es : List Entry). MayMove p (final p es) held.task) (sym (given_history old c.ready.new.self t c.in-Some.ensures.handed))
    (ready_may p old t held c.requires.same own c.in-Some.ensures.startable)

pub start-requires-clause-handed : goal.start-requires-clause-handed
start-requires-clause-handed c =
    let p = c.args.prog.now in
    let old = c.args.book.now in
    let t = c.in-Some.task.0 in
    let own = line_here p old c.args.recs.now t c.index-recs-task.result c.requires.same c.requires.in_line (ready_exists old t c.in-Some.ensures.startable) in
    ready_handed p old c.ready.new.self t (get_or c.args.recs.now t c.index-recs-task.result) own c.in-Some.ensures.handed c.in-Some.ensures.startable

pub returns-in_ok-push-in-Some : goal.returns-in_ok-push-in-Some
returns-in_ok-push-in-Some c =
    goes_on_ready c.args.prog.now c.args.book.now c.ready.new.self c.start.new.self c.args.recs.now c.in-Some.task.0 c.index-recs-task.result
    c.start.new.rec c.requires.same c.requires.in_line
    c.in-Some.ensures.startable c.in-Some.ensures.handed c.start.ensures

pub returns-in-None : goal.returns-in-None
returns-in-None c =
    subst (λ (l : Ledger). IfOk c.go_on.result (λ moved. EndsTurn l c.go_on.new.book c.go_on.new.recs moved)) c.in-None.ensures.unchanged c.go_on.ensures
