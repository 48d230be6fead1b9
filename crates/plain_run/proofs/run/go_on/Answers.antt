-- A task that may move where none is ready was started, and its record goes on.
use Rattle.std.proofs.Common.{refl, get_or}
use Rattle.task_machine.specs.Legal.{final}
use Rattle.plain_run.proofs.Picks.{task_exists, line_here, own_line, own_may, was_started, goes_on_started, quiet_here}
use Rattle.plain_run.proofs.run.go_on.Goals as goal

pub move_one-requires-clause-in_line : goal.move_one-requires-clause-in_line
move_one-requires-clause-in_line c =
    let p = c.args.prog.now in
    let old = c.args.book.now in
    let t = c.in-Some.task.0 in
    let own = line_here p old c.args.recs.now t c.index-recs-task.result c.requires.same c.requires.in_line
    (task_exists p old t c.requires.same c.in-Some.ensures.some) in
    own_line p (final p old.history) old.handed t (get_or c.args.recs.now t c.index-recs-task.result) own

pub move_one-requires-clause-started : goal.move_one-requires-clause-started
move_one-requires-clause-started c =
    let p = c.args.prog.now in
    let old = c.args.book.now in
    let t = c.in-Some.task.0 in
    let own = line_here p old c.args.recs.now t c.index-recs-task.result c.requires.same c.requires.in_line
    (task_exists p old t c.requires.same c.in-Some.ensures.some) in
    was_started p old t (get_or c.args.recs.now t c.index-recs-task.result) c.requires.same own c.in-Some.ensures.some c.requires.none_ready

pub move_one-requires-clause-enabled : goal.move_one-requires-clause-enabled
move_one-requires-clause-enabled c =
    let p = c.args.prog.now in
    let old = c.args.book.now in
    let t = c.in-Some.task.0 in
    let own = line_here p old c.args.recs.now t c.index-recs-task.result c.requires.same c.requires.in_line
    (task_exists p old t c.requires.same c.in-Some.ensures.some) in
    own_may p (final p old.history) old.handed t (get_or c.args.recs.now t c.index-recs-task.result) own c.in-Some.ensures.some

pub returns-in_ok-push-in-Some : goal.returns-in_ok-push-in-Some
returns-in_ok-push-in-Some c =
    goes_on_started c.args.prog.now c.args.book.now c.move_one.new.book c.args.recs.now c.in-Some.task.0 c.index-recs-task.result c.move_one.new.rec
    c.requires.same c.requires.in_line
    c.in-Some.ensures.some c.requires.none_ready c.in_ok-move_one-in-Some.ensures

pub returns-in-None : goal.returns-in-None
returns-in-None c = (refl, quiet_here c.args.prog.now c.args.book.now c.requires.same c.in-None.ensures.none)
