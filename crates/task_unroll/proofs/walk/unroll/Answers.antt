use Rattle.std.proofs.lemmas.Option.{slice_get_past}
use Rattle.task_unroll.specs.Steps.{spot}
use Rattle.task_unroll.proofs.PlaceLemmas.{found_at}
use Rattle.task_unroll.proofs.Measures.{falls}
use Rattle.task_unroll.proofs.StepLemmas.{starts, goes_on, refuses, ends}
use Rattle.task_unroll.proofs.walk.unroll.Goals as goal

-- at first the whole text is left to do
pub loop-stmt-init : goal.loop-stmt-init
loop-stmt-init c = λ whole e. rw c.none.ensures (starts c.args.stmts.now whole c.args.state.now e)

pub step-requires-clause-here : goal.step-requires-clause-here
step-requires-clause-here c = found_at c.args.stmts.now _ _ c.in-Some.ensures.lookup.3

-- each step counts, or goes on to a later place
pub loop-stmt-smaller : goal.loop-stmt-smaller
loop-stmt-smaller c =
    falls c.args.stmts.now (spot c.loop-stmt.state c.loop-stmt.walk.place c.loop-stmt.walk.levels)
    (spot c.step.new.state c.step.new.self.place c.step.new.self.levels)
    c.in-Some.stmt.now (found_at c.args.stmts.now _ _ c.in-Some.ensures.lookup.3) c.in-Ok.ensures

-- each step goes on with what is left to do
pub loop-stmt-preserved : goal.loop-stmt-preserved
loop-stmt-preserved c = λ whole e.
    goes_on c.args.stmts.now _ (spot c.loop-stmt.state c.loop-stmt.walk.place c.loop-stmt.walk.levels)
    (spot c.step.new.state c.step.new.self.place c.step.new.self.levels)
    c.in-Some.stmt.now (found_at c.args.stmts.now _ _ c.in-Some.ensures.lookup.3) (c.loop-stmt.invariant whole e) c.in-Ok.ensures

-- a refusal of a step is the refusal of the text
pub returns-in-Err : goal.returns-in-Err
returns-in-Err c = λ whole e.
    refuses c.args.stmts.now _ (spot c.loop-stmt.state c.loop-stmt.walk.place c.loop-stmt.walk.levels)
    c.in-Some.stmt.now c.in-Err.refusal (found_at c.args.stmts.now _ _ c.in-Some.ensures.lookup.3) (c.loop-stmt.invariant whole e) c.in-Err.ensures

-- at the end of the text nothing is left to do
pub returns : goal.returns
returns c = λ whole e.
    ends c.args.stmts.now _ (spot c.loop-stmt.state c.loop-stmt.walk.place c.loop-stmt.walk.levels)
    (slice_get_past c.args.stmts.now c.loop-stmt.walk.place c.in_default.ensures.lookup.3) (c.loop-stmt.invariant whole e)
