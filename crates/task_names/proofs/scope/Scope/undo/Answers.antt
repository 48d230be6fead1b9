use Rattle.task_names.proofs.Undone.{popped, length_popped}
use Rattle.task_names.proofs.scope.Scope.undo.Goals as goal

pub loop-change-preserved : goal.loop-change-preserved
loop-change-preserved c =
    let now = c.loop-change.self-inside in (
      popped now.log c.pop.new.self c.in-Some.change now.mark now.names.entries c.write.new.names.entries _ c.in-Some.ensures.some c.write.ensures
          c.loop-change.invariant.0,
      length_popped now.names.entries c.write.new.names.entries now.mark c.in-Some.change c.write.ensures c.loop-change.invariant.1,
    )
