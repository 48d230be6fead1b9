use Rattle.std.proofs.Common.{◌≡◌, take, map, vec_items}
use Rattle.match_engine.specs.Slots.{fresh_row}
use Rattle.match_engine.proofs.slots.Slots.build.Given as goal

-- the rows of the tasks so far
abbrev pub invariant-loop-task : goal.invariant-loop-task
invariant-loop-task l = map vec_items l.rows.items ≡ map fresh_row (take l.task-index l.prog.tasks.items)
