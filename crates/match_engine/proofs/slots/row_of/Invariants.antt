use Rattle.std.proofs.Common.{◌≡◌, take, map, filter}
use Rattle.rt_base.specs.Operations.{is_posting}
use Rattle.match_engine.specs.Slots.{fresh_slot}
use Rattle.match_engine.proofs.slots.row_of.Given as goal

-- the slots of the operations so far
abbrev pub invariant-loop-operation : goal.invariant-loop-operation
invariant-loop-operation l = l.row.items ≡ map (fresh_slot l.task.rank) (filter is_posting (take l.operation-index l.task.body.items))
