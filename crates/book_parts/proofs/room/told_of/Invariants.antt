use Rattle.std.proofs.Common.{◌≡◌, take}
use Rattle.std.specs.Prelude.{sum_by}
use Rattle.run_bounds.specs.Bounds.{tells}
use Rattle.book_parts.proofs.room.told_of.Given as goal

-- what the operations so far tell
abbrev pub invariant-loop-operation : goal.invariant-loop-operation
invariant-loop-operation l = l.count ≡ sum_by tells (take l.operation-index l.body)
