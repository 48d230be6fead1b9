use Rattle.std.proofs.Common.{◌≡◌, ◌++◌, take}
use Rattle.match_engine.specs.Routes.{row_of}
use Rattle.match_engine.proofs.routes.push_row.Given as goal

-- the ways of the slots so far are added
abbrev pub invariant-loop-slot : goal.invariant-loop-slot
invariant-loop-slot l = l.ways.items ≡ l.initial.ways.items ++ row_of l.keys (take l.slot-index l.row)
