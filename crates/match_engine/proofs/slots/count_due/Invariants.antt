use Rattle.std.proofs.Common.{◌≡◌, take, sum_by, count_by, vec_items}
use Rattle.match_engine.specs.Slots.{is_due}
use Rattle.match_engine.proofs.slots.count_due.Given as goal

-- the count so far
abbrev pub invariant-loop-row : goal.invariant-loop-row
invariant-loop-row l = l.count ≡ sum_by (λ row. count_by (is_due l.side l.rank) (vec_items row)) (take l.row-index l.rows)
