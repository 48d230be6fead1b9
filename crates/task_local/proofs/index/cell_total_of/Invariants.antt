use Rattle.std.proofs.Common.{◌≡◌, take}
use Rattle.task_local.specs.Kept.{cell_total}
use Rattle.task_local.proofs.index.cell_total_of.Given as goal

-- the cells of the regions so far
abbrev pub invariant-loop-region : goal.invariant-loop-region
invariant-loop-region l = l.total ≡ cell_total (take l.region-index l.ordered)
