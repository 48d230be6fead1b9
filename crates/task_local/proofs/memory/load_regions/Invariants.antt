use Rattle.std.proofs.Common.{◌≡◌, ◌+◌, ◌++◌, length, take, drop}
use Rattle.task_local.specs.Regions.{loaded_regions}
use Rattle.task_local.specs.Kept.{cell_total}
use Rattle.task_local.proofs.memory.load_regions.Given as goal

-- the cells so far, and those of the regions that are left, are all cells
abbrev pub invariant-loop-region : goal.invariant-loop-region
invariant-loop-region l = record {
  value : take l.at l.copy ++ loaded_regions l.prog l.rank (drop l.region-index l.ordered) l.memory ≡ loaded_regions l.prog l.rank l.ordered l.memory;
  left : l.at + cell_total (drop l.region-index l.ordered) ≡ length l.copy;
}
