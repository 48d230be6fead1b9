use Rattle.std.proofs.Common.{◌≡◌, ◌+◌, length, drop}
use Rattle.rt_base.specs.Layout.{memory_len}
use Rattle.task_local.specs.Regions.{saved_regions}
use Rattle.task_local.specs.Kept.{cell_total}
use Rattle.task_local.proofs.memory.save_regions.Given as goal

-- what putting back the regions that are left makes of the memory so far
abbrev pub invariant-loop-region : goal.invariant-loop-region
invariant-loop-region l = record {
  value : saved_regions l.prog l.rank (drop l.region-index l.ordered) (drop l.at l.copy) l.memory ≡ saved_regions l.prog l.rank l.ordered l.copy l.fn.memory;
  left : l.at + cell_total (drop l.region-index l.ordered) ≡ length l.copy;
  whole : length l.memory ≡ memory_len l.prog;
}
