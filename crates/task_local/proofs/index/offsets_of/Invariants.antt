use Rattle.std.proofs.Common.{◌≡◌, ℕ, ◌<◌, length, take, slice_index}
use Rattle.task_local.specs.Kept.{cell_total}
use Rattle.task_local.proofs.index.offsets_of.Given as goal

-- the offsets of the regions so far, and their cells
abbrev pub invariant-loop-region : goal.invariant-loop-region
invariant-loop-region l = record {
  len : length l.offsets.items ≡ l.region-index;
  total : l.total ≡ cell_total (take l.region-index l.ordered);
  before : (i : ℕ) → i < l.region-index → slice_index l.offsets.items i ≡ cell_total (take i l.ordered);
}
