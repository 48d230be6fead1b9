use Rattle.std.proofs.Common.{ℕ, ◌-◌, ◌<◌, ◌≤◌, length, slice_index_or}
use Rattle.cell_spans.proofs.sorted.count_below.Given as goal

-- numbers before these bounds are below the limit, and those after them are not
abbrev pub invariant-loop-low : goal.invariant-loop-low
invariant-loop-low l = record {
  ordered : l.low ≤ l.high;
  within : l.high ≤ length l.numbers;
  before : (k : ℕ) → k < l.low → slice_index_or l.numbers k 0 < l.limit;
  after : (k : ℕ) → l.high ≤ k → k < length l.numbers → l.limit ≤ slice_index_or l.numbers k 0;
}

abbrev pub decreases-loop-low : goal.decreases-loop-low
decreases-loop-low l = l.high - l.low
