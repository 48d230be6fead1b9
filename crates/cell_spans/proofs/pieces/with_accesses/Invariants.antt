use Rattle.std.proofs.Common.{◌≡◌, ◌+◌, ◌≤◌, take}
use Rattle.cell_spans.specs.Cuts.{cut_by_accesses}
use Rattle.cell_spans.proofs.pieces.with_accesses.Given as goal

-- the pieces of the accesses so far are counted
abbrev pub invariant-loop-access : goal.invariant-loop-access
invariant-loop-access l = record {
  total : l.total ≡ l.sum + cut_by_accesses l.cuts l.rank (take l.access-index l.accesses);
  within : l.total ≤ l.most;
}
