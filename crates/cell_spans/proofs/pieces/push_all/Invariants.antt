use Rattle.std.proofs.Common.{◌≡◌, ◌++◌, take}
use Rattle.cell_spans.specs.Covering.{AreSmall}
use Rattle.cell_spans.specs.Cuts.{bounds_of}
use Rattle.cell_spans.proofs.pieces.push_all.Given as goal

-- the bounds of the accesses so far are there, and their numbers fit
abbrev pub invariant-loop-access : goal.invariant-loop-access
invariant-loop-access l = record {
  bounds : l.bounds.items ≡ l.initial.bounds.items ++ bounds_of l.rank (take l.access-index l.accesses);
  small : AreSmall (take l.access-index l.accesses);
}
