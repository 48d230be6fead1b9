use Rattle.std.proofs.Common.{◌≡◌, length, take, pos, ◌+ℤ◌, ◌*ℤ◌}
use Rattle.block_kernels.specs.Kernels.{ramped, wrapped}
use Rattle.block_kernels.proofs.lanes.ramp.Given as goal

-- what is written so far is the front of the answer, and `next` is the value of cell i
abbrev pub invariant-loop-i : goal.invariant-loop-i
invariant-loop-i l = record {
  front : take l.i l.dst ≡ take l.i (ramped (length l.initial.dst) l.value l.step);
  next : l.next ≡ wrapped (l.value +ℤ (pos l.i *ℤ l.step));
}
