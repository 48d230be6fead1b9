use Rattle.std.proofs.Common.{◌-◌, ◌≤◌, length}
use Rattle.std.specs.Io.KnownBytes.{Consumes}
use Rattle.tampi_top.proofs.reading.read_text.Given as goal

-- the text so far is what was taken
abbrev pub invariant-loop-buffer : goal.invariant-loop-buffer
invariant-loop-buffer g l = record {
  consumed : Consumes (g.S.ByteSource.rest l.fn.input) (g.S.ByteSource.rest l.input) l.text.items;
  later : g.S.ByteSource.faults l.fn.input ≤ g.S.ByteSource.faults l.input;
  short : length l.text.items ≤ 1048577;
}

abbrev pub decreases-loop-buffer : goal.decreases-loop-buffer
decreases-loop-buffer g l = 1048577 - length l.text.items
