use Rattle.std.proofs.Common.{◌≡◌, ◌<◌, ◌^◌, sum, IfOk, ℕ, ◌+◌, ◌-◌, ◌*◌, ◌≤◌, ◌++◌, drop, length}
use Rattle.rt_base.specs.Layout.{address, array_count, starts_from}
use Rattle.rt_base.specs.WellFormed.{WellFormed}
use Rattle.rt_base.proofs.layout.starts_of.Given as goal

-- the starts so far, and those of the arrays that are left
abbrev pub invariant-loop-len : goal.invariant-loop-len
invariant-loop-len l =
    (l.starts.items ++ starts_from l.cell (drop l.len-index l.lens) ≡ starts_from 0 l.lens)
    × (l.cell + sum (drop l.len-index l.lens) ≡ sum l.lens)
