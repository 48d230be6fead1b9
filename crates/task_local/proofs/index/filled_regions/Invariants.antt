use Rattle.std.proofs.Common.{◌≡◌, ◌++◌, drop, filter}
use Rattle.task_local.specs.Regions.{numbered}
use Rattle.task_local.specs.Kept.{is_nonempty}
use Rattle.task_local.proofs.index.filled_regions.Given as goal

-- the filled accesses so far, and those of the accesses that are left, are all of them
abbrev pub invariant-loop-k : goal.invariant-loop-k
invariant-loop-k l = l.found.items ++ filter is_nonempty (numbered l.k (drop l.k l.accesses)) ≡ filter is_nonempty (numbered 0 l.accesses)
