use Rattle.std.proofs.Common.{◌≡◌, ◌+◌, ◌-◌, ◌≤◌, length, drop}
use Rattle.task_unroll.specs.Ends.{skipped}
use Rattle.task_unroll.proofs.ends.close_of.Given as goal

-- what is skipped from here comes to what is skipped from the beginning
abbrev pub invariant-loop-place : goal.invariant-loop-place
invariant-loop-place l =
    (l.place + skipped l.depth (drop l.place l.stmts) ≡ l.from + skipped 0 (drop l.from l.stmts)) × (l.place ≤ length l.stmts) × (l.depth ≤ l.place)

abbrev pub decreases-loop-place : goal.decreases-loop-place
decreases-loop-place l = length l.stmts - l.place
