-- the accesses so far are counted, and are few
use Rattle.std.specs.Prelude.{◌≡◌, ◌*◌, ◌≤◌, sum_by, take}
use Rattle.region_deps.specs.Lines.{access_count}
use Rattle.region_deps.proofs.deps.tests.orderly.are_few.Given as goal

abbrev pub invariant-loop-task : goal.invariant-loop-task
invariant-loop-task l = (l.total ≡ sum_by access_count (take l.task-index l.tasks)) × (l.total ≤ 1000 * l.task-index)
