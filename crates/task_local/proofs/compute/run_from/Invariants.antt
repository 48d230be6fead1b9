use Rattle.std.proofs.Common.{◌≡◌, length, drop}
use Rattle.task_local.specs.Local.{run_front, stop_at}
use Rattle.task_local.proofs.compute.run_from.Given as goal

-- what the operations that are left make of the copy so far, and where they stop
abbrev pub invariant-loop-k : goal.invariant-loop-k
invariant-loop-k l = record {
  value : run_front l.def (drop l.k l.def.body.items) l.copy ≡ run_front l.def (drop l.first l.def.body.items) l.fn.copy;
  stops : stop_at l.k (drop l.k l.def.body.items) ≡ stop_at l.first (drop l.first l.def.body.items);
  copy_len : length l.copy ≡ length l.fn.copy;
  scratch_len : length l.scratch ≡ length l.fn.scratch;
}
