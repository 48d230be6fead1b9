use Rattle.std.proofs.Common.{◌≡◌, ◌-◌, []}
use Rattle.crossbeam_queue.specs.Passes.{view}
use Rattle.ready_bag.specs.Passes.{new_passes}
use Rattle.ready_bag.specs.Rule.{in_charge, new_accounts}
use Rattle.ready_bag.proofs.queue_bag.QueueBag+T.deal.Given as goal

abbrev pub invariant-loop-worker : goal.invariant-loop-worker
invariant-loop-worker g l = record {
  table : l.seat.table_id ≡ l.self.table;
  slots : l.seat.me.1 ≡ [];
  accounts : view l.seat ≡ in_charge (new_accounts l.self.workers l.worker (l.self.workers - l.worker));
  passes : l.passes.items ≡ new_passes l.self l.worker;
}
