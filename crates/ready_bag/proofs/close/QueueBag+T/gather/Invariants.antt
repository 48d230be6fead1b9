use Rattle.std.proofs.Common.{◌≡◌, ◌-◌, ◌^◌, ◌∷◌, ◌++◌, [], map, min, deque_len}
use Rattle.std.specs.List.{All}
use Rattle.crossbeam_queue.specs.Passes.{view}
use Rattle.ready_bag.specs.Closing.{count_put, count_taken}
use Rattle.ready_bag.specs.Passes.{IsPassOfBag, account}
use Rattle.ready_bag.specs.Rule.{in_charge}
use Rattle.ready_bag.proofs.close.QueueBag+T.gather.Given as goal

abbrev pub decreases-loop-pass : goal.decreases-loop-pass
decreases-loop-pass g l = deque_len l.rest

abbrev pub invariant-loop-pass : goal.invariant-loop-pass
invariant-loop-pass g l = record {
  table : l.all.seat.table_id ≡ l.self.table;
  slots : l.all.seat.me.1 ≡ [];
  rest : All (λ pass. IsPassOfBag pass l.self) l.rest.items;
  dealt : view l.all.seat ≡ in_charge (view l.all.seat).accounts;
  accounts : (view l.all.seat).accounts ++ map account l.rest.items ≡ map account (l.fn.first ∷ l.fn.rest.items);
  put : l.all.put ≡ min (count_put (view l.all.seat).accounts) (2 ^ 64 - 1);
  taken : l.all.taken ≡ min (count_taken (view l.all.seat).accounts) (2 ^ 64 - 1);
}
