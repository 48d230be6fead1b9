use Rattle.std.proofs.Common.{◌≡◌, ◌+◌, length, vec_len}
use Rattle.std.specs.List.{All}
use Rattle.ready_bag.specs.Passes.{IsPassOfBag}
use Rattle.ready_bag.proofs.tests.gather.Given as goal

abbrev pub decreases-loop-one : goal.decreases-loop-one
decreases-loop-one l = vec_len l.done

abbrev pub invariant-loop-one : goal.invariant-loop-one
invariant-loop-one l = record {
  left : All (λ one. IsPassOfBag one.pass l.bag) l.done.items;
  made : All (λ pass. IsPassOfBag pass l.bag) l.passes.items;
  count : length l.passes.items + length l.done.items ≡ length l.fn.done.items;
}
