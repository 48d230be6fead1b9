use Rattle.std.proofs.Common.{◌≡◌, ◌+◌, length, vec_len}
use Rattle.std.specs.List.{All}
use Rattle.ready_bag.specs.Passes.{IsPassOfBag}
use Rattle.ready_bag.proofs.tests.jobs_of.Given as goal

abbrev pub decreases-loop-pass : goal.decreases-loop-pass
decreases-loop-pass l = vec_len l.passes

abbrev pub invariant-loop-pass : goal.invariant-loop-pass
invariant-loop-pass l = record {
  left : All (λ pass. IsPassOfBag pass l.bag) l.passes.items;
  made : All (λ job. IsPassOfBag job.pass l.bag) l.jobs.items;
  count : length l.jobs.items + length l.passes.items ≡ length l.fn.passes.items;
}
