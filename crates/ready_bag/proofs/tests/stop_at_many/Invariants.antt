use Rattle.std.proofs.Common.{◌<◌, length, take}
use Rattle.std.specs.List.{All}
use Rattle.ready_bag.proofs.tests.stop_at_many.Given as goal

abbrev pub invariant-loop-pass : goal.invariant-loop-pass
invariant-loop-pass g l = All (λ pass. length pass.account.put < 4294967296) (take l.pass-index l.passes)
