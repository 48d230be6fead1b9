use Rattle.std.proofs.Common.{arith}
use Rattle.std.proofs.lemmas.Int.{to_z-of_z}
use Rattle.task_unroll.proofs.checks.is_formed.Goals as goal

pub returns-in-Compute : goal.returns-in-Compute
returns-in-Compute c = grind (arith, to_z-of_z)
