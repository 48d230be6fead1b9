use Rattle.std.proofs.Common.{length}
use Rattle.task_names.proofs.log.Log.clear.Given as goal

abbrev pub decreases-loop : goal.decreases-loop
decreases-loop l = length l.self
