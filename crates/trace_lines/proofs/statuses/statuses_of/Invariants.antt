use Rattle.std.proofs.Common.{length}
use Rattle.trace_lines.proofs.Groups.{HasRead}
use Rattle.trace_lines.proofs.statuses.statuses_of.Given as goal

-- the statuses so far are read, and the rest is left
abbrev pub invariant-loop-rest : goal.invariant-loop-rest
invariant-loop-rest l = HasRead l.fn.bytes l.rest l.told.items

abbrev pub decreases-loop-rest : goal.decreases-loop-rest
decreases-loop-rest l = length l.rest
