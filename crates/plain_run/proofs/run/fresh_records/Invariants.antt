use Rattle.std.proofs.Common.{◌≡◌, length}
use Rattle.plain_run.specs.Turns.{AreFresh}
use Rattle.plain_run.proofs.run.fresh_records.Given as goal

-- there are fresh records of the tasks so far
abbrev pub invariant-loop-t : goal.invariant-loop-t
invariant-loop-t l = (length l.recs.items ≡ l.t) × AreFresh l.prog l.recs.items
