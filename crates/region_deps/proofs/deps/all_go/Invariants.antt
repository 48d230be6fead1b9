-- the sources so far are gone
use Rattle.region_deps.specs.Holding.{IsGone}
use Rattle.region_deps.proofs.deps.all_go.Given as goal

abbrev pub invariant-loop-source : goal.invariant-loop-source
invariant-loop-source l = IsGone l.initial.graph l.graph l.from l.source
