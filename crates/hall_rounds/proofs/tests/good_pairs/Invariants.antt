use Rattle.hall_rounds.specs.Rounds.{AtRest}
use Rattle.hall_rounds.proofs.tests.good_pairs.Given as goal

-- the holder is at rest in its hall
abbrev pub invariant-loop-round : goal.invariant-loop-round
invariant-loop-round g l = AtRest l.hall l.holder
