use Rattle.std.proofs.Common.{◌≡◌}
use Rattle.meet_hall.specs.Plan.{start_of}
use Rattle.meet_hall.proofs.build.slot_count.Given as goal

-- the slots of the meetings so far
abbrev pub invariant-loop-place_count : goal.invariant-loop-place_count
invariant-loop-place_count l = l.count ≡ start_of l.places l.place_count-index
