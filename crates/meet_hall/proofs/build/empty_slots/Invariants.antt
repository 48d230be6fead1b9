use Rattle.std.proofs.Common.{◌≡◌, ◌≤◌, replicate}
use Rattle.std.specs.Vec.{vec_len, vec_capacity}
use Rattle.meet_hall.specs.declared.slot.Slot.TheVariants.{Empty}
use Rattle.meet_hall.proofs.build.empty_slots.Given as goal

-- as many empty slots as there were turns, and room for all
abbrev pub invariant-loop : goal.invariant-loop
invariant-loop g l = (l.slots.items ≡ replicate l.counter Empty) × (vec_len l.slots ≡ l.counter) × (l.count ≤ vec_capacity l.slots)
