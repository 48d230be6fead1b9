use Rattle.std.proofs.Common.{ℕ, ◌<◌, ◌-◌, ◌≢◌, length, slice_index}
use Rattle.meet_hall.proofs.lists.index_of.Given as goal

-- no place before this one is the one that is sought
abbrev pub invariant-loop-i : goal.invariant-loop-i
invariant-loop-i l = (k : ℕ) → k < l.i → slice_index l.places k ≢ l.place

abbrev pub decreases-loop-i : goal.decreases-loop-i
decreases-loop-i l = length l.places - l.i
