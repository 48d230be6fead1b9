use Rattle.std.proofs.Common.{ℕ, ◌<◌, ◌≤◌, slice_get}
use Rattle.book_parts.specs.Kept.{opens}
use Rattle.book_parts.proofs.room.longest_of.Given as goal

-- none of the operations so far opens more
abbrev pub invariant-loop-operation : goal.invariant-loop-operation
invariant-loop-operation l = (k : ℕ) → k < l.operation-index → opens (slice_get l.body k) ≤ l.most
