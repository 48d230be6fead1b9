-- What private functions compute, as they compute it. No public clause cites this module: what calls answer is said by Answers.
use Rattle.std.specs.Prelude.{ℕ, nat_lt, if◌then◌else◌, Bool, true, false, List, [], ◌∷◌, Option, Some, None}
use Rattle.task_local.specs.declared.standing.At.{At}
use Rattle.task_local.specs.declared.standing.At.TheVariants as at
use Rattle.meet_hall.specs.Holders.{HolderIs}
use Rattle.turn_table.specs.declared.hands.Door.TheVariants.{Pause, Events}
use Rattle.shared_book.specs.declared.moved.Moved.{Moved}
use Rattle.shared_book.specs.declared.moved.Moved.TheVariants.{Done, Pending}
use Rattle.shared_book.specs.declared.pairs.Pair.{Pair}

-- whether a task that stands so is in an operation
abbrev pub is_inside : At → Bool
is_inside at.Local = false
is_inside at.Fresh = false
is_inside (at.Call k) = false
is_inside (at.In k) = true
is_inside at.Ended = false
is_inside at.Returned = false
is_inside at.Released = false

-- the answer to a task in an operation of which so many requests are incomplete
abbrev pub answered : ℕ → Moved
answered pending = if nat_lt 0 pending then Pending Pause else Done

-- the answer to a task that has returned and to which so many requests were bound
abbrev pub returned : ℕ → Moved
returned bound = if nat_lt 0 bound then Pending Events else Done

-- the holders, two by two, and the one that is left
abbrev pub pairs_in : List HolderIs → List (Option Pair)
pairs_in [] = []
pairs_in (one ∷ []) = []
pairs_in (one ∷ other ∷ holders) = Some (record { pause = one; events = other }) ∷ pairs_in holders

-- the holder that is left over, where their number is odd
abbrev pub odd_in : List HolderIs → Option HolderIs
odd_in [] = None
odd_in (one ∷ []) = Some one
odd_in (one ∷ other ∷ holders) = odd_in holders
