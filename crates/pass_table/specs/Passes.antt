-- Passes, notes and the pen of a table, as contracts see them.
use Rattle.std.specs.Prelude.{◌≡◌, ◌⊎◌, ℕ, zero, suc, ◌+◌, ◌==◌, if◌then◌else◌, nat_le, List, [], ◌∷◌, ◌++◌, length}
use mathlib.Core.List.{IsPrefix}
-- which table it is
pub use Rattle.atomic_table.specs.Seated.{TableId}

-- a pass: the caller that it names, how many steps that caller made, and the front of the list that it has seen
pub record PassIs : Type 0 where
  pub table : TableId
  pub caller : ℕ
  pub steps : ℕ
  pub seen : List (ℕ × ℕ)

-- a note has seen a front of the list, and the pen has seen all of it
pub record NoteIs : Type 0 where
  pub table : TableId
  pub seen : List (ℕ × ℕ)

-- how often a caller stands in a list of pairs
abbrev pub times : ℕ → List (ℕ × ℕ) → ℕ
times caller [] = 0
times caller (pair ∷ pairs) = (if pair.0 == caller then 1 else 0) + times caller pairs

-- the pass's caller stands in the list just as often as it has made steps
abbrev pub HasItsSteps : PassIs → List (ℕ × ℕ) → Type 0
HasItsSteps pass pairs = times pass.caller pairs ≡ pass.steps

-- the longer of two lists, of two as long the first
abbrev pub longer : List (ℕ × ℕ) → List (ℕ × ℕ) → List (ℕ × ℕ)
longer one other = if nat_le (length other) (length one) then one else other

-- a pass that has made no step
abbrev pub new_pass : TableId → ℕ → PassIs
new_pass table caller = record { table = table; caller = caller; steps = 0; seen = [] }

-- the passes of the first callers, in order
abbrev pub new_passes : TableId → ℕ → List PassIs
new_passes table zero = []
new_passes table (suc callers) = new_passes table callers ++ new_pass table callers ∷ []

-- one of the two lists is a front of the other
abbrev pub AreOfOneList : List (ℕ × ℕ) → List (ℕ × ℕ) → Type 0
AreOfOneList one other = IsPrefix one other ⊎ IsPrefix other one
