-- Postings that wait, in the order of posting.
use Rattle.std.specs.Prelude.{ℕ, Bool, false, List, [], ◌∷◌, slice_index_or, Option, Some, None, IsSome, min}
use Rattle.match_lanes.specs.declared.selector.Selector.{Selector}

-- what one queue of a rank holds: each posting that entered it, in the order of posting, and None where it was taken; the selectors that are
-- known there; and for how many postings more there is memory
pub record Line (X : Type 0) : Type 0 where
  pub items : List (Option X)
  pub keys : List Selector
  pub room : ℕ

-- those that weren't taken
abbrev pub waiting : {X : Type 0} → List (Option X) → List X
waiting [] = []
waiting (None ∷ items) = waiting items
waiting (Some item ∷ items) = item ∷ waiting items

-- it wasn't taken, and passes the test
abbrev pub passes : {X : Type 0} → (X → Bool) → Option X → Bool
passes test None = false
passes test (Some item) = test item

-- something waits at this place
abbrev pub Waits : {X : Type 0} → List (Option X) → ℕ → Type 0
Waits items place = IsSome (slice_index_or items place None)

-- the lower of two places, where there are two
abbrev pub lower : Option ℕ → Option ℕ → Option ℕ
lower None other = other
lower (Some one) None = Some one
lower (Some one) (Some other) = Some (min one other)
