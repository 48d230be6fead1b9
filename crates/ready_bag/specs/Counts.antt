-- The four counts of a bag pass. A count that stands at the last value of its type counts as risen.
use Rattle.std.specs.Prelude.{◌≡◌, ℕ, ◌+◌, ◌-◌, ◌^◌, ◌≤◌, min}
use Rattle.ready_bag.specs.declared.counts.Counts.{Counts}

-- no count has begun
abbrev pub no_counts : Counts
no_counts = record { puts = 0; fulls = 0; takes = 0; empties = 0 }

-- the count is greater than before, or stands at the last value of 64 bits
abbrev pub Rose : ℕ → ℕ → Type 0
Rose before now = min (before + 1) (2 ^ 64 - 1) ≤ now

-- the count of puts rose, and no other changed
pub record PutsRose (before now : Counts) : Type 0 where
  pub rose : Rose before.puts now.puts
  pub fulls : now.fulls ≡ before.fulls
  pub takes : now.takes ≡ before.takes
  pub empties : now.empties ≡ before.empties

-- the count of puts that were refused rose, and no other changed
pub record FullsRose (before now : Counts) : Type 0 where
  pub rose : Rose before.fulls now.fulls
  pub puts : now.puts ≡ before.puts
  pub takes : now.takes ≡ before.takes
  pub empties : now.empties ≡ before.empties

-- the count of takes rose, and no other changed
pub record TakesRose (before now : Counts) : Type 0 where
  pub rose : Rose before.takes now.takes
  pub puts : now.puts ≡ before.puts
  pub fulls : now.fulls ≡ before.fulls
  pub empties : now.empties ≡ before.empties

-- the count of takes that found nothing rose, and no other changed
pub record EmptiesRose (before now : Counts) : Type 0 where
  pub rose : Rose before.empties now.empties
  pub puts : now.puts ≡ before.puts
  pub fulls : now.fulls ≡ before.fulls
  pub takes : now.takes ≡ before.takes
