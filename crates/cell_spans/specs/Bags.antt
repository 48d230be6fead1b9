-- How a bag of numbers is kept: by those that were added and those that were removed. No public clause cites this module.
use Rattle.std.specs.Prelude.{ℕ, ◌≤◌, nat_eq, List, [], ◌∷◌, count_by, if◌then◌else◌}

-- the numbers without this one, once
abbrev pub without_one : ℕ → List ℕ → List ℕ
without_one number [] = []
without_one number (first ∷ numbers) = if nat_eq number first then numbers else first ∷ without_one number numbers

-- the numbers without these, each once
abbrev pub without : List ℕ → List ℕ → List ℕ
without [] numbers = numbers
without (first ∷ removed) numbers = without removed (without_one first numbers)

-- each number stands in the second list at least as often as in the first
abbrev pub IsPart : List ℕ → List ℕ → Type 0
IsPart some all = (number : ℕ) → count_by (nat_eq number) some ≤ count_by (nat_eq number) all
