-- How a scope keeps its way back. No public clause cites this module.
use Rattle.std.specs.Prelude.{◌≡◌, ℕ, Bool, true, false, nat_eq, ◌||◌, List, [], ◌∷◌, Some, slice_get, slice_index_or}
use Rattle.indexmap.specs.IndexMap.{set_value_at}
use Rattle.task_names.specs.declared.meaning.Meaning.{Meaning}
use Rattle.task_names.specs.declared.log.Change.{Change}
use Rattle.task_names.specs.Scopes.{Names}

-- the names after the changes are undone, the newest (the last) first
abbrev pub undone : List Change → Names → Names
undone [] names = names
undone (change ∷ later) names = set_value_at (undone later names) change.place change.meant

-- one of the changes is of this place
abbrev pub has_place : ℕ → List Change → Bool
has_place place [] = false
has_place place (change ∷ later) = nat_eq place change.place || has_place place later

-- a place that is noted has a change
abbrev pub NotesOnly : List Change → List Bool → Type 0
NotesOnly changes noted = (place : ℕ) → slice_index_or noted place false ≡ true → has_place place changes ≡ true

-- whatever the name at the place means next, undoing gives what the change says, or what an older one does
abbrev pub IsNoted : Change → List Change → List Change → Type 0
IsNoted change old new =
    (names : Names) (next : Meaning) → undone new (set_value_at names change.place next) ≡ undone old (set_value_at names change.place change.meant)

-- the name at the place has this meaning
abbrev pub MeansNow : Names → Change → Type 0
MeansNow names change = (name : List ℕ) × (slice_get names change.place ≡ Some (name, change.meant))
