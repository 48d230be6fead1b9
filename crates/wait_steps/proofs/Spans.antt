-- Status spans, one status after another.
use Rattle.std.proofs.Common.{◌≡◌, ℕ, ◌+◌, ◌≤◌, ◌<◌, List, ◌∷◌, length, get_or, drop, length-drop, ℤ, Option, Some, None}
use Rattle.std.proofs.Common.{refl, ap, ◌∙◌, arith}
use Rattle.std.proofs.lemmas.List.{drop_more}
use Rattle.rt_base.specs.declared.data.Span.{Span}
use Rattle.rt_base.specs.declared.data.Status.{Status}
use Rattle.rt_base.specs.declared.data.TaskDef.{TaskDef}
use Rattle.task_local.specs.Waits.{behind_status, put_status, put_statuses}
use Rattle.wait_steps.specs.StatusSpans.{HasPlaces}

-- fewer statuses need fewer places
pub places_less : (task : TaskDef) (span : Option Span) (many few : ℕ) → few ≤ many → HasPlaces task span many → HasPlaces task span few
places_less task None many few le has = tt
places_less task (Some span) many few le has = (has.0, omega (arith, has.1))

-- behind the first status are the places of the others
pub places_behind : (task : TaskDef) (span : Option Span) (many few : ℕ) → few + 1 ≤ many → HasPlaces task span many → HasPlaces task (behind_status span) few
places_behind task None many few le has = tt
places_behind task (Some span) many few le has = (λ cell covers. has.0 cell (omega (arith, covers.0), covers.1), omega (arith, has.1))

-- a first status is stored, and then the others behind it
put_statuses_next : (task : TaskDef) (span : Option Span) (status : Status) (statuses : List Status) (copy : List ℤ)
    → put_statuses task span (status ∷ statuses) copy ≡ put_statuses task (behind_status span) statuses (put_status task span status copy)
put_statuses_next task None status statuses copy = refl
put_statuses_next task (Some span) status statuses copy = refl

-- while a status is left there is a place for it
pub places_now : {X : Type 0} (task : TaskDef) (span : Option Span) (xs : List X) (i : ℕ) → i < length xs → HasPlaces task span (length (drop i xs))
    → HasPlaces task span 1
places_now task span xs i within has = places_less task span (length (drop i xs)) 1 (omega (arith, length-drop i xs)) has

-- and behind it are the places of those that are left then
pub places_next : {X : Type 0} (task : TaskDef) (span : Option Span) (xs : List X) (i : ℕ) → i < length xs → HasPlaces task span (length (drop i xs))
    → HasPlaces task (behind_status span) (length (drop (i + 1) xs))
places_next task span xs i within has =
    places_behind task span (length (drop i xs)) (length (drop (i + 1) xs)) (omega (arith, length-drop i xs, length-drop (i + 1) xs)) has

-- the same of the statuses that are left
pub put_here : (task : TaskDef) (rest : Option Span) (statuses : List Status) (i : ℕ) (d : Status) (copy : List ℤ) → i < length statuses
    → put_statuses task rest (drop i statuses) copy
    ≡ put_statuses task (behind_status rest) (drop (i + 1) statuses) (put_status task rest (get_or statuses i d) copy)
put_here task rest statuses i d copy within =
    ap (λ (some : List Status). put_statuses task rest some copy) (drop_more statuses i d within)
    ∙ put_statuses_next task rest (get_or statuses i d) (drop (i + 1) statuses) copy
