-- How far a task's body has come: what it has posted, and how many moves are left.
use Rattle.std.specs.Prelude.{ℕ, ◌+◌, ◌-◌, ◌*◌, List, [], ◌∷◌, length, sum_by}
use Rattle.rt_base.specs.declared.data.Phase.{Phase}
use Rattle.rt_base.specs.declared.data.Phase.TheVariants as phase
use Rattle.rt_base.specs.declared.data.TaskDef.{TaskDef}
use Rattle.rt_base.specs.Operations.{postings, nth_at}

-- at most how many moves a task that stands there has left, if its body has so many operations
abbrev pub moves_left : ℕ → Phase → ℕ
moves_left n phase.Waiting = 2 * n + 3
moves_left n (phase.At k) = 2 * (n - k) + 2
moves_left n (phase.In k) = 2 * (n - k) + 1
moves_left n phase.Ended = 2
moves_left n phase.Returned = 1
moves_left n phase.Released = 0

-- at most how many moves all tasks have left
abbrev pub all_left : List TaskDef → List Phase → ℕ
all_left [] phases = 0
all_left (def ∷ defs) [] = 0
all_left (def ∷ defs) (at ∷ phases) = moves_left (length def.body.items) at + all_left defs phases

-- at most how many moves tasks make that wait
abbrev pub most_moves : List TaskDef → ℕ
most_moves defs = sum_by (λ (def : TaskDef). 2 * length def.body.items + 3) defs

-- how many requests a task that stands there has posted
abbrev pub posted_by_phase : TaskDef → Phase → ℕ
posted_by_phase def phase.Waiting = 0
posted_by_phase def (phase.At k) = nth_at def k
posted_by_phase def (phase.In k) = nth_at def (k + 1)
posted_by_phase def phase.Ended = postings def.body.items
posted_by_phase def phase.Returned = postings def.body.items
posted_by_phase def phase.Released = postings def.body.items
