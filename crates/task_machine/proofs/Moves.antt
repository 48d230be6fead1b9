-- How many moves are left, after one task moved.
use Rattle.std.proofs.Common.{◌≡◌, ℕ, zero, suc, ◌+◌, ◌≤◌, List, [], ◌∷◌, length, slice_get, slice_set, Some, arith}
use Rattle.rt_base.specs.declared.data.Phase.{Phase}
use Rattle.rt_base.specs.declared.data.TaskDef.{TaskDef}
use Rattle.task_machine.specs.Course.{moves_left, all_left}

-- one task moved on by at least one move
pub all_left-set : (defs : List TaskDef) (phases : List Phase) (t : ℕ) (def : TaskDef) (old new : Phase) → slice_get defs t ≡ Some def
    → slice_get phases t ≡ Some old
    → moves_left (length def.body.items) new + 1 ≤ moves_left (length def.body.items) old → all_left defs (slice_set phases t new) + 1 ≤ all_left defs phases
all_left-set [] phases t def old new is_def is_old less = absurd (cc)
all_left-set (d ∷ defs) [] t def old new is_def is_old less = absurd (cc)
all_left-set (d ∷ defs) (at ∷ phases) zero def old new is_def is_old less =
    let same : d ≡ def = cc in
    let was : at ≡ old = cc in
    rw (same, was) (omega arith)
all_left-set (d ∷ defs) (at ∷ phases) (suc t) def old new is_def is_old less =
    let rest = all_left-set defs phases t def old new is_def is_old less in
    omega arith
