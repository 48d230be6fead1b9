-- What the tasks still add to a list, by where each of them stands.
use Rattle.std.proofs.Common.{◌≡◌, ℕ, zero, suc, ◌+◌, ◌-◌, ◌*◌, ◌^◌, ◌<◌, ◌≤◌, List, [], ◌∷◌, length, slice_get, slice_set, Some, refl, ap, true, false, arith}
use Rattle.std.specs.Prelude.{sum_by, replicate}
use Rattle.std.proofs.lemmas.List.Sums.{sum_by-cons}
use Rattle.rt_base.specs.declared.data.Phase.{Phase}
use Rattle.rt_base.specs.declared.data.Phase.TheVariants as phase
use Rattle.rt_base.specs.declared.data.Op.{Op}
use Rattle.rt_base.specs.declared.data.Op.TheVariants as op
use Rattle.rt_base.specs.declared.data.TaskDef.{TaskDef}
use Rattle.rt_base.specs.declared.data.Program.{Program}
use Rattle.rt_base.specs.Operations.{postings}
use Rattle.rt_base.specs.WellFormed.{WellFormed, names_of, over_operations}
use Rattle.task_machine.specs.Course.{most_moves, moves_left, posted_by_phase}
use Rattle.run_bounds.specs.Bounds.{most_postings, most_entries, most_statuses, tells, tells_now, tells_late, BoundsAreFew}
use Rattle.run_bounds.proofs.Few.{most_moves_few}
use Rattle.run_bounds.proofs.Tells.{to_tell}

-- what a number comes to over all tasks, that each task has by where it stands
abbrev pub over_tasks : (TaskDef → Phase → ℕ) → List TaskDef → List Phase → ℕ
over_tasks count [] phases = 0
over_tasks count (def ∷ defs) [] = 0
over_tasks count (def ∷ defs) (at ∷ phases) = count def at + over_tasks count defs phases

-- how many requests a task that stands there has still to post, and so at most how many notices come of it
abbrev pub postings_left : TaskDef → Phase → ℕ
postings_left def at = postings def.body.items - posted_by_phase def at

-- at most how many entries come of it: its moves, and the polls that take the notices of what it posts
abbrev pub entries_left : TaskDef → Phase → ℕ
entries_left def at = moves_left (length def.body.items) at + postings_left def at

-- a list of so many items is, with what the tasks still add to it, no longer than all that they add from the opening on
abbrev pub HasRoom : (TaskDef → Phase → ℕ) → List TaskDef → List Phase → ℕ → Type 0
HasRoom count tasks phases items = items + over_tasks count tasks phases ≤ over_tasks count tasks (replicate (length tasks) phase.Waiting)

-- one task's number is written
over_set : (f : TaskDef → Phase → ℕ) (defs : List TaskDef) (phases : List Phase) (t : ℕ) (def : TaskDef) (was now : Phase) → slice_get defs t ≡ Some def
    → slice_get phases t ≡ Some was → over_tasks f defs (slice_set phases t now) + f def was ≡ over_tasks f defs phases + f def now
over_set f [] phases t def was now is_def here = absurd (cc)
over_set f (d ∷ defs) [] t def was now is_def here = absurd (cc)
over_set f (d ∷ defs) (q ∷ phases) zero def was now is_def here =
    let same : d ≡ def = cc in
    let there : q ≡ was = cc in
    rw (same, there) (omega arith)
over_set f (d ∷ defs) (q ∷ phases) (suc t) def was now is_def here =
    let rest = over_set f defs phases t def was now is_def here in
    omega arith

-- the room after a move of a task, by which its number falls by what is added at least
pub room_goes_on : (f : TaskDef → Phase → ℕ) (defs : List TaskDef) (phases : List Phase) (t : ℕ) (def : TaskDef) (was now : Phase) (before after : ℕ)
    → HasRoom f defs phases before → slice_get defs t ≡ Some def → slice_get phases t ≡ Some was → after + f def now ≤ before + f def was
    → HasRoom f defs (slice_set phases t now) after
room_goes_on f defs phases t def was now before after room is_def here less =
    let set = over_set f defs phases t def was now is_def here in
    omega arith

-- what all tasks add from the opening on
pub over_opening : (f : TaskDef → Phase → ℕ) (defs : List TaskDef)
    → over_tasks f defs (replicate (length defs) phase.Waiting) ≡ sum_by (λ (def : TaskDef). f def phase.Waiting) defs
over_opening f [] = refl
over_opening f (def ∷ defs) =
    let whole = sum_by-cons (λ (d : TaskDef). f d phase.Waiting) def defs in
    let rest = over_opening f defs in
    omega arith

pub postings_first : (defs : List TaskDef) → sum_by (λ (def : TaskDef). postings_left def phase.Waiting) defs ≡ most_postings defs
postings_first [] = refl
postings_first (def ∷ defs) =
    let whole = sum_by-cons (λ (d : TaskDef). postings_left d phase.Waiting) def defs in
    let parts = sum_by-cons (λ (d : TaskDef). postings d.body.items) def defs in
    let rest = postings_first defs in
    omega arith

pub entries_first : (defs : List TaskDef) → sum_by (λ (def : TaskDef). entries_left def phase.Waiting) defs ≡ most_moves defs + most_postings defs
entries_first [] = refl
entries_first (def ∷ defs) =
    let whole = sum_by-cons (λ (d : TaskDef). entries_left d phase.Waiting) def defs in
    let moves = sum_by-cons (λ (d : TaskDef). 2 * length d.body.items + 3) def defs in
    let posts = sum_by-cons (λ (d : TaskDef). postings d.body.items) def defs in
    let rest = entries_first defs in
    omega arith

-- what an operation tells now and late
tells_parts : (x : Op) → tells x ≡ tells_now x + tells_late x
tells_parts (op.Compute kind dst left right value step) = refl
tells_parts (op.Post how span peer tag comm status) = refl
tells_parts (op.Await true handles status) = omega arith
tells_parts (op.Await false handles status) = omega arith

tells_of : (ops : List Op) → sum_by tells_now ops + sum_by tells_late ops ≡ sum_by tells ops
tells_of [] = refl
tells_of (x ∷ ops) =
    let whole = sum_by-cons tells x ops in
    let now = sum_by-cons tells_now x ops in
    let late = sum_by-cons tells_late x ops in
    let parts = tells_parts x in
    let rest = tells_of ops in
    omega arith

pub told_first : (defs : List TaskDef) → sum_by (λ (def : TaskDef). to_tell def phase.Waiting) defs ≡ over_operations tells defs
told_first [] = refl
told_first (def ∷ defs) =
    let whole = sum_by-cons (λ (d : TaskDef). to_tell d phase.Waiting) def defs in
    let parts = sum_by-cons (λ (d : TaskDef). sum_by tells d.body.items) def defs in
    let one = tells_of def.body.items in
    let rest = told_first defs in
    omega arith

-- a posting or a name for each status
tells_once : (ops : List Op) → sum_by tells ops ≡ sum_by names_of ops + postings ops
tells_once [] = refl
tells_once (op.Compute kind dst left right value step ∷ ops) =
    let rest = tells_once ops in
    omega arith
tells_once (op.Post how span peer tag comm status ∷ ops) =
    let x : Op = op.Post how span peer tag comm status in
    let whole = sum_by-cons tells x ops in
    let names = sum_by-cons names_of x ops in
    let posts : postings (x ∷ ops) ≡ 1 + postings ops = sum_by-cons _ x ops in
    let rest = tells_once ops in
    omega arith
tells_once (op.Await later handles status ∷ ops) =
    let x : Op = op.Await later handles status in
    let whole = sum_by-cons tells x ops in
    let names = sum_by-cons names_of x ops in
    let posts : postings (x ∷ ops) ≡ 0 + postings ops = sum_by-cons _ x ops in
    let rest = tells_once ops in
    omega arith

told_by_names : (defs : List TaskDef) → over_operations tells defs ≡ over_operations names_of defs + most_postings defs
told_by_names [] = refl
told_by_names (def ∷ defs) =
    let whole = sum_by-cons (λ (d : TaskDef). sum_by tells d.body.items) def defs in
    let names = sum_by-cons (λ (d : TaskDef). sum_by names_of d.body.items) def defs in
    let posts = sum_by-cons (λ (d : TaskDef). postings d.body.items) def defs in
    let one = tells_once def.body.items in
    let rest = told_by_names defs in
    omega arith

-- all lists of a book are counted in 32 bits
pub few_postings : (p : Program) → WellFormed p → most_postings p.tasks.items ≤ 262144
few_postings p well = well.requests

pub few_told : (p : Program) → WellFormed p → over_operations tells p.tasks.items ≤ 1310720
few_told p well =
    let split = told_by_names p.tasks.items in
    let posts = few_postings p well in
    let names : over_operations names_of p.tasks.items ≤ 1048576 = well.handles in
    omega arith

pub bounds_few : BoundsAreFew
bounds_few p well = (omega (arith, few_postings p well, most_moves_few p well), omega (arith, few_told p well))
