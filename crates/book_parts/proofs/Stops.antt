-- The loop that looks for the place where a task stops.
use Rattle.std.proofs.Common.{◌≡◌, ℕ, ◌+◌, ◌<◌, ◌≤◌, true, false, List, ◌∷◌, length, drop, get_or, sym, ap, ◌∙◌, refl, arith}
use Rattle.rt_base.specs.declared.data.Phase.TheVariants as phase
use Rattle.rt_base.specs.declared.data.Op.{Op}
use Rattle.rt_base.specs.declared.data.Op.TheVariants as op
use Rattle.rt_base.specs.declared.data.TaskDef.{TaskDef}
use Rattle.task_local.specs.Local.{stop_at, stop}
use Rattle.task_machine.proofs.Stops.{drop_at}
use Rattle.rt_base.specs.Operations.{is_local}

-- a local operation is passed, another is where the task stops
pub stop_goes_on : (k : ℕ) (x : Op) (ops : List Op) → is_local x ≡ true → stop_at k (x ∷ ops) ≡ stop_at (k + 1) ops
stop_goes_on k (op.Compute kind dst left right value step) ops local = refl
stop_goes_on k (op.Post how span peer tag comm status) ops local = absurd (cc)
stop_goes_on k (op.Await later handles status) ops local = absurd (cc)

pub stop_here : (k : ℕ) (x : Op) (ops : List Op) → is_local x ≡ false → stop_at k (x ∷ ops) ≡ phase.At k
stop_here k (op.Compute kind dst left right value step) ops other = absurd (cc)
stop_here k (op.Post how span peer tag comm status) ops other = refl
stop_here k (op.Await later handles status) ops other = refl

-- the loop of the code
pub stop_passed : (def : TaskDef) (k at : ℕ) (x : Op) → stop_at at (drop at def.body.items) ≡ stop def k → at < length def.body.items
    → x ≡ get_or def.body.items at x → is_local x ≡ true
    → (stop_at (at + 1) (drop (at + 1) def.body.items) ≡ stop def k) × (at + 1 ≤ length def.body.items)
stop_passed def k at x before within here local =
    (sym (stop_goes_on at x (drop (at + 1) def.body.items) local) ∙ ap (stop_at at) (sym (drop_at def.body.items at x within here)) ∙ before, omega arith)

pub stop_found : (def : TaskDef) (k at : ℕ) (x : Op) → stop_at at (drop at def.body.items) ≡ stop def k → at < length def.body.items
    → x ≡ get_or def.body.items at x → is_local x ≡ false
    → phase.At at ≡ stop def k
stop_found def k at x before within here other =
    sym (stop_here at x (drop (at + 1) def.body.items) other) ∙ ap (stop_at at) (sym (drop_at def.body.items at x within here)) ∙ before
