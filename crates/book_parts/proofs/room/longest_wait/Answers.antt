-- The longest wait of the tasks so far and of the next one.
use Rattle.std.proofs.Common.{◌≡◌, ℕ, ◌+◌, ◌<◌, ◌≤◌, List, get_or, slice_get, Some, sym, ap, ◌∙◌, subst, inl, inr, arith}
use Rattle.std.proofs.lemmas.Bool.{cases_lt}
use Rattle.std.proofs.lemmas.Option.{get_or_from_slice_get}
use Rattle.rt_base.specs.declared.data.Op.{Op}
use Rattle.rt_base.specs.declared.data.TaskDef.{TaskDef}
use Rattle.book_parts.specs.Kept.{opens}
use Rattle.book_parts.proofs.room.longest_wait.Goals as goal

-- one task more
longer : (tasks : List TaskDef) (n most more now : ℕ) (task : TaskDef)
    → ((t k : ℕ) (def : TaskDef) → t < n → slice_get tasks t ≡ Some def → opens (slice_get def.body.items k) ≤ most)
    → ((k : ℕ) → opens (slice_get task.body.items k) ≤ more) → task ≡ get_or tasks n task → most ≤ now → more ≤ now
    → (t k : ℕ) (def : TaskDef) → t < n + 1 → slice_get tasks t ≡ Some def → opens (slice_get def.body.items k) ≤ now
longer tasks n most more now task before own here one other t k def within is_def = elim (cases_lt t n) [
  | inl less ↦ let old = before t k def less is_def in omega arith
  | inr past ↦
      let at : t ≡ n = omega arith in
      let same : task ≡ def = here ∙ ap (λ (i : ℕ). get_or tasks i task) (sym at) ∙ get_or_from_slice_get tasks t def task is_def in
      let mine = own k in
      let whose : opens (slice_get task.body.items k) ≡ opens (slice_get def.body.items k) = ap (λ (d : TaskDef). opens (slice_get d.body.items k)) same in
      omega arith
]

pub loop-task-preserved : goal.loop-task-preserved
loop-task-preserved c =
    longer c.args.tasks.now c.loop-task.task-index c.loop-task.most c.longest_of.result c.greater-most.result c.task-item.result c.loop-task.invariant
    (λ k. subst (λ (ops : List Op). opens (slice_get ops k) ≤ c.longest_of.result) c.as_slice.ensures (c.longest_of.ensures k))
    c.task-item.is c.greater-most.ensures.one c.greater-most.ensures.other
