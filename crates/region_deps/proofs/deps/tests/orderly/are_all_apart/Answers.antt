-- one more task, and at the end all
use Rattle.std.proofs.Common.{ℕ, get_or, sym, subst, inl, inr, arith}
use Rattle.std.proofs.lemmas.Bool.{cases_eq}
use Rattle.region_deps.specs.Lines.{IsApart}
use Rattle.region_deps.proofs.deps.tests.orderly.are_all_apart.Goals as goal

pub loop-task-preserved : goal.loop-task-preserved
loop-task-preserved c = λ k d lt. elim (cases_eq k c.loop-task.task) [
  | inl same ↦ subst (λ (n : ℕ). IsApart (get_or c.args.tasks.now n d)) (sym same) (c.is_apart.ensures (cc) d)
  | inr other ↦ c.loop-task.invariant k d (omega (arith, lt, other))
]

pub returns : goal.returns
returns c = λ found k d lt. c.loop-task.invariant k d (omega (arith, lt, c.loop-task-test.false))
