-- what holds of the accesses holds of the task that they were read of
use Rattle.std.proofs.Common.{subst}
use Rattle.std.specs.List.{AllPairs}
use Rattle.std.proofs.lemmas.List.{get_or_default}
use Rattle.rt_base.specs.declared.data.Access.{Access}
use Rattle.rt_base.specs.Spans.{Overlaps}
use Rattle.region_deps.specs.Lines.{IsApart}
use Rattle.region_deps.proofs.deps.tests.orderly.is_apart.Goals as goal

pub returns : goal.returns
returns c = λ found d.
    subst IsApart (get_or_default c.args.tasks.now c.args.task c.index-tasks-task.result d c.requires)
    (subst (AllPairs (λ (one other : Access). ¬ Overlaps one.span other.span)) c.as_slice.ensures (c.are_apart.ensures found))
