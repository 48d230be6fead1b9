-- one more task has its head
use Rattle.std.proofs.Common.{ℕ, ◌+◌, List, length, ap, subst, ◌∙◌}
use Rattle.std.proofs.lemmas.List.{length_push}
use Rattle.region_deps.specs.Epochs.{IsHead}
use Rattle.region_deps.proofs.EpochLemmas.{heads_more}
use Rattle.region_deps.proofs.epochs.heads.Goals as goal

pub loop-task-preserved : goal.loop-task-preserved
loop-task-preserved c = record {
  long = ap length c.in_ok-push.ensures.items ∙ length_push c.loop-task.heads.items c.head_of-head.result ∙ ap (λ (n : ℕ). n + 1) c.loop-task.invariant.long;
  each = heads_more c.args.tasks.now c.loop-task.heads.items c.push.new.self.items c.head_of-head.result c.loop-task.task c.loop-task.invariant.long
      c.in_ok-push.ensures.items
      (subst (λ (l : List ℕ). IsHead c.args.tasks.now l c.loop-task.task c.head_of-head.result) c.deref.ensures.value c.head_of-head.ensures)
      c.loop-task.invariant.each;
}
