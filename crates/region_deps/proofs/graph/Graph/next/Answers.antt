-- what the list gives is open, and where it is empty nothing is
use Rattle.std.proofs.Common.{ℕ, IfNone, subst, sym, arith, vec_capacity}
use Rattle.region_deps.specs.Links.{IsOpen}
use Rattle.region_deps.specs.Queues.{IsGraph}
use Rattle.region_deps.proofs.QueueLemmas.{after_next, none_open}
use Rattle.region_deps.proofs.graph.Graph.next.Goals as goal

pub returns-in_err-task-clause-none : goal.returns-in_err-task-clause-none
returns-in_err-task-clause-none c =
    let i = c.self.inside in
    let none = none_open i.links.items i.first.items i.gone.items i.handed.items i.left.items i.startable.items _ c.self.invariant
    (omega (arith, c.in_err-task.ensures.cases, i.startable.ok)) in
    subst (λ r. IfNone r ((task : ℕ) → ¬ IsOpen c.args.self.now task)) (sym c.from_residual.ensures)
    (λ task. subst (λ w. ¬ IsOpen w task) c.self.view_is (none task))

pub invariant_of-self-2 : goal.invariant_of-self-2
invariant_of-self-2 c =
    let i = c.self.inside in
    let taken = after_next i.links.items i.first.items i.gone.items i.handed.items i.left.items i.startable.items c.pop.new.self.items
    (vec_capacity i.startable) c.in_ok-task.task c.self.invariant c.in_ok-task.ensures.items in
    subst (IsGraph i.links.items i.first.items i.gone.items _ i.left.items c.pop.new.self.items) (sym c.in_ok-task.ensures.capacity) taken.kept

pub returns-clause-open : goal.returns-clause-open
returns-clause-open c =
    let i = c.self.inside in
    let taken = after_next i.links.items i.first.items i.gone.items i.handed.items i.left.items i.startable.items c.pop.new.self.items
    (vec_capacity i.startable) c.in_ok-task.task c.self.invariant c.in_ok-task.ensures.items in
    subst (λ w. IsOpen w c.in_ok-task.task) c.self.view_is taken.open_before
