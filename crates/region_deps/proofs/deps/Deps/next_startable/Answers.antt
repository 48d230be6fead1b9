-- a task that is open may start, and where none is open none may start
use Rattle.std.proofs.Common.{ℕ, IfNone, ◌<◌, length, sym, subst, arith, false}
use Rattle.std.proofs.lemmas.Option.{slice_get_within}
use Rattle.region_deps.specs.Readiness.{Readiness, IsStartable}
use Rattle.region_deps.proofs.Starts.{starts_if_let_in, let_in_if_starts}
use Rattle.region_deps.proofs.Releases.{held_next}
use Rattle.region_deps.proofs.deps.Deps.next_startable.Goals as goal

pub returns-in_err-task-clause-none : goal.returns-in_err-task-clause-none
returns-in_err-task-clause-none c =
    let i = c.self.inside in
    subst (λ r. IfNone r ((t : ℕ) → ¬ IsStartable c.args.self.now t)) (sym c.from_residual.ensures)
    (λ t startable.
    let here = subst (λ (r : Readiness). IsStartable r t) (sym c.self.view_is) startable in
    c.in_err-task.ensures.none t (record {
      waits = here.0;
      let_in = let_in_if_starts i.program.value i.graph i.first.items i.heads.items i.waiting.items i.released.items c.self.invariant t here.1;
    }))

pub invariant_of-self-2 : goal.invariant_of-self-2
invariant_of-self-2 c =
    let i = c.self.inside in
    let e = c.in_ok-task.ensures in
    held_next i.program.value.tasks.items i.graph c.next.new.self i.first.items i.heads.items i.waiting.items i.released.items c.in_ok-task.task
    c.self.invariant e.open e.links e.gone e.handed

pub returns-clause-startable : goal.returns-clause-startable
returns-clause-startable c =
    let i = c.self.inside in
    let open_now = c.in_ok-task.ensures.open in
    let exists : c.in_ok-task.task < length i.program.value.tasks.items =
    omega (arith, slice_get_within i.graph.handed c.in_ok-task.task false open_now.waits, c.self.invariant.handed_long) in
    subst (λ (r : Readiness). IsStartable r c.in_ok-task.task) c.self.view_is (
      open_now.waits,
      starts_if_let_in i.program.value i.graph i.first.items i.heads.items i.waiting.items i.released.items c.self.invariant c.in_ok-task.task
          exists open_now.let_in,
    )
