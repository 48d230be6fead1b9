-- a task is open exactly where it may start and was not handed out
use Rattle.std.proofs.Common.{ℕ, ◌<◌, ◌↔◌, IsTrue, length, false, subst, arith}
use Rattle.std.proofs.lemmas.Option.{slice_get_within}
use Rattle.region_deps.specs.Readiness.{Readiness, IsStartable}
use Rattle.region_deps.proofs.Starts.{starts_if_let_in, let_in_if_starts}
use Rattle.region_deps.proofs.deps.Deps.none_startable.Goals as goal

pub returns : goal.returns
returns c =
    let i = c.self.inside in
    subst (λ (r : Readiness). IsTrue c.none_open.result ↔ ((t : ℕ) → ¬ IsStartable r t)) c.self.view_is (
      λ none. λ t here. c.none_open.ensures.0 none t (record {
        waits = here.0;
        let_in = let_in_if_starts i.program.value i.graph i.first.items i.heads.items i.waiting.items i.released.items c.self.invariant t here.1;
      }),
      λ none. c.none_open.ensures.1 (λ t here.
          let exists : t < length i.program.value.tasks.items =
          omega (arith, slice_get_within i.graph.handed t false here.waits, c.self.invariant.handed_long) in
          none t (
            here.waits,
            starts_if_let_in i.program.value i.graph i.first.items i.heads.items i.waiting.items i.released.items c.self.invariant t exists
                here.let_in,
          )),
    )
