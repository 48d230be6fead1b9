-- a task may start exactly where it is let in
use Rattle.std.proofs.Common.{◌<◌, length, subst, sym}
use Rattle.rt_base.specs.Precedes.{MayStart}
use Rattle.region_deps.specs.Readiness.{Readiness}
use Rattle.region_deps.proofs.Starts.{starts_if_let_in, let_in_if_starts}
use Rattle.region_deps.proofs.deps.Deps.may_start.Goals as goal

pub returns : goal.returns
returns c =
    let i = c.self.inside in
    let known = subst (λ (r : Readiness). c.args.task.0 < length r.program.tasks.items) (sym c.self.view_is) c.requires.known in (
      λ found. subst (λ (r : Readiness). MayStart r.program r.gone c.args.task.0) c.self.view_is
          (starts_if_let_in i.program.value i.graph i.first.items i.heads.items i.waiting.items i.released.items c.self.invariant c.args.task.0 known
          (c.is_let_in.ensures.0 found)),
      λ start. c.is_let_in.ensures.1 (let_in_if_starts i.program.value i.graph i.first.items i.heads.items i.waiting.items i.released.items c.self.invariant
          c.args.task.0
          (subst (λ (r : Readiness). MayStart r.program r.gone c.args.task.0) (sym c.self.view_is) start)),
    )
