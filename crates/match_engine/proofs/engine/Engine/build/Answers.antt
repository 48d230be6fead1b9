use Rattle.std.proofs.Common.{arith, refl, ap, sym, subst, ◌∙◌}
use Rattle.rt_base.specs.declared.data.Program.{Program}
use Rattle.match_engine.specs.Queues.{keys_of}
use Rattle.match_engine.specs.Kept.{KeepsExchange}
use Rattle.match_engine.specs.Routes.{AreRouted, ways_of}
use Rattle.match_engine.proofs.Replies.{slots_counted, kept_at_start}
use Rattle.match_engine.proofs.Ways.{routed_at_start}
use Rattle.match_engine.proofs.engine.Engine.build.Goals as goal

pub build-requires-2 : goal.build-requires-2
build-requires-2 c = slots_counted c.args.prog.now _ c.requires c.in_ok-slots.ensures

pub build-requires-3-clause-slots : goal.build-requires-3-clause-slots
build-requires-3-clause-slots c = omega (arith, slots_counted c.args.prog.now _ c.requires c.in_ok-slots.ensures)

pub invariant_of-result : goal.invariant_of-result
invariant_of-result c =
    let kept = kept_at_start c.args.prog.now c.args.prog.now.eager c.in_ok-build.field-0 c.in_ok-slots.slots c.requires refl c.in_ok-slots.ensures
    c.in_ok-build.ensures.exchange c.in_ok-build.ensures.posted c.in_ok-build.ensures.matches c.in_ok-build.ensures.queues in (
      subst (λ (p : Program). KeepsExchange p c.args.prog.now.eager c.in_ok-build.field-0 c.in_ok-slots.slots) (sym c.of.ensures) kept,
      subst (λ (p : Program). AreRouted p (keys_of c.in_ok-build.field-0) c.in_ok-routes.routes) (sym c.of.ensures)
          (routed_at_start c.args.prog.now c.args.prog.now.eager c.in_ok-build.field-0 c.in_ok-slots.slots c.in_ok-keys.keys.items
          c.in_ok-routes.routes kept (c.in_ok-build.ensures.keys ∙ c.deref-2.ensures.value)
          (c.in_ok-routes.ensures ∙ ap (λ keys. ways_of keys c.in_ok-slots.slots) c.deref.ensures.value) c.in_ok-keys.ensures.heard),
    )
