use Rattle.std.proofs.Common.{◌≡◌, ◌<◌, List, map, length, position, sym, ap, ◌∙◌, subst, arith}
use Rattle.match_lanes.specs.declared.lanes.Hook.{Hook}
use Rattle.match_lanes.specs.Hung.{Hung, is_lane}
use Rattle.match_lanes.specs.Links.{next_of, lane_of, shown, AreNexts, IsFrontOf, IsStop}
use Rattle.match_lanes.proofs.Linked.{linked_front}
use Rattle.match_lanes.proofs.Walks.{some_ends_at, no_ends_at, ends_are_read, front_within, found_at, never_waits}
use Rattle.match_lanes.proofs.lanes.Lanes.first.Goals as goal

pub front_of-front-requires-clause-within : goal.front_of-front-requires-clause-within
front_of-front-requires-clause-within c =
    let hooks = c.self.inside.hooks.items in
    let below : c.args.lane < length c.self.inside.ends.items = omega (arith, c.requires.lane, ap (λ (h : Hung). h.count) c.self.view_is) in
    let has = some_ends_at hooks c.self.inside.ends.items c.args.lane c.index.result.now c.in-Some.ends c.self.invariant.0 below c.index.ensures c.in-Some.is in
    omega (arith, front_within hooks c.args.lane c.in-Some.ends.front has.front, ap (λ (h : List Hook). length h) c.deref.ensures.value)

pub invariant_of-self : goal.invariant_of-self
invariant_of-self c =
    let hooks = c.self.inside.hooks.items in
    let ends = c.self.inside.ends.items in
    let lane = c.args.lane in
    let below : lane < length ends = omega (arith, c.requires.lane, ap (λ (h : Hung). h.count) c.self.view_is) in
    let has = some_ends_at hooks ends lane c.index.result.now c.in-Some.ends c.self.invariant.0 below c.index.ensures c.in-Some.is in
    let front : IsFrontOf hooks lane c.front_of-front.result =
    subst (λ (h : List Hook). IsFrontOf h lane c.in-Some.ends.front → IsFrontOf h lane c.front_of-front.result) c.deref.ensures.value
    (c.front_of-front.ensures.front lane) has.front in (
      linked_front (map lane_of hooks) (map shown hooks) (map next_of hooks) ends lane c.in-Some.ends c.front_of-front.result c.self.invariant.0
          (ends_are_read ends lane c.index.result.now c.in-Some.ends below c.index.ensures c.in-Some.is) front,
      c.self.invariant.1,
    )

pub returns-in-Some-clause-first : goal.returns-in-Some-clause-first
returns-in-Some-clause-first c =
    let hooks = c.self.inside.hooks.items in
    let ends = c.self.inside.ends.items in
    let lane = c.args.lane in
    let below : lane < length ends = omega (arith, c.requires.lane, ap (λ (h : Hung). h.count) c.self.view_is) in
    let has = some_ends_at hooks ends lane c.index.result.now c.in-Some.ends c.self.invariant.0 below c.index.ensures c.in-Some.is in
    let front : IsFrontOf hooks lane c.front_of-front.result =
    subst (λ (h : List Hook). IsFrontOf h lane c.in-Some.ends.front → IsFrontOf h lane c.front_of-front.result) c.deref.ensures.value
    (c.front_of-front.ensures.front lane) has.front in
    let stop = subst (λ (h : List Hook). IsStop h c.front_of-front.result) c.deref.ensures.value c.front_of-front.ensures.stop in
    let seen = c.deref-in-Some.ensures.value in
    subst (λ (h : List Hook). IsFrontOf h lane c.front_of-front.result → IsStop h c.front_of-front.result
    → c.waiting_at.result ≡ position (is_lane lane) (map shown h)) seen
    (λ f s. found_at c.deref-in-Some.result.now lane c.front_of-front.result c.waiting_at.result
    (subst (λ (h : List Hook). AreNexts h) (sym seen) c.self.invariant.0.next) f s c.waiting_at.ensures.waits c.waiting_at.ensures.gone)
    front stop
    ∙ ap (λ (h : Hung). position (is_lane lane) h.lanes) c.self.view_is

pub returns-in-None-clause-first : goal.returns-in-None-clause-first
returns-in-None-clause-first c =
    let hooks = c.self.inside.hooks.items in
    let ends = c.self.inside.ends.items in
    let below : c.args.lane < length ends = omega (arith, c.requires.lane, ap (λ (h : Hung). h.count) c.self.view_is) in
    sym (never_waits hooks c.args.lane (no_ends_at hooks ends c.args.lane c.index.result.now c.self.invariant.0 below c.index.ensures c.in-None.is))
    ∙ ap (λ (h : Hung). position (is_lane c.args.lane) h.lanes) c.self.view_is
