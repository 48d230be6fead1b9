use Rattle.std.proofs.Common.{false, ◌≡◌, ◌<◌, ◌+◌, List, Option, Some, None, ℕ, map, length, get_or, set, refl, sym, ap, ◌∙◌, arith}
use Rattle.std.proofs.lemmas.List.{length-map}
use Rattle.match_lanes.specs.declared.lanes.Hook.{Hook}
use Rattle.match_lanes.specs.declared.lanes.Ends.{Ends}
use Rattle.match_lanes.specs.Hung.{Hung}
use Rattle.match_lanes.specs.Links.{next_of, lane_of, shown, led, front_with}
use Rattle.match_lanes.proofs.Linked.{linked_push, same_links}
use Rattle.match_lanes.proofs.Places.{length_one_more, seen_more, as_long}
use Rattle.match_lanes.proofs.Walks.{last_within, read_ends}
use Rattle.match_lanes.proofs.lanes.Lanes.push.Goals as goal

pub lead-front-requires : goal.lead-front-requires
lead-front-requires c =
    let below : c.args.lane < length c.self.inside.ends.items = omega (arith, c.requires.lane, ap (λ (h : Hung). h.count) c.self.view_is) in
    record { last = last_within c.self.inside.hooks.items c.self.inside.ends.items c.args.lane c.index.result.now c.self.invariant.0 below c.index.ensures }

pub invariant_of-self : goal.invariant_of-self
invariant_of-self c =
    let hooks = c.self.inside.hooks.items in
    let ends = c.self.inside.ends.items in
    let lane = c.args.lane in
    let place = c.len-place.result in
    let led_hooks = c.lead-front.new.hooks.items in
    let new = c.hang.new.hooks.items in
    let hook : Hook = record { next = place; gone = false; lane = c.of.result } in
    let below : lane < length ends = omega (arith, c.requires.lane, ap (λ (h : Hung). h.count) c.self.view_is) in
    let at : place ≡ length (map lane_of hooks) =
    omega (arith, c.len-place.ensures, c.self.inside.hooks.ok.0, length-map hooks lane_of) in
    let e : c.index.result.now ≡ get_or ends lane None = sym (read_ends ends lane c.index.result.now below c.index.ensures) in
    let long : length new ≡ length led_hooks + 1 = omega (arith, ap (λ (h : List Hook). length h) c.hang.ensures.items, length_one_more led_hooks hook) in
    let kept = as_long lane_of led_hooks hooks c.lead-front.ensures.was in
    let room = ap (λ (h : Hung). h.room) c.self.view_is in
    let linked = linked_push (map lane_of hooks) (map shown hooks) (map next_of hooks) ends lane place at below c.self.invariant.0 in (
      same_links _ _ _ _ _ _ _ _ (sym (seen_more lane_of new led_hooks hook (map lane_of hooks) (Some lane) c.hang.ensures.items c.lead-front.ensures.was
          (ap (λ (n : ℕ). Some n) c.of.ensures)))
          (sym (seen_more shown new led_hooks hook (map shown hooks) (Some lane) c.hang.ensures.items c.lead-front.ensures.is
          (ap (λ (n : ℕ). Some n) c.of.ensures)))
          (sym (seen_more next_of new led_hooks hook (led (map next_of hooks) (get_or ends lane None) place) place c.hang.ensures.items
          (c.lead-front.ensures.nexts ∙ ap (λ (x : Option Ends). led (map next_of hooks) x place) e) refl))
          (ap (λ (n : ℕ). set ends lane (Some (record { front = n; last = place })))
          (sym (c.lead-front.ensures.front ∙ ap (λ (x : Option Ends). front_with x place) e)))
          linked,
      record {
        memory = omega (arith, long, kept, c.self.invariant.1.memory, c.hang.ensures.places, c.lead-front.ensures.places, c.requires.room, room);
        numbers = omega (arith, long, kept, c.self.invariant.1.numbers, c.requires.room, room);
      },
    )
