use Rattle.std.proofs.Common.{true, None, map, set, refl, sym, ap, ◌∙◌, arith}
use Rattle.std.proofs.lemmas.List.{map-set, length-set}
use Rattle.match_lanes.specs.declared.lanes.Hook.{Hook}
use Rattle.match_lanes.specs.Hung.{Hung}
use Rattle.match_lanes.specs.Links.{next_of, lane_of, shown}
use Rattle.match_lanes.proofs.Places.{map_set_kept}
use Rattle.match_lanes.proofs.Linked.{linked_gone, same_links}
use Rattle.match_lanes.proofs.lanes.Lanes.unhook.Goals as goal

pub invariant_of-self : goal.invariant_of-self
invariant_of-self c =
    let hooks = c.self.inside.hooks.items in
    let here = c.index_mut.result.now in
    let gone : Hook = record { next = here.next; gone = true; lane = here.lane } in
    let linked = linked_gone (map lane_of hooks) (map shown hooks) (map next_of hooks) c.self.inside.ends.items c.args.place c.self.invariant.0 in (
      same_links _ _ _ _ _ _ _ _ (sym (map_set_kept lane_of hooks c.args.place gone here (ap lane_of c.index_mut.ensures.value)))
          (sym (map-set shown hooks c.args.place gone)) (sym (map_set_kept next_of hooks c.args.place gone here (ap next_of c.index_mut.ensures.value)))
          refl linked,
      record {
        memory = omega (arith, length-set hooks c.args.place gone, c.self.invariant.1.memory);
        numbers = omega (arith, length-set hooks c.args.place gone, c.self.invariant.1.numbers);
      },
    )

pub returns-clause-lanes : goal.returns-clause-lanes
returns-clause-lanes c =
    map-set shown c.self.inside.hooks.items c.args.place _ ∙ ap (λ (h : Hung). set h.lanes c.args.place None) c.self.view_is
