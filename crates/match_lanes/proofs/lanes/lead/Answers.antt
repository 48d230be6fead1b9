use Rattle.std.proofs.Common.{map, sym, ap, ◌∙◌}
use Rattle.std.proofs.lemmas.List.{map-set}
use Rattle.match_lanes.specs.Links.{next_of, lane_of, shown, led}
use Rattle.match_lanes.proofs.Places.{map_set_kept}
use Rattle.match_lanes.proofs.lanes.lead.Goals as goal

pub returns-in-Some-clause-nexts : goal.returns-in-Some-clause-nexts
returns-in-Some-clause-nexts c =
    map-set next_of c.args.hooks.now.items c.in-Some.ends.last _
    ∙ ap (λ e. led (map next_of c.args.hooks.now.items) e c.args.place) (sym c.in-Some.is)

pub returns-in-Some-clause-was : goal.returns-in-Some-clause-was
returns-in-Some-clause-was c =
    map_set_kept lane_of c.args.hooks.now.items c.in-Some.ends.last _ c.index_mut.result.now (ap lane_of c.index_mut.ensures.value)

pub returns-in-Some-clause-is : goal.returns-in-Some-clause-is
returns-in-Some-clause-is c =
    map_set_kept shown c.args.hooks.now.items c.in-Some.ends.last _ c.index_mut.result.now (ap shown c.index_mut.ensures.value)
