use Rattle.std.proofs.Common.{List, sym, ap, ◌∙◌}
use Rattle.match_lanes.specs.declared.selector.Selector.{Selector}
use Rattle.match_lanes.specs.Selectors.{is_same, lane_in}
use Rattle.match_lanes.proofs.Places.{past_all}
use Rattle.match_lanes.proofs.keys.Keys.lane_of.Goals as goal

pub returns-in-None : goal.returns-in-None
returns-in-None c =
    c.len.ensures.len ∙ sym (past_all (is_same c.args.selector) c.self.inside.set.keys (sym c.place_of.ensures.place ∙ c.in-None.is))
    ∙ ap (λ (keys : List Selector). lane_in keys c.args.selector) c.self.view_is
