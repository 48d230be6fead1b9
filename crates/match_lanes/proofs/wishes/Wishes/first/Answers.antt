use Rattle.std.proofs.Common.{position, sym, ap, ◌∙◌}
use Rattle.rt_base.specs.Matching.{Receive, is_match}
use Rattle.match_lanes.specs.Selectors.{doors_of}
use Rattle.match_lanes.specs.Waiting.{Line, passes}
use Rattle.match_lanes.proofs.Selecting.{doors_are_lanes}
use Rattle.match_lanes.proofs.Wished.{wishes_found}
use Rattle.match_lanes.proofs.wishes.Wishes.first.Goals as goal

pub first_of-requires : goal.first_of-requires
first_of-requires c =
    doors_are_lanes c.self.inside.keys.value c.args.message.now c.self.inside.lanes.count c.args.doors
    (c.requires.doors ∙ ap (λ (l : Line Receive). doors_of l.keys c.args.message.now) (sym c.self.view_is)) c.self.invariant.0.count

pub returns-clause-first : goal.returns-clause-first
returns-clause-first c =
    c.first_of.ensures.first
    ∙ wishes_found c.self.inside.keys.value c.self.inside.items.items c.self.inside.lanes c.self.inside.room c.args.message.now c.args.doors c.self.invariant.0
    (c.requires.doors ∙ ap (λ (l : Line Receive). doors_of l.keys c.args.message.now) (sym c.self.view_is))
    ∙ ap (λ (l : Line Receive). position (passes (λ wish. is_match wish c.args.message.now)) l.items) c.self.view_is
