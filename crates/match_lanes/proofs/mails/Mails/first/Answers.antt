use Rattle.std.proofs.Common.{position, sym, ap, ◌∙◌, subst}
use Rattle.rt_base.specs.Matching.{Message, is_match}
use Rattle.match_lanes.specs.Selectors.{IsItsLane}
use Rattle.match_lanes.specs.Waiting.{Line, passes}
use Rattle.match_lanes.proofs.Mailed.{mails_found}
use Rattle.match_lanes.proofs.mails.Mails.first.Goals as goal

pub returns-clause-first : goal.returns-clause-first
returns-clause-first c =
    c.message_of.ensures
    ∙ mails_found c.self.inside.keys.value c.self.inside.items.items c.self.inside.lanes c.self.inside.room c.args.wish.now c.args.lane c.first.result
    c.self.invariant.0 (subst (λ (l : Line Message). IsItsLane l.keys c.args.wish.now c.args.lane) (sym c.self.view_is) c.requires.lane) c.first.ensures.first
    ∙ ap (λ (l : Line Message). position (passes (λ m. is_match c.args.wish.now m)) l.items) c.self.view_is
