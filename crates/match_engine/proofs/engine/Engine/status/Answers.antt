use Rattle.std.proofs.Common.{Option, ap, ◌∙◌}
use Rattle.rt_base.specs.Exchange.{Match}
use Rattle.match_engine.specs.Slots.{call_status}
use Rattle.match_engine.proofs.Keeps.{posted_has_slot}
use Rattle.match_engine.proofs.Replies.{complete_posted, status_for}
use Rattle.match_engine.proofs.engine.Engine.status.Goals as goal

pub get-slot-requires : goal.get-slot-requires
get-slot-requires c =
    posted_has_slot c.self.inside.program.value c.self.inside.eager c.self.inside.exchange c.self.inside.slots c.args.req c.self.invariant.0
    (complete_posted c.self.inside.program.value c.self.inside.exchange c.args.req c.args.self.now c.self.view_is c.requires.complete)

pub returns : goal.returns
returns c =
    c.status.ensures ∙ ap (λ (found : Option Match). call_status c.get-slot.result.call found) c.match_of.ensures
    ∙ status_for _ _ _ _ c.args.req c.get-slot.result c.args.self.now c.self.invariant.0 c.self.view_is c.get-slot.ensures c.requires.complete
