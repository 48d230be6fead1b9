use Rattle.std.proofs.Common.{◌-◌, List, Option, Some, length, sym, ap, ◌∙◌, arith, subst}
use Rattle.rt_base.specs.Matching.{Message}
use Rattle.match_lanes.specs.Selectors.{doors_of}
use Rattle.match_lanes.specs.Waiting.{Line}
use Rattle.match_lanes.specs.Hanging.{AreMails}
use Rattle.match_lanes.proofs.Places.{length_one_more}
use Rattle.match_lanes.proofs.Selecting.{doors_are_lanes}
use Rattle.match_lanes.proofs.Mailed.{mail_added}
use Rattle.match_lanes.proofs.mails.Mails.push.Goals as goal

pub hang_four-requires-clause-lanes : goal.hang_four-requires-clause-lanes
hang_four-requires-clause-lanes c =
    doors_are_lanes c.self.inside.keys.value c.args.message c.self.inside.lanes.count c.args.doors
    (c.requires.doors ∙ ap (λ (l : Line Message). doors_of l.keys c.args.message) (sym c.self.view_is)) c.self.invariant.0.count

pub invariant_of-self : goal.invariant_of-self
invariant_of-self c =
    let items = c.self.inside.items.items in
    let more = length_one_more items (Some c.args.message) in
    let long = ap (λ (l : List (Option Message)). length l) c.keep.ensures.items in
    let room = ap (λ (l : Line Message). l.room) c.self.view_is in (
      subst (λ (l : List (Option Message)). AreMails c.self.inside.keys.value l c.hang_four.new.lanes (c.self.inside.room - 1)) (sym c.keep.ensures.items)
          (mail_added c.self.inside.keys.value items c.self.inside.lanes c.hang_four.new.lanes c.self.inside.room c.args.message c.args.doors
          c.self.invariant.0 (omega (arith, c.requires.room, room))
          (c.requires.doors ∙ ap (λ (l : Line Message). doors_of l.keys c.args.message) (sym c.self.view_is)) c.hang_four.ensures.lanes
          c.hang_four.ensures.count c.hang_four.ensures.room),
      record {
        memory = omega (arith, long, more, c.self.invariant.1.memory, c.keep.ensures.places, c.requires.room, room);
        numbers = omega (arith, long, more, c.self.invariant.1.numbers, c.requires.room, room);
      },
    )
