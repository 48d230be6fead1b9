use Rattle.std.proofs.Common.{None, set, slice_get, option_map, sym, ap, ◌∙◌, subst}
use Rattle.rt_base.specs.Matching.{Receive}
use Rattle.rt_base.specs.Exchange.{send, element, place_of_receive}
use Rattle.match_lanes.specs.Shelves.{Shelf, box}
use Rattle.match_lanes.specs.Waiting.{Line, Waits}
use Rattle.match_lanes.proofs.Mailboxes.{match, found_wish, sent_found, sent_match, sent_kept, sent_alone}
use Rattle.match_lanes.proofs.queues.Queues.send.Goals as goal

pub take-requires : goal.take-requires
take-requires c =
    let t = found_wish c.self.inside.wishes.items c.args.message c.first.result c.in-Some.place c.first.ensures.first c.in-Some.is in
    subst (λ (l : Line Receive). Waits l.items c.in-Some.place) (sym c.first.ensures.unchanged) t.waits

pub returns-in-Some-clause-lists : goal.returns-in-Some-clause-lists
returns-in-Some-clause-lists c =
    let t = found_wish c.self.inside.wishes.items c.args.message c.first.result c.in-Some.place c.first.ensures.first c.in-Some.is in
    sent_found c.self.inside.mails.items c.self.inside.wishes.items c.take.new.self.items c.args.message c.in-Some.place t
    (c.take.ensures.items ∙ ap (λ (l : Line Receive). set l.items c.in-Some.place None) c.first.ensures.unchanged)
    ∙ ap (λ (s : Shelf). send s.mailbox c.args.message) c.self.view_is

pub returns-in-Some-clause-made : goal.returns-in-Some-clause-made
returns-in-Some-clause-made c =
    let t = found_wish c.self.inside.wishes.items c.args.message c.first.result c.in-Some.place c.first.ensures.first c.in-Some.is in
    sent_match c.self.inside.mails.items c.self.inside.wishes.items c.args.message c.in-Some.place c.take.result t
    (ap (λ (l : Line Receive). slice_get l.items c.in-Some.place) (sym c.first.ensures.unchanged) ∙ c.take.ensures.item)
    ∙ ap (λ (s : Shelf). option_map (λ (found : Receive). match c.args.message found) (element s.mailbox.receives (place_of_receive s.mailbox c.args.message)))
    c.self.view_is

pub returns-in-None-clause-lists : goal.returns-in-None-clause-lists
returns-in-None-clause-lists c =
    ap (λ (l : Line Receive). box c.push.new.self.items l.items) c.first.ensures.unchanged
    ∙ sent_kept c.self.inside.mails.items c.push.new.self.items c.self.inside.wishes.items c.args.message c.first.result c.first.ensures.first c.in-None.is
    c.push.ensures.items
    ∙ ap (λ (s : Shelf). send s.mailbox c.args.message) c.self.view_is

pub returns-in-None-clause-made : goal.returns-in-None-clause-made
returns-in-None-clause-made c =
    sent_alone c.self.inside.mails.items c.self.inside.wishes.items c.args.message c.first.result c.first.ensures.first c.in-None.is
    ∙ ap (λ (s : Shelf). option_map (λ (found : Receive). match c.args.message found) (element s.mailbox.receives (place_of_receive s.mailbox c.args.message)))
    c.self.view_is
