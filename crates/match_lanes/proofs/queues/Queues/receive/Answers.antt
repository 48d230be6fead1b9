use Rattle.std.proofs.Common.{None, set, slice_get, option_map, sym, ap, ◌∙◌, subst}
use Rattle.rt_base.specs.Matching.{Message}
use Rattle.rt_base.specs.Exchange.{receive, element, place_of_message}
use Rattle.match_lanes.specs.Shelves.{Shelf, box}
use Rattle.match_lanes.specs.Waiting.{Line, Waits}
use Rattle.match_lanes.proofs.Mailboxes.{match, found_mail, asked_found, asked_match, asked_kept, asked_alone}
use Rattle.match_lanes.proofs.queues.Queues.receive.Goals as goal

pub take-requires : goal.take-requires
take-requires c =
    let t = found_mail c.self.inside.mails.items c.args.wish c.first.result c.in-Some.place c.first.ensures.first c.in-Some.is in
    subst (λ (l : Line Message). Waits l.items c.in-Some.place) (sym c.first.ensures.unchanged) t.waits

pub returns-in-Some-clause-lists : goal.returns-in-Some-clause-lists
returns-in-Some-clause-lists c =
    let t = found_mail c.self.inside.mails.items c.args.wish c.first.result c.in-Some.place c.first.ensures.first c.in-Some.is in
    asked_found c.self.inside.mails.items c.take.new.self.items c.self.inside.wishes.items c.args.wish c.in-Some.place t
    (c.take.ensures.items ∙ ap (λ (l : Line Message). set l.items c.in-Some.place None) c.first.ensures.unchanged)
    ∙ ap (λ (s : Shelf). receive s.mailbox c.args.wish) c.self.view_is

pub returns-in-Some-clause-made : goal.returns-in-Some-clause-made
returns-in-Some-clause-made c =
    let t = found_mail c.self.inside.mails.items c.args.wish c.first.result c.in-Some.place c.first.ensures.first c.in-Some.is in
    asked_match c.self.inside.mails.items c.self.inside.wishes.items c.args.wish c.in-Some.place c.take.result t
    (ap (λ (l : Line Message). slice_get l.items c.in-Some.place) (sym c.first.ensures.unchanged) ∙ c.take.ensures.item)
    ∙ ap (λ (s : Shelf). option_map (λ (found : Message). match found c.args.wish) (element s.mailbox.messages (place_of_message s.mailbox c.args.wish)))
    c.self.view_is

pub returns-in-None-clause-lists : goal.returns-in-None-clause-lists
returns-in-None-clause-lists c =
    ap (λ (l : Line Message). box l.items c.push.new.self.items) c.first.ensures.unchanged
    ∙ asked_kept c.self.inside.mails.items c.self.inside.wishes.items c.push.new.self.items c.args.wish c.first.result c.first.ensures.first c.in-None.is
    c.push.ensures.items
    ∙ ap (λ (s : Shelf). receive s.mailbox c.args.wish) c.self.view_is

pub returns-in-None-clause-made : goal.returns-in-None-clause-made
returns-in-None-clause-made c =
    asked_alone c.self.inside.mails.items c.self.inside.wishes.items c.args.wish c.first.result c.first.ensures.first c.in-None.is
    ∙ ap (λ (s : Shelf). option_map (λ (found : Message). match found c.args.wish) (element s.mailbox.messages (place_of_message s.mailbox c.args.wish)))
    c.self.view_is
