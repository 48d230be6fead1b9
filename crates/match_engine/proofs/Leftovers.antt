-- In a run of postings nothing that matches is left.
use Rattle.std.proofs.Common.{◌≡◌, ℕ, ◌≤◌, ◌<◌, List, [], ◌∷◌, ◌++◌, length, get_or, set, remove, Option, Some, None, sym, refl, ap, ◌∙◌, subst, arith, ◌⊎◌}
use Rattle.std.proofs.Common.{inl, inr}
use Rattle.std.proofs.Math.ListN.{get_or-eq_default}
use Rattle.std.proofs.lemmas.List.{get_or-set_same, length-set}
use Rattle.std.proofs.lemmas.List.Quantifiers.{position-Some}
use Rattle.std.proofs.lemmas.Bool.{cases_lt, cases_eq}
use Rattle.rt_base.specs.declared.data.ReqNo.{ReqNo}
use Rattle.rt_base.specs.Matching.{Message, Receive, is_match}
use Rattle.rt_base.specs.Exchange.{Exchange, Mailbox, Posting, Sent, Asked, Nowhere, no_mail, silent, mailbox_of, send, sent_to, receive, asked_for}
use Rattle.rt_base.specs.Exchange.{place_of_receive, place_of_message, exchange_after}
use Rattle.match_engine.specs.Laws.{Posted, after, NothingMatchesIsLeft}
use Rattle.match_engine.proofs.Accounts.{some_message, some_receive}
use Rattle.match_engine.proofs.Orders.{Apart, nothing_apart, apart_waits, apart_takes, apart_swapped}
use Rattle.match_engine.proofs.Standings.{fits, suits, set_elsewhere, no_mail_at}

-- in each mailbox no message matches a receive
abbrev AllApart : Exchange → Type 0
AllApart exchange = (rank : ℕ) → Apart fits (mailbox_of exchange rank).messages (mailbox_of exchange rank).receives

apart_sent : (mailbox : Mailbox) (message : Message) (o : Option ℕ) → place_of_receive mailbox message ≡ o → Apart fits mailbox.messages mailbox.receives
    → Apart fits (sent_to mailbox message o).messages (sent_to mailbox message o).receives
apart_sent mailbox message None none apart = apart_waits fits message mailbox.messages mailbox.receives none apart
apart_sent mailbox message (Some i) is apart =
    apart_takes fits mailbox.messages mailbox.receives i
    (position-Some (λ (wish : Receive). is_match wish message) mailbox.receives i (some_receive message.request) is).0 apart

apart_asked : (mailbox : Mailbox) (wish : Receive) (o : Option ℕ) → place_of_message mailbox wish ≡ o → Apart fits mailbox.messages mailbox.receives
    → Apart fits (asked_for mailbox wish o).messages (asked_for mailbox wish o).receives
apart_asked mailbox wish None none apart =
    apart_swapped suits (mailbox.receives ++ wish ∷ []) mailbox.messages
    (apart_waits suits wish mailbox.receives mailbox.messages none (apart_swapped fits mailbox.messages mailbox.receives apart))
apart_asked mailbox wish (Some i) is apart =
    apart_swapped suits mailbox.receives (remove mailbox.messages i)
    (apart_takes suits mailbox.receives mailbox.messages i (position-Some (λ (message : Message). is_match wish message) mailbox.messages i
    (some_message wish.request) is).0
    (apart_swapped fits mailbox.messages mailbox.receives apart))

-- one mailbox changes, and all were apart before
apart_set : (exchange : Exchange) (at rank : ℕ) (new : Mailbox) → AllApart exchange → Apart fits new.messages new.receives → (at ≡ rank) ⊎ (at ≡ rank → ⊥)
    → (at < length exchange.mailboxes) ⊎ (length exchange.mailboxes ≤ at)
    → Apart fits (get_or (set exchange.mailboxes at new) rank no_mail).messages (get_or (set exchange.mailboxes at new) rank no_mail).receives
apart_set exchange at rank new apart here (inl same) (inl below) =
    subst (λ (b : Mailbox). Apart fits b.messages b.receives)
    (sym (ap (λ (n : ℕ). get_or (set exchange.mailboxes at new) n no_mail) (sym same) ∙ get_or-set_same exchange.mailboxes at new no_mail below)) here
apart_set exchange at rank new apart here (inl same) (inr past) =
    subst (λ (b : Mailbox). Apart fits b.messages b.receives)
    (sym (get_or-eq_default (set exchange.mailboxes at new) no_mail (omega (arith, past, same, length-set exchange.mailboxes at new)))) (nothing_apart fits [])
apart_set exchange at rank new apart here (inr other) cases =
    subst (λ (b : Mailbox). Apart fits b.messages b.receives) (sym (set_elsewhere exchange.mailboxes at rank new other)) (apart rank)

apart_step : (exchange : Exchange) (req : ReqNo) (posting : Posting) → AllApart exchange → AllApart (exchange_after exchange req posting)
apart_step exchange req (Sent to message) apart = λ rank.
    let box = mailbox_of exchange to in
    apart_set exchange to rank (send box message) apart (apart_sent box message (place_of_receive box message) refl (apart to)) (cases_eq to rank)
    (cases_lt to (length exchange.mailboxes))
apart_step exchange req (Asked at wish) apart = λ rank.
    let box = mailbox_of exchange at in
    apart_set exchange at rank (receive box wish) apart (apart_asked box wish (place_of_message box wish) refl (apart at)) (cases_eq at rank)
    (cases_lt at (length exchange.mailboxes))
apart_step exchange req Nowhere apart = apart

apart_run : (exchange : Exchange) (calls : List Posted) → AllApart exchange → AllApart (after exchange calls)
apart_run exchange [] apart = apart
apart_run exchange (call ∷ calls) apart =
    apart_run (exchange_after exchange call.request call.posting) calls (apart_step exchange call.request call.posting apart)

apart_at_start : (ranks : ℕ) → AllApart (silent ranks)
apart_at_start ranks = λ rank.
    subst (λ (b : Mailbox). Apart fits b.messages b.receives) (sym (no_mail_at ranks rank)) (nothing_apart fits [])

-- nothing that matches is left
pub nothing_law : NothingMatchesIsLeft
nothing_law ranks rank calls message wish has_message has_wish = apart_run (silent ranks) calls (apart_at_start ranks) rank message wish has_message has_wish
