-- Whatever waits in a mailbox was posted there.
use Rattle.std.proofs.Common.{◌≡◌, ℕ, ◌≤◌, ◌<◌, List, [], ◌∷◌, ◌++◌, length, get_or, set, Contains, Option, Some, None, sym, refl, ap, ◌∙◌, subst, arith, ◌⊎◌}
use Rattle.std.proofs.Common.{inl, inr}
use Rattle.std.proofs.Math.ListN.{get_or-eq_default}
use Rattle.std.proofs.lemmas.List.{get_or-set_same, length-set, append-nil, append_assoc}
use Rattle.std.proofs.lemmas.List.Elements.{Contains-append_left, Contains-push, Contains-push_cases}
use Rattle.std.proofs.lemmas.List.Quantifiers.{position-Some}
use Rattle.std.proofs.lemmas.Bool.{cases_lt, cases_eq}
use Rattle.rt_base.specs.declared.data.ReqNo.{ReqNo}
use Rattle.rt_base.specs.Matching.{Message, Receive, is_match}
use Rattle.rt_base.specs.Exchange.{Exchange, Mailbox, Posting, Sent, Asked, Nowhere, no_mail, silent, mailbox_of, send, sent_to, receive, asked_for}
use Rattle.rt_base.specs.Exchange.{place_of_receive, place_of_message, exchange_after}
use Rattle.match_engine.specs.Laws.{Posted, IsOwn, after, AreNew, sends, asks}
use Rattle.match_engine.proofs.Accounts.{some_message, some_receive}
use Rattle.match_engine.proofs.Orders.{contains_whole}
use Rattle.match_engine.proofs.Standings.{posted_as, set_elsewhere, no_mail_at}

-- what waits in a mailbox of this rank was posted there by these calls
pub record Came (calls : List Posted) (rank : ℕ) (mailbox : Mailbox) : Type 0 where
  pub messages : (m : Message) → Contains mailbox.messages m → Contains calls (sends rank m)
  pub receives : (w : Receive) → Contains mailbox.receives w → Contains calls (asks rank w)

abbrev pub AllCame : List Posted → Exchange → Type 0
AllCame calls exchange = (rank : ℕ) → Came calls rank (mailbox_of exchange rank)

came_none : (calls : List Posted) (rank : ℕ) → Came calls rank no_mail
came_none calls rank = record { messages = λ m has. absurd (omega (arith, has.1)); receives = λ w has. absurd (omega (arith, has.1)) }

came_more : (calls : List Posted) (call : Posted) (rank : ℕ) (mailbox : Mailbox) → Came calls rank mailbox → Came (calls ++ call ∷ []) rank mailbox
came_more calls call rank mailbox came = record {
  messages = λ m has. Contains-append_left calls (call ∷ []) (sends rank m) (came.messages m has);
  receives = λ w has. Contains-append_left calls (call ∷ []) (asks rank w) (came.receives w has);
}

came_sent : (calls : List Posted) (to : ℕ) (message : Message) (mailbox : Mailbox) (o : Option ℕ) → place_of_receive mailbox message ≡ o → Came calls to mailbox
    → Came (calls ++ sends to message ∷ []) to (sent_to mailbox message o)
came_sent calls to message mailbox None is came =
    let more = came_more calls (sends to message) to mailbox came in
    record {
      messages = λ m has. elim (Contains-push_cases mailbox.messages message m has) [
        | inl was ↦ more.messages m was
        | inr same ↦ subst (λ (z : Message). Contains (calls ++ sends to message ∷ []) (sends to z)) same (Contains-push calls (sends to message))
      ];
      receives = more.receives;
    }
came_sent calls to message mailbox (Some i) is came =
    let more = came_more calls (sends to message) to mailbox came in
    let within : i < length mailbox.receives =
    (position-Some (λ (wish : Receive). is_match wish message) mailbox.receives i (some_receive message.request) is).0 in
    record { messages = more.messages; receives = λ w has. more.receives w (contains_whole mailbox.receives i w within has) }

came_asked : (calls : List Posted) (at : ℕ) (wish : Receive) (mailbox : Mailbox) (o : Option ℕ) → place_of_message mailbox wish ≡ o → Came calls at mailbox
    → Came (calls ++ asks at wish ∷ []) at (asked_for mailbox wish o)
came_asked calls at wish mailbox None is came =
    let more = came_more calls (asks at wish) at mailbox came in
    record {
      messages = more.messages;
      receives = λ w has. elim (Contains-push_cases mailbox.receives wish w has) [
        | inl was ↦ more.receives w was
        | inr same ↦ subst (λ (z : Receive). Contains (calls ++ asks at wish ∷ []) (asks at z)) same (Contains-push calls (asks at wish))
      ];
    }
came_asked calls at wish mailbox (Some i) is came =
    let more = came_more calls (asks at wish) at mailbox came in
    let within : i < length mailbox.messages =
    (position-Some (λ (message : Message). is_match wish message) mailbox.messages i (some_message wish.request) is).0 in
    record { messages = λ m has. more.messages m (contains_whole mailbox.messages i m within has); receives = more.receives }

-- one mailbox changes
came_set : (calls : List Posted) (mailboxes : List Mailbox) (at rank : ℕ) (new : Mailbox) → Came calls rank (get_or mailboxes rank no_mail) → Came calls at new
    → (at ≡ rank) ⊎ (at ≡ rank → ⊥) → (at < length mailboxes) ⊎ (length mailboxes ≤ at) → Came calls rank (get_or (set mailboxes at new) rank no_mail)
came_set calls mailboxes at rank new was here (inl same) (inl below) =
    subst (Came calls rank) (sym (ap (λ (n : ℕ). get_or (set mailboxes at new) n no_mail) (sym same) ∙ get_or-set_same mailboxes at new no_mail below))
    (subst (λ (n : ℕ). Came calls n new) same here)
came_set calls mailboxes at rank new was here (inl same) (inr past) =
    subst (Came calls rank) (sym (get_or-eq_default (set mailboxes at new) no_mail (omega (
      arith,
      past,
      same,
      length-set mailboxes at new,
    )))) (came_none calls rank)
came_set calls mailboxes at rank new was here (inr other) cases = subst (Came calls rank) (sym (set_elsewhere mailboxes at rank new other)) was

came_step : (calls : List Posted) (exchange : Exchange) (req : ReqNo) (posting : Posting) → IsOwn req posting → AllCame calls exchange
    → AllCame (calls ++ posted_as req posting ∷ []) (exchange_after exchange req posting)
came_step calls exchange req (Sent to message) own came = λ rank.
    let box = mailbox_of exchange to in
    let same : sends to message ≡ posted_as req (Sent to message) = ap (λ (r : ReqNo). posted_as r (Sent to message)) own in
    came_set (calls ++ posted_as req (Sent to message) ∷ []) exchange.mailboxes to rank (send box message)
    (came_more calls (posted_as req (Sent to message)) rank (mailbox_of exchange rank) (came rank))
    (subst (λ (c : Posted). Came (calls ++ c ∷ []) to (send box message)) same (came_sent calls to message box (place_of_receive box message) refl (came to)))
    (cases_eq to rank) (cases_lt to (length exchange.mailboxes))
came_step calls exchange req (Asked at wish) own came = λ rank.
    let box = mailbox_of exchange at in
    let same : asks at wish ≡ posted_as req (Asked at wish) = ap (λ (r : ReqNo). posted_as r (Asked at wish)) own in
    came_set (calls ++ posted_as req (Asked at wish) ∷ []) exchange.mailboxes at rank (receive box wish)
    (came_more calls (posted_as req (Asked at wish)) rank (mailbox_of exchange rank) (came rank))
    (subst (λ (c : Posted). Came (calls ++ c ∷ []) at (receive box wish)) same (came_asked calls at wish box (place_of_message box wish) refl (came at)))
    (cases_eq at rank) (cases_lt at (length exchange.mailboxes))
came_step calls exchange req Nowhere own came = λ rank. came_more calls (posted_as req Nowhere) rank (mailbox_of exchange rank) (came rank)

came_run : (calls : List Posted) (exchange : Exchange) (more : List Posted) → AreNew exchange more → AllCame calls exchange
    → AllCame (calls ++ more) (after exchange more)
came_run calls exchange [] new came = subst (λ (all : List Posted). AllCame all exchange) (sym (append-nil calls)) came
came_run calls exchange (call ∷ more) new came =
    subst (λ (all : List Posted). AllCame all (after (exchange_after exchange call.request call.posting) more)) (append_assoc calls (call ∷ []) more)
    (came_run (calls ++ call ∷ []) (exchange_after exchange call.request call.posting) more new.2
    (came_step calls exchange call.request call.posting new.0 came))

-- after a run of postings of new requests
pub all_came : (ranks : ℕ) (calls : List Posted) → AreNew (silent ranks) calls → AllCame calls (after (silent ranks) calls)
all_came ranks calls new = came_run [] (silent ranks) calls new (λ rank. subst (Came [] rank) (sym (no_mail_at ranks rank)) (came_none [] rank))
