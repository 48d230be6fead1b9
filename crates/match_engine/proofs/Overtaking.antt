-- Nothing overtakes in a run of postings.
use Rattle.std.proofs.Common.{◌≡◌, ℕ, ◌<◌, true, false, List, [], ◌∷◌, ◌++◌, length, All, Contains, Some, sym, ap, ◌∙◌, subst, arith, inl, inr}
use Rattle.std.proofs.lemmas.List.{length-replicate}
use Rattle.std.proofs.lemmas.List.Elements.{All-contains}
use Rattle.std.proofs.lemmas.Bool.{both_ways}
use Rattle.rt_base.specs.declared.data.ReqNo.{ReqNo}
use Rattle.rt_base.specs.Matching.{Message, Receive, is_match}
use Rattle.rt_base.specs.Exchange.{Exchange, Mailbox, Match, Posting, Sent, Asked, Nowhere, no_mail, silent, mailbox_of, place_of_receive, place_of_message}
use Rattle.rt_base.specs.Exchange.{match_made, exchange_after}
use Rattle.rt_base.specs.Completion.{is_posted}
use Rattle.match_engine.specs.Laws.{Posted, IsOwn, after, AreNew, IsEarlier, IsAt, MessagesDoNotOvertake, ReceivesDoNotOvertake}
use Rattle.match_engine.proofs.Accounts.{match}
use Rattle.match_engine.proofs.Orders.{place, old_place, InOrder, oldest_is_taken}
use Rattle.match_engine.proofs.Standings.{message_of, wish_of, sent_in, asked_in, found, contains_at, AtRank, stands_run, stands_at_start, count_after}

-- what is new of a run and of the posting after it
pub record Next (exchange : Exchange) (calls : List Posted) (next : Posted) : Type 0 where
  pub calls_new : AreNew exchange calls
  pub own : IsOwn next.request next.posting
  pub fresh : is_posted (after exchange calls) next.request ≡ false

pub next_is_new : (exchange : Exchange) (calls : List Posted) (next : Posted) → AreNew exchange (calls ++ next ∷ []) → Next exchange calls next
next_is_new exchange [] next new = record { calls_new = tt; own = new.0; fresh = new.1 }
next_is_new exchange (call ∷ calls) next new =
    let rest = next_is_new (exchange_after exchange call.request call.posting) calls next new.2 in
    record { calls_new = (new.0, new.1, rest.calls_new); own = rest.own; fresh = rest.fresh }

-- an order in the list with the next posting is one without it, for what was posted before
was_earlier : {X : Type 0} (posted : List ReqNo) (r : ReqNo) (req : X → ReqNo) (xs : List X) (one other : X)
    → All (λ a. place posted (req a) < length posted) xs
    → Contains xs one → Contains xs other → IsEarlier (posted ++ r ∷ []) (req one) (req other) → place posted (req one) < place posted (req other)
was_earlier posted r req xs one other known has_one has_other before =
    omega (
      arith,
      before,
      old_place posted (req one) r (All-contains (λ a. place posted (req a) < length posted) xs one known has_one),
      old_place posted (req other) r (All-contains (λ a. place posted (req a) < length posted) xs other known has_other),
    )

message_not_overtaken : (calls : List Posted) (exchange : Exchange) (rank : ℕ) (req : ReqNo) (posting : Posting) (made : Match) (earlier : Message)
    → AtRank calls exchange rank → IsAt rank posting → match_made exchange posting ≡ Some made → Contains (mailbox_of exchange rank).messages earlier
    → is_match made.receive earlier ≡ true → IsEarlier (exchange.posted ++ req ∷ []) earlier.request made.message.request → ⊥
message_not_overtaken calls exchange rank req (Sent to message) made earlier sides at is waits accepts before =
    let box = mailbox_of exchange to in
    let from = found (λ (found : Receive). match message found) box.receives (place_of_receive box message) made is in
    let taken : made.receive ≡ from.item = ap asked_in (sym from.is) in
    let has = subst (λ (n : ℕ). Contains (mailbox_of exchange n).receives from.item) at (contains_at box.receives from.at from.item from.there) in
    both_ways (is_match made.receive earlier) (ap (λ (w : Receive). is_match w earlier) taken ∙ sides.apart earlier from.item waits has) accepts
message_not_overtaken calls exchange rank req (Asked at wish) made earlier sides here is waits accepts before =
    let box = mailbox_of exchange at in
    let same : mailbox_of exchange at ≡ mailbox_of exchange rank = ap (mailbox_of exchange) here in
    let from = found (λ (found : Message). match found wish) box.messages (place_of_message box wish) made is in
    let mine = subst (λ (b : Mailbox). Contains b.messages earlier) (sym same) waits in
    let ordered = subst (λ (b : Mailbox). InOrder exchange.posted message_of b.messages) (sym same) sides.one_order in
    let sooner = was_earlier exchange.posted req message_of box.messages earlier from.item ordered.known mine
    (contains_at box.messages from.at from.item from.there)
    (subst (λ (m : Match). IsEarlier (exchange.posted ++ req ∷ []) earlier.request m.message.request) (sym from.is) before) in
    both_ways (is_match made.receive earlier)
    (ap (λ (m : Match). is_match m.receive earlier) (sym from.is)
    ∙ oldest_is_taken (λ (m : Message). is_match wish m) box.messages (λ (m : Message). place exchange.posted m.request) from.at from.item earlier
    from.place_is from.there
    ordered.pairs mine sooner) accepts
message_not_overtaken calls exchange rank req Nowhere made earlier sides at is waits accepts before = at

receive_not_overtaken : (calls : List Posted) (exchange : Exchange) (rank : ℕ) (req : ReqNo) (posting : Posting) (made : Match) (earlier : Receive)
    → AtRank calls exchange rank → IsAt rank posting → match_made exchange posting ≡ Some made → Contains (mailbox_of exchange rank).receives earlier
    → is_match earlier made.message ≡ true → IsEarlier (exchange.posted ++ req ∷ []) earlier.request made.receive.request → ⊥
receive_not_overtaken calls exchange rank req (Asked at wish) made earlier sides here is waits accepts before =
    let box = mailbox_of exchange at in
    let from = found (λ (found : Message). match found wish) box.messages (place_of_message box wish) made is in
    let taken : made.message ≡ from.item = ap sent_in (sym from.is) in
    let has = subst (λ (n : ℕ). Contains (mailbox_of exchange n).messages from.item) here (contains_at box.messages from.at from.item from.there) in
    both_ways (is_match earlier made.message) (ap (λ (m : Message). is_match earlier m) taken ∙ sides.apart from.item earlier has waits) accepts
receive_not_overtaken calls exchange rank req (Sent to message) made earlier sides at is waits accepts before =
    let box = mailbox_of exchange to in
    let same : mailbox_of exchange to ≡ mailbox_of exchange rank = ap (mailbox_of exchange) at in
    let from = found (λ (found : Receive). match message found) box.receives (place_of_receive box message) made is in
    let mine = subst (λ (b : Mailbox). Contains b.receives earlier) (sym same) waits in
    let ordered = subst (λ (b : Mailbox). InOrder exchange.posted wish_of b.receives) (sym same) sides.other_order in
    let sooner = was_earlier exchange.posted req wish_of box.receives earlier from.item ordered.known mine
    (contains_at box.receives from.at from.item from.there)
    (subst (λ (m : Match). IsEarlier (exchange.posted ++ req ∷ []) earlier.request m.receive.request) (sym from.is) before) in
    both_ways (is_match earlier made.message)
    (ap (λ (m : Match). is_match earlier m.message) (sym from.is)
    ∙ oldest_is_taken (λ (w : Receive). is_match w message) box.receives (λ (w : Receive). place exchange.posted w.request) from.at from.item earlier
    from.place_is from.there
    ordered.pairs mine sooner) accepts
receive_not_overtaken calls exchange rank req Nowhere made earlier sides at is waits accepts before = at

-- the mailbox of a rank that exists, after a run from the start
at_rank : (ranks rank : ℕ) (calls : List Posted) → rank < ranks → AreNew (silent ranks) calls → AtRank calls (after (silent ranks) calls) rank
at_rank ranks rank calls below new =
    stands_run [] (silent ranks) calls new (stands_at_start ranks) rank
    (omega (arith, below, count_after (silent ranks) calls, length-replicate ranks no_mail))

-- messages do not overtake
pub messages_law : MessagesDoNotOvertake
messages_law ranks rank calls next made earlier makes has accepts before =
    let new = next_is_new (silent ranks) calls next makes.new in
    let sides = at_rank ranks rank calls makes.rank_is new.calls_new in
    elim (sides.one_known earlier has) [
      | inl waits ↦ absurd (message_not_overtaken calls (after (silent ranks) calls) rank next.request next.posting made earlier sides makes.at makes.match
          waits accepts before)
      | inr matched ↦ matched
    ]

-- receives do not overtake
pub receives_law : ReceivesDoNotOvertake
receives_law ranks rank calls next made earlier makes has accepts before =
    let new = next_is_new (silent ranks) calls next makes.new in
    let sides = at_rank ranks rank calls makes.rank_is new.calls_new in
    elim (sides.other_known earlier has) [
      | inl waits ↦ absurd (receive_not_overtaken calls (after (silent ranks) calls) rank next.request next.posting made earlier sides makes.at makes.match
          waits accepts before)
      | inr matched ↦ matched
    ]
