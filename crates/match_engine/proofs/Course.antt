-- What becomes of each request when one is posted.
use Rattle.std.proofs.Common.{◌≡◌, ℕ, ◌+◌, ◌≤◌, Bool, true, false, ◌||◌, cond, List, [], ◌∷◌, ◌++◌, length, position, slice_get, sum_by, count_by}
use Rattle.std.proofs.Common.{option_to_list, Option, Some, None, option_map, IfSome, refl, ap, ◌∙◌, subst, arith}
use Rattle.std.proofs.lemmas.List.Sums.{get_or-le-sum_by, prefix_len-le-length}
use Rattle.std.proofs.lemmas.List.{append-nil, length_push}
use Rattle.std.proofs.lemmas.Grind.{common_steps}
use Rattle.std.proofs.lemmas.List.Folds.{position_or_len_push}
use Rattle.std.proofs.lemmas.List.Quantifiers.{position-Some}
use Rattle.std.proofs.lemmas.Option.{none-some, same_Some, slice_get_within, get_or_from_slice_get}
use Rattle.std.proofs.lemmas.Bool.{or_from, or_left, or_right}
use Rattle.rt_base.specs.declared.data.ReqNo.{ReqNo}
use Rattle.rt_base.specs.Matching.{Message, Receive, same_request}
use Rattle.rt_base.specs.Exchange.{Exchange, Mailbox, Match, Posting, Sent, Asked, Nowhere, no_mail, mailbox_of, element, place_of_receive, place_of_message}
use Rattle.rt_base.specs.Exchange.{match_made, exchange_after, other_of, partner_of}
use Rattle.rt_base.specs.Completion.{is_party, is_posted}
use Rattle.match_engine.specs.declared.slots.Progress.{Progress}
use Rattle.match_engine.specs.declared.slots.Progress.TheVariants.{Unposted, Waits, Matched}
use Rattle.match_engine.specs.Slots.{progress_by, progress_of}
use Rattle.match_engine.specs.Queues.{IsPlaced}
use Rattle.match_engine.specs.Kept.{in_mailbox, IsAccounted}
use Rattle.rt_base.proofs.SameRequest.{same_request-self, same_request-comm}
use Rattle.rt_base.proofs.Postings.{IsOf, posted_after, party_of_made, or_none}
use Rattle.match_engine.proofs.Accounts.{once, some_message, some_receive, match}

-- what nothing passes has no place
position_none : {X : Type 0} (p : X → Bool) (xs : List X) (d : X) (o : Option ℕ) → position p xs ≡ o → count_by p xs ≤ 0 → position p xs ≡ None
position_none p xs d None is none = is
position_none p xs d (Some i) is none =
    let at = position-Some p xs i d is in
    absurd (omega (arith, none, get_or-le-sum_by (λ x. once (p x)) xs i d at.0, ap once at.1))

-- a new last item has the first place where no other passes
position_push_yes : {X : Type 0} (p : X → Bool) (xs : List X) (y : X) → position p xs ≡ None → p y ≡ true → position p (xs ++ y ∷ []) ≡ Some (length xs)
position_push_yes p xs y none passes = grind (arith, common_steps, position_or_len_push p xs y, length_push xs y, prefix_len-le-length)

position_push_no : {X : Type 0} (p : X → Bool) (xs : List X) (y : X) → p y ≡ false → position p (xs ++ y ∷ []) ≡ position p xs
position_push_no p xs y fails = grind (arith, common_steps, position_or_len_push p xs y, length_push xs y, prefix_len-le-length)

-- an item that passes is counted
counted : {X : Type 0} (p : X → Bool) (xs : List X) (place : ℕ) (x : X) → slice_get xs place ≡ Some x → p x ≡ true → 1 ≤ count_by p xs
counted p xs place x is passes =
    omega (
      arith,
      get_or-le-sum_by (λ y. once (p y)) xs place x (slice_get_within xs place x is),
      ap once passes,
      ap (λ y. once (p y)) (get_or_from_slice_get xs place x x is),
    )

-- the receive that a message takes waits until then
receive_waits : (mailbox : Mailbox) (message : Message) (place : ℕ) (o : Option Receive) (made : Match) → slice_get mailbox.receives place ≡ o
    → option_map (λ (found : Receive). match message found) o ≡ Some made → 1 ≤ in_mailbox made.receive.request mailbox
receive_waits mailbox message place None made here is = absurd (none-some made is)
receive_waits mailbox message place (Some wish) made here is =
    let same : same_request wish.request made.receive.request ≡ true =
    subst (λ (m : Match). same_request wish.request m.receive.request ≡ true) (same_Some (match message wish) made is) (same_request-self wish.request) in
    omega (arith, counted (λ (w : Receive). same_request w.request made.receive.request) mailbox.receives place wish here same)

taken_receive : (mailbox : Mailbox) (message : Message) (place : Option ℕ) (made : Match)
    → option_map (λ (found : Receive). match message found) (element mailbox.receives place) ≡ Some made → 1 ≤ in_mailbox made.receive.request mailbox
taken_receive mailbox message None made is = absurd (none-some made is)
taken_receive mailbox message (Some place) made is = receive_waits mailbox message place (slice_get mailbox.receives place) made refl is

-- the message that a receive takes waits until then
message_waits : (mailbox : Mailbox) (wish : Receive) (place : ℕ) (o : Option Message) (made : Match) → slice_get mailbox.messages place ≡ o
    → option_map (λ (found : Message). match found wish) o ≡ Some made → 1 ≤ in_mailbox made.message.request mailbox
message_waits mailbox wish place None made here is = absurd (none-some made is)
message_waits mailbox wish place (Some message) made here is =
    let same : same_request message.request made.message.request ≡ true =
    subst (λ (m : Match). same_request message.request m.message.request ≡ true) (same_Some (match message wish) made is) (same_request-self message.request) in
    omega (arith, counted (λ (m : Message). same_request m.request made.message.request) mailbox.messages place message here same)

taken_message : (mailbox : Mailbox) (wish : Receive) (place : Option ℕ) (made : Match)
    → option_map (λ (found : Message). match found wish) (element mailbox.messages place) ≡ Some made → 1 ≤ in_mailbox made.message.request mailbox
taken_message mailbox wish None made is = absurd (none-some made is)
taken_message mailbox wish (Some place) made is = message_waits mailbox wish place (slice_get mailbox.messages place) made refl is

-- a partner waits in a mailbox until it is taken
partner_waits : (exchange : Exchange) (posting : Posting) (made : Match) → IsPlaced (length exchange.mailboxes) posting
    → match_made exchange posting ≡ Some made
    → 1 ≤ sum_by (in_mailbox (other_of posting made)) exchange.mailboxes
partner_waits exchange (Sent to message) made placed is =
    omega (
      arith,
      taken_receive (mailbox_of exchange to) message (place_of_receive (mailbox_of exchange to) message) made is,
      get_or-le-sum_by (in_mailbox made.receive.request) exchange.mailboxes to no_mail placed,
    )
partner_waits exchange (Asked at wish) made placed is =
    omega (
      arith,
      taken_message (mailbox_of exchange at) wish (place_of_message (mailbox_of exchange at) wish) made is,
      get_or-le-sum_by (in_mailbox made.message.request) exchange.mailboxes at no_mail placed,
    )
partner_waits exchange Nowhere made placed is = absurd (none-some made is)

-- a request in no match has no place among the matches
unmatched : (matches : List Match) (q : ReqNo) → count_by (is_party q) matches ≤ 0 → position (is_party q) matches ≡ None
unmatched matches q none = position_none (is_party q) matches (match (some_message q) (some_receive q)) (position (is_party q) matches) refl none

-- a request that isn't posted is in no match
pub new_is_unmatched : (exchange : Exchange) (req : ReqNo) → IsAccounted exchange → is_posted exchange req ≡ false
    → position (is_party req) exchange.matches ≡ None
new_is_unmatched exchange req accounted fresh = unmatched exchange.matches req (omega (arith, accounted req, ap once fresh))

at_most_one : (posted : Bool) (waits matches : ℕ) → waits + matches ≤ once posted → 1 ≤ waits → (posted ≡ true) × (matches ≤ 0)
at_most_one true waits matches bound one = (refl, omega arith)
at_most_one false waits matches bound one = absurd (omega arith)

-- what is known of a partner before it is taken
pub record IsPartner (exchange : Exchange) (other : ReqNo) : Type 0 where
  pub posted : is_posted exchange other ≡ true
  pub unmatched : position (is_party other) exchange.matches ≡ None

pub partner_before : (exchange : Exchange) (posting : Posting) (made : Match) → IsPlaced (length exchange.mailboxes) posting
    → match_made exchange posting ≡ Some made
    → IsAccounted exchange → IsPartner exchange (other_of posting made)
partner_before exchange posting made placed is accounted =
    let other = other_of posting made in
    let one = at_most_one (is_posted exchange other) (sum_by (in_mailbox other) exchange.mailboxes) (count_by (is_party other) exchange.matches)
    (accounted other)
    (partner_waits exchange posting made placed is) in
    record { posted = one.0; unmatched = unmatched exchange.matches other one.1 }

-- what became of a request, by its three facts
progress : Bool → Option ℕ → Progress
progress posted place = cond posted (progress_by place) Unposted

-- the matches after a posting
abbrev matches_with : List Match → Option Match → List Match
matches_with matches made = matches ++ option_to_list made

others_stay : (exchange : Exchange) (req q : ReqNo) (posting : Posting) (made : Option Match) → match_made exchange posting ≡ made → IsOf req posting
    → same_request req q ≡ false → IfSome (option_map (other_of posting) made) (λ other. same_request other q ≡ false)
    → position (is_party q) (matches_with exchange.matches made) ≡ position (is_party q) exchange.matches
others_stay exchange req q posting None is own apart others = ap (position (is_party q)) (append-nil exchange.matches)
others_stay exchange req q posting (Some made) is own apart others =
    position_push_no (is_party q) exchange.matches made
    (party_of_made exchange req q posting made own is ∙ or_from (same_request req q) (same_request (other_of posting made) q) apart others)

-- every other request is where it was
pub progress_other : (exchange : Exchange) (req q : ReqNo) (posting : Posting) → IsOf req posting
    → same_request req q ≡ false → IfSome (partner_of exchange posting) (λ other. same_request other q ≡ false)
    → progress_of (exchange_after exchange req posting) q ≡ progress_of exchange q
progress_other exchange req q posting own apart others =
    ap (λ (b : Bool). cond b (progress_by (position (is_party q) (exchange_after exchange req posting).matches)) Unposted)
    (posted_after exchange req q posting ∙ ap (λ (b : Bool). is_posted exchange q || b) (same_request-comm q req ∙ apart) ∙ or_none (is_posted exchange q))
    ∙ ap (λ (o : Option ℕ). cond (is_posted exchange q) (progress_by o) Unposted)
    (others_stay exchange req q posting (match_made exchange posting) refl own apart others)

-- a posting without a partner waits
pub progress_alone : (exchange : Exchange) (req : ReqNo) (posting : Posting) → IsAccounted exchange → is_posted exchange req ≡ false
    → match_made exchange posting ≡ None → progress_of (exchange_after exchange req posting) req ≡ Waits
progress_alone exchange req posting accounted fresh none =
    ap (λ (b : Bool). cond b (progress_by (position (is_party req) (exchange_after exchange req posting).matches)) Unposted)
    (posted_after exchange req req posting ∙ or_right (is_posted exchange req) (same_request req req) (same_request-self req))
    ∙ ap (λ (made : Option Match). progress_by (position (is_party req) (matches_with exchange.matches made))) none
    ∙ ap (λ (all : List Match). progress_by (position (is_party req) all)) (append-nil exchange.matches)
    ∙ ap progress_by (new_is_unmatched exchange req accounted fresh)

in_last : (exchange : Exchange) (req q : ReqNo) (posting : Posting) (made : Match) → match_made exchange posting ≡ Some made
    → is_posted (exchange_after exchange req posting) q ≡ true → position (is_party q) exchange.matches ≡ None → is_party q made ≡ true
    → progress_of (exchange_after exchange req posting) q ≡ Matched (length exchange.matches)
in_last exchange req q posting made is posted none party =
    ap (λ (b : Bool). cond b (progress_by (position (is_party q) (exchange_after exchange req posting).matches)) Unposted) posted
    ∙ ap (λ (m : Option Match). progress_by (position (is_party q) (matches_with exchange.matches m))) is
    ∙ ap progress_by (position_push_yes (is_party q) exchange.matches made none party)

-- a posting with a partner is in the last match
pub progress_taken : (exchange : Exchange) (req : ReqNo) (posting : Posting) (made : Match) → IsOf req posting → IsAccounted exchange
    → is_posted exchange req ≡ false
    → match_made exchange posting ≡ Some made → progress_of (exchange_after exchange req posting) req ≡ Matched (length exchange.matches)
progress_taken exchange req posting made own accounted fresh is =
    in_last exchange req req posting made is
    (posted_after exchange req req posting ∙ or_right (is_posted exchange req) (same_request req req) (same_request-self req))
    (new_is_unmatched exchange req accounted fresh)
    (party_of_made exchange req req posting made own is ∙ or_left (same_request req req) (same_request (other_of posting made) req) (same_request-self req))

-- and so is its partner
pub progress_partner : (exchange : Exchange) (req : ReqNo) (posting : Posting) (made : Match) → IsOf req posting → IsPlaced (length exchange.mailboxes) posting
    → IsAccounted exchange → match_made exchange posting ≡ Some made
    → progress_of (exchange_after exchange req posting) (other_of posting made) ≡ Matched (length exchange.matches)
progress_partner exchange req posting made own placed accounted is =
    let other = other_of posting made in
    let before = partner_before exchange posting made placed is accounted in
    in_last exchange req other posting made is
    (posted_after exchange req other posting ∙ or_left (is_posted exchange other) (same_request other req) before.posted)
    before.unmatched
    (party_of_made exchange req other posting made own is ∙ or_right (same_request req other) (same_request other other) (same_request-self other))
