-- A request waits in one place, or takes part in one match, and only once it is posted.
use Rattle.std.proofs.Common.{◌≡◌, ℕ, ◌+◌, ◌≤◌, ◌<◌, Bool, true, false, ◌||◌, cond, [], length, get_or, slice_get, count_by, option_to_list, Option, Some}
use Rattle.std.proofs.Common.{None, option_map, sym, refl, ap, ◌∙◌, arith}
use Rattle.std.proofs.lemmas.List.Sums.{sum_by_push, sum_by-set, sum_by-remove, sum_by-append}
use Rattle.std.proofs.lemmas.List.Quantifiers.{position-Some}
use Rattle.std.proofs.lemmas.Option.{slice_get-get_or}
use Rattle.std.proofs.lemmas.Bool.{false≢true}
use Rattle.std.proofs.lemmas.List.{append-nil}
use Rattle.rt_base.specs.declared.data.ReqNo.{ReqNo}
use Rattle.rt_base.specs.declared.data.Peer.TheVariants as peer
use Rattle.rt_base.specs.declared.data.TagSel.TheVariants as tag
use Rattle.rt_base.specs.Matching.{Message, Receive, same_request, is_match}
use Rattle.rt_base.specs.Exchange.{Exchange, Mailbox, Match, Posting, Sent, Asked, Nowhere, no_mail, mailbox_of, send, sent_to, receive, asked_for, element}
use Rattle.rt_base.specs.Exchange.{place_of_receive, place_of_message, match_made, exchange_after}
use Rattle.rt_base.specs.Completion.{is_party, is_posted}
use Rattle.match_engine.specs.Queues.{IsPlaced}
use Rattle.match_engine.specs.Kept.{in_mailbox, occurrences, IsAccounted}
use Rattle.rt_base.proofs.SameRequest.{one_request, same_request-comm}
use Rattle.rt_base.proofs.Postings.{IsOf, posted_after}

abbrev pub once : Bool → ℕ
once b = cond b 1 0

once_either : (a b : Bool) → once (a || b) ≤ once a + once b
once_either true b = omega arith
once_either false b = omega arith

abbrev sends : ReqNo → Message → Bool
sends q message = same_request message.request q

abbrev asks : ReqNo → Receive → Bool
asks q wish = same_request wish.request q

abbrev pub match : Message → Receive → Match
match message wish = record { message = message; receive = wish }

pub some_message : ReqNo → Message
some_message req = record { request = req; comm = 0; source = 0; tag = 0; cells = [] }

pub some_receive : ReqNo → Receive
some_receive req = record { request = req; comm = 0; source = peer.Any; tag = tag.Any }

-- the parties of a new match, if there is one
abbrev in_made : ReqNo → Option Match → ℕ
in_made q made = count_by (is_party q) (option_to_list made)

in_one : (q : ReqNo) (message : Message) (wish : Receive) → in_made q (Some (match message wish)) ≤ once (sends q message) + once (asks q wish)
in_one q message wish = omega (arith, once_either (sends q message) (asks q wish))

-- a message at a mailbox: it waits there, or the receive that it takes waits no longer
after_sent : (mailbox : Mailbox) (message : Message) (q : ReqNo) (place : Option ℕ) → place_of_receive mailbox message ≡ place
    → in_mailbox q (sent_to mailbox message place) + in_made q (option_map (λ (found : Receive). match message found) (element mailbox.receives place))
    ≤ in_mailbox q mailbox + once (sends q message)
after_sent mailbox message q None is = omega (arith, sum_by_push (λ (m : Message). once (sends q m)) mailbox.messages message)
after_sent mailbox message q (Some place) is =
    let below : place < length mailbox.receives = (position-Some (λ (wish : Receive). is_match wish message) mailbox.receives place (some_receive q) is).0 in
    let wish : Receive = get_or mailbox.receives place (some_receive q) in
    let found : slice_get mailbox.receives place ≡ Some wish = slice_get-get_or mailbox.receives place (some_receive q) below in
    omega (
      arith,
      in_one q message wish,
      sum_by-remove (λ (w : Receive). once (asks q w)) mailbox.receives place (some_receive q) below,
      ap (λ (o : Option Receive). in_made q (option_map (λ (found : Receive). match message found) o)) found,
    )

-- a receive at a mailbox: it waits there, or the message that it takes waits no longer
after_asked : (mailbox : Mailbox) (wish : Receive) (q : ReqNo) (place : Option ℕ) → place_of_message mailbox wish ≡ place
    → in_mailbox q (asked_for mailbox wish place) + in_made q (option_map (λ (found : Message). match found wish) (element mailbox.messages place))
    ≤ in_mailbox q mailbox + once (asks q wish)
after_asked mailbox wish q None is = omega (arith, sum_by_push (λ (w : Receive). once (asks q w)) mailbox.receives wish)
after_asked mailbox wish q (Some place) is =
    let below : place < length mailbox.messages = (position-Some (λ (message : Message). is_match wish message) mailbox.messages place (some_message q) is).0 in
    let message : Message = get_or mailbox.messages place (some_message q) in
    let found : slice_get mailbox.messages place ≡ Some message = slice_get-get_or mailbox.messages place (some_message q) below in
    omega (
      arith,
      in_one q message wish,
      sum_by-remove (λ (m : Message). once (sends q m)) mailbox.messages place (some_message q) below,
      ap (λ (o : Option Message). in_made q (option_map (λ (found : Message). match found wish) o)) found,
    )

-- a posting brings in nothing but its own request
occurrences_after : (exchange : Exchange) (req q : ReqNo) (posting : Posting) → IsOf req posting → IsPlaced (length exchange.mailboxes) posting
    → occurrences (exchange_after exchange req posting) q ≤ occurrences exchange q + once (same_request req q)
occurrences_after exchange req q (Sent to message) own placed =
    let mailbox = mailbox_of exchange to in
    omega (
      arith,
      after_sent mailbox message q (place_of_receive mailbox message) refl,
      sum_by-set (in_mailbox q) exchange.mailboxes to (send mailbox message) no_mail placed,
      sum_by-append (λ (m : Match). once (is_party q m)) exchange.matches (option_to_list (match_made exchange (Sent to message))),
      ap (λ (r : ReqNo). once (same_request r q)) own,
    )
occurrences_after exchange req q (Asked at wish) own placed =
    let mailbox = mailbox_of exchange at in
    omega (
      arith,
      after_asked mailbox wish q (place_of_message mailbox wish) refl,
      sum_by-set (in_mailbox q) exchange.mailboxes at (receive mailbox wish) no_mail placed,
      sum_by-append (λ (m : Match). once (is_party q m)) exchange.matches (option_to_list (match_made exchange (Asked at wish))),
      ap (λ (r : ReqNo). once (same_request r q)) own,
    )
occurrences_after exchange req q Nowhere own placed =
    omega (arith, ap (count_by (is_party q)) (append-nil exchange.matches))

once_of : {b : Bool} (c : Bool) → b ≡ c → once b ≡ once c
once_of c e = ap once e

accounted_at : (posted same : Bool) (before after : ℕ) → (same ≡ true → posted ≡ false) → before ≤ once posted → after ≤ before + once same
    → after ≤ once (posted || same)
accounted_at true true before after fresh was is = absurd (false≢true (sym (fresh refl)))
accounted_at true false before after fresh was is = omega arith
accounted_at false same before after fresh was is = omega arith

-- an exchange stays accounted for, where the request is new
pub accounted_after : (exchange : Exchange) (req : ReqNo) (posting : Posting) → IsOf req posting → IsPlaced (length exchange.mailboxes) posting
    → is_posted exchange req ≡ false → IsAccounted exchange → IsAccounted (exchange_after exchange req posting)
accounted_after exchange req posting own placed fresh accounted = λ q.
    let new : (same_request q req ≡ true) → is_posted exchange q ≡ false = λ same. ap (is_posted exchange) (one_request q req same) ∙ fresh in
    let bound = accounted_at (is_posted exchange q) (same_request q req) (occurrences exchange q) (occurrences (exchange_after exchange req posting) q) new
    (accounted q)
    (omega (arith, occurrences_after exchange req q posting own placed, ap once (same_request-comm req q))) in
    omega (arith, bound, ap once (posted_after exchange req q posting))
