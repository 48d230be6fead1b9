-- Each match of a run was made by one of its postings, and nothing was overtaken.
use Rattle.std.proofs.Common.{◌≡◌, ℕ, zero, suc, ◌+◌, ◌≤◌, ◌<◌, Bool, true, false, not, cond, List, [], ◌∷◌, ◌++◌, length, map, take, get_or, slice_get}
use Rattle.std.proofs.Common.{Contains, Option, Some, None, option_to_list, sym, refl, ap, ◌∙◌, subst, arith, ◌⊎◌, inl, inr}
use Rattle.std.specs.List.{list_any}
use Rattle.std.proofs.Math.Seq.{take-append_seam}
use Rattle.std.proofs.lemmas.List.{append_assoc, append-nil, length_push, length-replicate, map-append}
use Rattle.std.proofs.lemmas.List.Elements.{Contains-append_left, Contains-push}
use Rattle.std.proofs.Math.ListN.{get_or-eq_default}
use Rattle.std.proofs.lemmas.List.Quantifiers.{position-Some}
use Rattle.std.proofs.lemmas.Option.{none-some, same_Some, slice_get_within, slice_get-get_or, get_or_from_slice_get}
use Rattle.std.proofs.lemmas.Bool.{or_parts, cases_lt}
use Rattle.rt_base.specs.declared.data.ReqNo.{ReqNo}
use Rattle.rt_base.specs.Matching.{Message, Receive, is_match, same_request}
use Rattle.rt_base.specs.Exchange.{Exchange, Mailbox, Match, Posting, Sent, Asked, Nowhere, no_mail, silent, mailbox_of, place_of_receive, place_of_message}
use Rattle.rt_base.specs.Exchange.{match_made, exchange_after}
use Rattle.match_engine.specs.Laws.{Posted, IsOwn, after, AreNew, sends, asks, IsAt, IsEarlier, Makes, posted_with}
use Rattle.match_engine.specs.Order.{MatchesArePosted, MessagesKeepOrder, ReceivesKeepOrder}
use Rattle.rt_base.proofs.SameRequest.{same_request-self}
use Rattle.match_engine.proofs.Accounts.{match}
use Rattle.match_engine.proofs.Orders.{place}
use Rattle.match_engine.proofs.Standings.{found, contains_at, posted_as, target, sent_in, asked_in, nothing_in, count_after}
use Rattle.match_engine.proofs.Overtaking.{next_is_new, messages_law, receives_law}
use Rattle.match_engine.proofs.Waiting.{AllCame, all_came}

abbrev pub request_of : Posted → ReqNo
request_of call = call.request

-- the matches that a run adds
abbrev more_matches : Exchange → List Posted → List Match
more_matches exchange [] = []
more_matches exchange (call ∷ calls) =
    option_to_list (match_made exchange call.posting) ++ more_matches (exchange_after exchange call.request call.posting) calls

matches_grow : (exchange : Exchange) (calls : List Posted) → (after exchange calls).matches ≡ exchange.matches ++ more_matches exchange calls
matches_grow exchange [] = sym (append-nil exchange.matches)
matches_grow exchange (call ∷ calls) =
    matches_grow (exchange_after exchange call.request call.posting) calls
    ∙ append_assoc exchange.matches (option_to_list (match_made exchange call.posting)) (more_matches (exchange_after exchange call.request call.posting) calls)

-- the requests that a run posts, behind those that were posted
pub posted_grow : (exchange : Exchange) (calls : List Posted) → (after exchange calls).posted ≡ exchange.posted ++ map request_of calls
posted_grow exchange [] = sym (append-nil exchange.posted)
posted_grow exchange (call ∷ calls) =
    posted_grow (exchange_after exchange call.request call.posting) calls ∙ append_assoc exchange.posted (call.request ∷ []) (map request_of calls)

-- a match of a run comes of one posting, and the matches before it are those that were made before this posting
record Split (exchange : Exchange) (calls : List Posted) (i : ℕ) (made : Match) : Type 0 where
  front : List Posted
  next : Posted
  back : List Posted
  is : calls ≡ front ++ next ∷ back
  match : match_made (after exchange front) next.posting ≡ Some made
  before : take i (after exchange calls).matches ≡ (after exchange front).matches

seam_of : {X : Type 0} (xs : List X) (x : X) (ys : List X) → slice_get ((xs ++ x ∷ []) ++ ys) (length xs) ≡ Some x
seam_of [] x ys = refl
seam_of (y ∷ xs) x ys = seam_of xs x ys

-- the next posting makes match number i, or that comes later
here_or_later : (exchange : Exchange) (call : Posted) (i : ℕ) (o : Option Match) → match_made exchange call.posting ≡ o → length exchange.matches ≤ i
    → ((m : Match) × (match_made exchange call.posting ≡ Some m)
    × (i ≡ length exchange.matches)) ⊎ (length (exchange_after exchange call.request call.posting).matches ≤ i)
here_or_later exchange call i None is past =
    inr (omega (arith, past, ap (λ (o : Option Match). length (exchange.matches ++ option_to_list o)) is, ap length (append-nil exchange.matches)))
here_or_later exchange call i (Some m) is past = elim (cases_lt (length exchange.matches) i) [
  | inl below ↦ inr (omega (arith, below, ap (λ (o : Option Match). length (exchange.matches ++ option_to_list o)) is, length_push exchange.matches m))
  | inr above ↦ inl (m, is, omega (arith, past, above))
]

split_here : (exchange : Exchange) (call : Posted) (calls : List Posted) (i : ℕ) (m made : Match) → match_made exchange call.posting ≡ Some m
    → i ≡ length exchange.matches
    → slice_get (after exchange (call ∷ calls)).matches i ≡ Some made → Split exchange (call ∷ calls) i made
split_here exchange call calls i m made is same at =
    let rest = more_matches (exchange_after exchange call.request call.posting) calls in
    let all : (after exchange (call ∷ calls)).matches ≡ (exchange.matches ++ m ∷ []) ++ rest =
    matches_grow (exchange_after exchange call.request call.posting) calls
    ∙ ap (λ (o : Option Match). (exchange.matches ++ option_to_list o) ++ rest) is in
    record {
      front = [];
      next = call;
      back = calls;
      is = refl;
      match = is ∙ sym (seam_of exchange.matches m rest) ∙ ap (slice_get ((exchange.matches ++ m ∷ []) ++ rest)) (sym same)
          ∙ ap (λ (ms : List Match). slice_get ms i) (sym all) ∙ at;
      before = ap (take i) all ∙ ap (λ (n : ℕ). take n ((exchange.matches ++ m ∷ []) ++ rest)) same
          ∙ ap (take (length exchange.matches)) (append_assoc exchange.matches (m ∷ []) rest) ∙ take-append_seam exchange.matches (m ∷ rest);
    }

split : (exchange : Exchange) (calls : List Posted) (i : ℕ) (made : Match) → length exchange.matches ≤ i
    → slice_get (after exchange calls).matches i ≡ Some made → Split exchange calls i made
split exchange [] i made past at = absurd (omega (arith, past, slice_get_within exchange.matches i made at))
split exchange (call ∷ calls) i made past at = elim (here_or_later exchange call i (match_made exchange call.posting) refl past) [
  | inl here ↦ split_here exchange call calls i here.0 made here.1 here.2 at
  | inr later ↦
      let rest = split (exchange_after exchange call.request call.posting) calls i made later at in
      record {
        front = call ∷ rest.front;
        next = rest.next;
        back = rest.back;
        is = ap (λ (cs : List Posted). call ∷ cs) rest.is;
        match = rest.match;
        before =
            rest.before;
      }
]

-- new postings stay new without those at their end
pub new_front : (exchange : Exchange) (calls more : List Posted) → AreNew exchange (calls ++ more) → AreNew exchange calls
new_front exchange [] more new = tt
new_front exchange (call ∷ calls) more new = (new.0, new.1, new_front (exchange_after exchange call.request call.posting) calls more new.2)

-- the place of a request in a list, by whether it is the first
abbrev cond_place : Bool → List ReqNo → ReqNo → ℕ
cond_place b rest q = cond (not b) (1 + place rest q) 0

-- who is new has the place behind those that were posted
place_behind : (posted : List ReqNo) (q : ReqNo) (more : List ReqNo) → list_any (same_request q) posted ≡ false → place (posted ++ q ∷ more) q ≡ length posted
place_behind [] q more fresh = ap (λ (b : Bool). cond_place b more q) (same_request-self q)
place_behind (r ∷ posted) q more fresh =
    let parts = or_parts (same_request q r) (list_any (same_request q) posted) fresh in
    ap (λ (b : Bool). cond_place b (posted ++ q ∷ more) q) parts.0 ∙ omega (arith, place_behind posted q more parts.1)

-- among new postings each stands at the place of its request
place_of_call : (exchange : Exchange) (calls : List Posted) (j : ℕ) (call : Posted) → AreNew exchange calls → slice_get calls j ≡ Some call
    → place (exchange.posted ++ map request_of calls) call.request ≡ length exchange.posted + j
place_of_call exchange [] j call new at = absurd (none-some call at)
place_of_call exchange (first ∷ calls) zero call new at =
    let same : first ≡ call = same_Some first call at in
    subst (λ (c : Posted). place (exchange.posted ++ first.request ∷ map request_of calls) c.request ≡ length exchange.posted + zero) same
    (place_behind exchange.posted first.request (map request_of calls) new.1 ∙ omega arith)
place_of_call exchange (first ∷ calls) (suc j) call new at =
    ap (λ (rs : List ReqNo). place rs call.request) (sym (append_assoc exchange.posted (first.request ∷ []) (map request_of calls)))
    ∙ place_of_call (exchange_after exchange first.request first.posting) calls j call new.2 at
    ∙ omega (arith, length_push exchange.posted first.request)

pub place_at : (ranks : ℕ) (calls : List Posted) (j : ℕ) (call : Posted) → AreNew (silent ranks) calls → slice_get calls j ≡ Some call
    → place (map request_of calls) call.request ≡ j
place_at ranks calls j call new at = place_of_call (silent ranks) calls j call new at ∙ omega arith

-- two postings of one request are one
pub one_place : (ranks : ℕ) (calls : List Posted) (j k : ℕ) (one other : Posted) → AreNew (silent ranks) calls → slice_get calls j ≡ Some one
    → slice_get calls k ≡ Some other
    → one.request ≡ other.request → j ≡ k
one_place ranks calls j k one other new at there same =
    sym (place_at ranks calls j one new at) ∙ ap (place (map request_of calls)) same ∙ place_at ranks calls k other new there

-- what stands in the front of a list stands there in the list, and the other way round
pub slice_get_front : {X : Type 0} (xs ys : List X) (k : ℕ) (x : X) → slice_get xs k ≡ Some x → slice_get (xs ++ ys) k ≡ Some x
slice_get_front [] ys k x at = absurd (none-some x at)
slice_get_front (z ∷ xs) ys zero x at = at
slice_get_front (z ∷ xs) ys (suc k) x at = slice_get_front xs ys k x at

pub slice_get_within_front : {X : Type 0} (xs ys : List X) (k : ℕ) (x : X) → k < length xs → slice_get (xs ++ ys) k ≡ Some x → slice_get xs k ≡ Some x
slice_get_within_front [] ys k x below at = absurd (omega (arith, below))
slice_get_within_front (z ∷ xs) ys zero x below at = at
slice_get_within_front (z ∷ xs) ys (suc k) x below at = slice_get_within_front xs ys k x (omega (arith, below)) at

pub at_place : {X : Type 0} (xs : List X) (x : X) (has : Contains xs x) → slice_get xs has.0 ≡ Some x
at_place xs x has = slice_get-get_or xs has.0 x has.1 ∙ ap Some has.2

-- the parties of the match that a posting makes after these
record Parties (calls : List Posted) (next : Posted) (made : Match) : Type 0 where
  sent : Contains (calls ++ next ∷ []) (sends (target next.posting) made.message)
  asked : Contains (calls ++ next ∷ []) (asks (target next.posting) made.receive)
  accepts : is_match made.receive made.message ≡ true
  at : IsAt (target next.posting) next.posting

-- a mailbox in which something waits exists
exists_message : (mailboxes : List Mailbox) (rank : ℕ) (m : Message) → Contains (get_or mailboxes rank no_mail).messages m → rank < length mailboxes
exists_message mailboxes rank m has = elim (cases_lt rank (length mailboxes)) [
  | inl below ↦ below
  | inr past ↦ absurd (nothing_in m (subst (λ (b : Mailbox). Contains b.messages m) (get_or-eq_default mailboxes no_mail past) has))
]

exists_receive : (mailboxes : List Mailbox) (rank : ℕ) (w : Receive) → Contains (get_or mailboxes rank no_mail).receives w → rank < length mailboxes
exists_receive mailboxes rank w has = elim (cases_lt rank (length mailboxes)) [
  | inl below ↦ below
  | inr past ↦ absurd (nothing_in w (subst (λ (b : Mailbox). Contains b.receives w) (get_or-eq_default mailboxes no_mail past) has))
]

parties_of : (calls : List Posted) (exchange : Exchange) (req : ReqNo) (posting : Posting) (made : Match) → AllCame calls exchange → IsOwn req posting
    → match_made exchange posting ≡ Some made → Parties calls (posted_as req posting) made × (target posting < length exchange.mailboxes)
parties_of calls exchange req (Sent to message) made came own is =
    let box = mailbox_of exchange to in
    let from = found (λ (found : Receive). match message found) box.receives (place_of_receive box message) made is in
    let has = contains_at box.receives from.at from.item from.there in
    let last = posted_as req (Sent to message) in
    let first = position-Some (λ (wish : Receive). is_match wish message) box.receives from.at from.item from.place_is in (
      subst (Parties calls last) from.is (record {
        sent = subst (λ (r : ReqNo). Contains (calls ++ last ∷ []) (posted_as r (Sent to message))) (sym own) (Contains-push calls last);
        asked = Contains-append_left calls (last ∷ []) (asks to from.item) ((came to).receives from.item has);
        accepts = ap (λ (w : Receive). is_match w message) (sym (get_or_from_slice_get box.receives from.at from.item from.item from.there)) ∙ first.1;
        at = refl;
      }),
      exists_receive exchange.mailboxes to from.item has,
    )
parties_of calls exchange req (Asked at wish) made came own is =
    let box = mailbox_of exchange at in
    let from = found (λ (found : Message). match found wish) box.messages (place_of_message box wish) made is in
    let has = contains_at box.messages from.at from.item from.there in
    let last = posted_as req (Asked at wish) in
    let first = position-Some (λ (message : Message). is_match wish message) box.messages from.at from.item from.place_is in (
      subst (Parties calls last) from.is (record {
        sent = Contains-append_left calls (last ∷ []) (sends at from.item) ((came at).messages from.item has);
        asked = subst (λ (r : ReqNo). Contains (calls ++ last ∷ []) (posted_as r (Asked at wish))) (sym own) (Contains-push calls last);
        accepts = ap (λ (m : Message). is_match wish m) (sym (get_or_from_slice_get box.messages from.at from.item from.item from.there)) ∙ first.1;
        at = refl;
      }),
      exists_message exchange.mailboxes at from.item has,
    )
parties_of calls exchange req Nowhere made came own is = absurd (none-some made is)

-- a match of a run: the posting that made it, at which rank, and where its parties were posted
record Making (ranks : ℕ) (calls : List Posted) (i : ℕ) (made : Match) : Type 0 where
  front : List Posted
  next : Posted
  back : List Posted
  is : calls ≡ (front ++ next ∷ []) ++ back
  before : take i (after (silent ranks) calls).matches ≡ (after (silent ranks) front).matches
  makes : Makes ranks (target next.posting) front next made
  sent_at : ℕ
  sent : slice_get (front ++ next ∷ []) sent_at ≡ Some (sends (target next.posting) made.message)
  asked_at : ℕ
  asked : slice_get (front ++ next ∷ []) asked_at ≡ Some (asks (target next.posting) made.receive)
  accepts : is_match made.receive made.message ≡ true

making : (ranks : ℕ) (calls : List Posted) (i : ℕ) (made : Match) → AreNew (silent ranks) calls → slice_get (after (silent ranks) calls).matches i ≡ Some made
    → Making ranks calls i made
making ranks calls i made new at =
    let one = split (silent ranks) calls i made (omega arith) at in
    let whole : calls ≡ (one.front ++ one.next ∷ []) ++ one.back = one.is ∙ sym (append_assoc one.front (one.next ∷ []) one.back) in
    let prefix = new_front (silent ranks) (one.front ++ one.next ∷ []) one.back (subst (AreNew (silent ranks)) whole new) in
    let facts = next_is_new (silent ranks) one.front one.next prefix in
    let both = parties_of one.front (after (silent ranks) one.front) one.next.request one.next.posting made (all_came ranks one.front facts.calls_new)
    facts.own one.match in
    record {
      front = one.front;
      next = one.next;
      back = one.back;
      is = whole;
      before = one.before;
      makes = record {
        rank_is = omega (arith, both.1, count_after (silent ranks) one.front, length-replicate ranks no_mail);
        new = prefix;
        at = both.0.at;
        match = one.match;
      };
      sent_at = both.0.sent.0;
      sent = at_place (one.front ++ one.next ∷ []) _ both.0.sent;
      asked_at = both.0.asked.0;
      asked = at_place (one.front ++ one.next ∷ []) _ both.0.asked;
      accepts = both.0.accepts;
    }

-- what stands in the front stands in the whole
in_whole : (calls front back : List Posted) (k : ℕ) (call : Posted) → calls ≡ front ++ back → slice_get front k ≡ Some call → slice_get calls k ≡ Some call
in_whole calls front back k call is at = ap (λ (cs : List Posted). slice_get cs k) is ∙ slice_get_front front back k call at

-- each match was posted
pub posted_law : MatchesArePosted
posted_law ranks calls i made new at =
    let one = making ranks calls i made new at in (
      target one.next.posting,
      record {
        rank_is = one.makes.rank_is;
        new = new;
        match = at;
        sent_at = one.sent_at;
        asked_at = one.asked_at;
        sent = in_whole calls (one.front ++ one.next ∷ []) one.back one.sent_at _ one.is one.sent;
        asked = in_whole calls (one.front ++ one.next ∷ []) one.back one.asked_at _ one.is one.asked;
        accepts = one.accepts;
      },
    )

-- the requests that were posted, with the next, are those of these calls
with_next : (ranks : ℕ) (front : List Posted) (next : Posted) → posted_with ranks front next ≡ map request_of (front ++ next ∷ [])
with_next ranks front next = ap (λ (rs : List ReqNo). rs ++ next.request ∷ []) (posted_grow (silent ranks) front)
    ∙ sym (map-append request_of front (next ∷ []))

-- what was posted before a posting of the front stands in the front
record Before (ranks : ℕ) (front : List Posted) (next : Posted) (one other : Posted) : Type 0 where
  has : Contains front one
  sooner : IsEarlier (posted_with ranks front next) one.request other.request

comes_before : (ranks : ℕ) (calls front back : List Posted) (next : Posted) (j k : ℕ) (one other : Posted) → calls ≡ (front ++ next ∷ []) ++ back
    → AreNew (silent ranks) (front ++ next ∷ []) → slice_get calls j ≡ Some one → slice_get (front ++ next ∷ []) k ≡ Some other → j < k
    → Before ranks front next one other
comes_before ranks calls front back next j k one other is new at there below =
    let all = front ++ next ∷ [] in
    let within : j < length front = omega (arith, below, slice_get_within all k other there, length_push front next) in
    let in_all : slice_get all j ≡ Some one =
    slice_get_within_front all back j one (omega (arith, within, length_push front next)) (ap (λ (cs : List Posted). slice_get cs j) (sym is) ∙ at) in
    let in_front = slice_get_within_front front (next ∷ []) j one within in_all in
    record {
      has = contains_at front j one in_front;
      sooner = subst (λ (rs : List ReqNo). IsEarlier rs one.request other.request) (sym (with_next ranks front next))
          (omega (arith, below, place_at ranks all j one new in_all, place_at ranks all k other new there));
    }

-- a place of the whole that posts the same request is that of the front
same_place : (ranks : ℕ) (calls front back : List Posted) (j k : ℕ) (one other : Posted) → calls ≡ front ++ back → AreNew (silent ranks) calls
    → slice_get calls j ≡ Some one → slice_get front k ≡ Some other → one.request ≡ other.request → (j ≡ k) × (one ≡ other)
same_place ranks calls front back j k one other is new at there same =
    let here = in_whole calls front back k other is there in
    let equal = one_place ranks calls j k one other new at here same in
    (equal, same_Some one other (sym at ∙ ap (slice_get calls) equal ∙ here))

-- messages keep their order in every match
pub messages_order : MessagesKeepOrder
messages_order ranks rank calls i j made earlier at there before accepts =
    let one = making ranks calls i made at.new at.match in
    let all = one.front ++ one.next ∷ [] in
    let own = same_place ranks calls all one.back at.sent_at one.sent_at (sends rank made.message) (sends (target one.next.posting) made.message) one.is
    at.new at.sent one.sent refl in
    let here : target one.next.posting ≡ rank = sym (ap (λ (c : Posted). target c.posting) own.1) in
    let sooner = comes_before ranks calls one.front one.back one.next j one.sent_at (sends rank earlier) (sends (target one.next.posting) made.message) one.is
    one.makes.new there one.sent
    (omega (arith, before, own.0)) in
    subst (λ (ms : List Match). Contains (map sent_in ms) earlier) (sym one.before)
    (messages_law ranks rank one.front one.next made earlier (subst (λ (r : ℕ). Makes ranks r one.front one.next made) here one.makes) sooner.has accepts
    sooner.sooner)

-- receives keep their order in every match
pub receives_order : ReceivesKeepOrder
receives_order ranks rank calls i j made earlier at there before accepts =
    let one = making ranks calls i made at.new at.match in
    let all = one.front ++ one.next ∷ [] in
    let own = same_place ranks calls all one.back at.asked_at one.asked_at (asks rank made.receive) (asks (target one.next.posting) made.receive) one.is
    at.new at.asked one.asked refl in
    let here : target one.next.posting ≡ rank = sym (ap (λ (c : Posted). target c.posting) own.1) in
    let sooner = comes_before ranks calls one.front one.back one.next j one.asked_at (asks rank earlier) (asks (target one.next.posting) made.receive) one.is
    one.makes.new there one.asked
    (omega (arith, before, own.0)) in
    subst (λ (ms : List Match). Contains (map asked_in ms) earlier) (sym one.before)
    (receives_law ranks rank one.front one.next made earlier (subst (λ (r : ℕ). Makes ranks r one.front one.next made) here one.makes) sooner.has accepts
    sooner.sooner)
