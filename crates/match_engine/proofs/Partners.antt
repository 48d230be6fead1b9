-- A partner that a posting finds was posted before, and is complete after.
use Rattle.std.proofs.Common.{◌≡◌, ℕ, zero, suc, Bool, true, ◌&&◌, ◌||◌, cond, List, [], ◌∷◌, ℤ, map, slice_get, option_to_list, Contains, Option, Some, None}
use Rattle.std.proofs.Common.{option_map, is_some, sym, refl, ap, ◌∙◌, subst}
use Rattle.std.specs.List.{list_any}
use Rattle.std.proofs.lemmas.Bool.{or_left, or_right, and_from}
use Rattle.std.proofs.lemmas.Option.{none-some, same_Some}
use Rattle.rt_base.specs.declared.data.ReqNo.{ReqNo}
use Rattle.rt_base.specs.declared.data.Program.{Program}
use Rattle.rt_base.specs.Operations.{posting_of}
use Rattle.rt_base.specs.Matching.{Message, Receive, same_request}
use Rattle.rt_base.specs.Exchange.{Exchange, Match, Posting, Sent, Asked, Nowhere, silent, what_is_posted, match_made, exchange_after, other_of, post}
use Rattle.rt_base.specs.Exchange.{partner, mailbox_of, place_of_receive, place_of_message}
use Rattle.rt_base.specs.Completion.{is_party, match_with, is_posted, is_complete, completes_alone}
use Rattle.rt_base.proofs.SameRequest.{same_request-self}
use Rattle.rt_base.proofs.Postings.{IsOf, what_is_of, posted_after, matched_after, party_of_made}
use Rattle.match_engine.specs.Laws.{Posted, after, AreNew, sends, asks}
use Rattle.match_engine.proofs.Accounts.{match}
use Rattle.match_engine.proofs.Standings.{found, contains_at}
use Rattle.match_engine.proofs.Waiting.{all_came}
use Rattle.match_engine.proofs.Matched.{request_of, posted_grow, at_place}

-- who called has posted
called_posted : (q : ReqNo) (calls : List Posted) (k : ℕ) (call : Posted) → slice_get calls k ≡ Some call → call.request ≡ q
    → list_any (same_request q) (map request_of calls) ≡ true
called_posted q [] k call at is = absurd (none-some call at)
called_posted q (first ∷ calls) zero call at is =
    or_left (same_request q first.request) (list_any (same_request q) (map request_of calls))
    (ap (λ (c : Posted). same_request q c.request) (same_Some first call at) ∙ ap (λ (r : ReqNo). same_request q r) is ∙ same_request-self q)
called_posted q (first ∷ calls) (suc k) call at is =
    or_right (same_request q first.request) (list_any (same_request q) (map request_of calls)) (called_posted q calls k call at is)

pub caller_posted : (ranks : ℕ) (calls : List Posted) (call : Posted) → Contains calls call → is_posted (after (silent ranks) calls) call.request ≡ true
caller_posted ranks calls call has =
    ap (list_any (same_request call.request)) (posted_grow (silent ranks) calls) ∙ called_posted call.request calls has.0 call (at_place calls call has) refl

-- the other party of a match that a posting makes was posted
other_posted : (ranks : ℕ) (calls : List Posted) (posting : Posting) (made : Match) → AreNew (silent ranks) calls
    → match_made (after (silent ranks) calls) posting ≡ Some made
    → is_posted (after (silent ranks) calls) (other_of posting made) ≡ true
other_posted ranks calls (Sent to message) made new is =
    let box = mailbox_of (after (silent ranks) calls) to in
    let from = found (λ (found : Receive). match message found) box.receives (place_of_receive box message) made is in
    let came = (all_came ranks calls new to).receives from.item (contains_at box.receives from.at from.item from.there) in
    subst (λ (m : Match). is_posted (after (silent ranks) calls) m.receive.request ≡ true) from.is (caller_posted ranks calls (asks to from.item) came)
other_posted ranks calls (Asked at wish) made new is =
    let box = mailbox_of (after (silent ranks) calls) at in
    let from = found (λ (found : Message). match found wish) box.messages (place_of_message box wish) made is in
    let came = (all_came ranks calls new at).messages from.item (contains_at box.messages from.at from.item from.there) in
    subst (λ (m : Match). is_posted (after (silent ranks) calls) m.message.request ≡ true) from.is (caller_posted ranks calls (sends at from.item) came)
other_posted ranks calls Nowhere made new is = absurd (none-some made is)

complete_from : (alone : Bool) (exchange : Exchange) (q : ReqNo) → is_posted exchange q ≡ true → is_some (match_with exchange.matches q) ≡ true
    → (is_posted exchange q && (is_some (match_with exchange.matches q) || alone)) ≡ true
complete_from alone exchange q posted matched =
    and_from (is_posted exchange q) (is_some (match_with exchange.matches q) || alone) posted (or_left (is_some (match_with exchange.matches q)) alone matched)

partner_by : (alone : Bool) (ranks : ℕ) (calls : List Posted) (req : ReqNo) (posting : Posting) (o : Option Match) (other : ReqNo)
    → AreNew (silent ranks) calls → IsOf req posting
    → match_made (after (silent ranks) calls) posting ≡ o → option_map (other_of posting) o ≡ Some other
    → (is_posted (exchange_after (after (silent ranks) calls) req posting) other
    && (is_some (match_with (exchange_after (after (silent ranks) calls) req posting).matches other) || alone)) ≡ true
partner_by alone ranks calls req posting None other new own made is = absurd (none-some other is)
partner_by alone ranks calls req posting (Some m) other new own made is =
    let x = after (silent ranks) calls in
    let same : other_of posting m ≡ other = same_Some (other_of posting m) other is in
    let party : is_party other m ≡ true =
    party_of_made x req other posting m own made
    ∙ or_right (same_request req other) (same_request (other_of posting m) other) (ap (λ (r : ReqNo). same_request r other) same ∙ same_request-self other) in
    complete_from alone (exchange_after x req posting) other
    (posted_after x req other posting
    ∙ or_left (is_posted x other) (same_request other req) (ap (is_posted x) (sym same) ∙ other_posted ranks calls posting m new made))
    (matched_after x req other posting
    ∙ or_right (is_some (match_with x.matches other)) (is_some (match_with (option_to_list (match_made x posting)) other))
    (ap (λ (o : Option Match). is_some (match_with (option_to_list o) other)) made ∙ ap (λ (b : Bool). is_some (cond b (Some m) None)) party))

-- a posting completes its partner
pub partner_completes : (program : Program) (ranks : ℕ) (calls : List Posted) (req other : ReqNo) (cells : List ℤ) → AreNew (silent ranks) calls
    → partner program (after (silent ranks) calls) req cells ≡ Some other
    → is_complete program (post program (after (silent ranks) calls) req cells) other ≡ true
unfolding is_complete post partner
partner_completes program ranks calls req other cells new is =
    partner_by (completes_alone program.eager (posting_of program other)) ranks calls req (what_is_posted program req cells)
    (match_made (after (silent ranks) calls) (what_is_posted program req cells)) other new (what_is_of program req cells) refl is
