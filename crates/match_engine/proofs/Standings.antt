-- What waits in each mailbox of a run of postings, in the order of posting.
use Rattle.std.proofs.Common.{◌≡◌, ℕ, ◌<◌, Bool, true, false, List, [], ◌∷◌, ◌++◌, length, map, get_or, set, replicate, remove, slice_get, Contains, Option}
use Rattle.std.proofs.Common.{Some, None, option_map, option_to_list, sym, refl, ap, ◌∙◌, subst, arith, ◌⊎◌, inl, inr}
use Rattle.std.proofs.Math.ListN.{get_or-eq_default}
use Rattle.std.proofs.lemmas.List.{get_or-set_same, get_or-set_other, length-set, length-replicate, append_assoc, append-nil, map-append, get_or-replicate}
use Rattle.std.proofs.lemmas.List.Elements.{Contains-push_cases}
use Rattle.std.proofs.lemmas.List.Quantifiers.{position-Some}
use Rattle.std.proofs.lemmas.Option.{none-some, same_Some, get_or_from_slice_get, slice_get_within, slice_get-get_or}
use Rattle.std.proofs.lemmas.Bool.{cases_lt, cases_eq, false≢true}
use Rattle.rt_base.specs.declared.data.ReqNo.{ReqNo}
use Rattle.std.specs.List.{list_any}
use Rattle.rt_base.specs.Matching.{Message, Receive, is_match, same_request}
use Rattle.rt_base.specs.Exchange.{Exchange, Mailbox, Match, Posting, Sent, Asked, Nowhere, no_mail, silent, mailbox_of, send, sent_to, receive, asked_for}
use Rattle.rt_base.specs.Exchange.{element, place_of_receive, place_of_message, match_made, mailboxes_after, exchange_after}
use Rattle.rt_base.specs.Completion.{is_posted}
use Rattle.match_engine.specs.Laws.{Posted, IsOwn, after, AreNew, sends, asks}
use Rattle.match_engine.proofs.Accounts.{some_message, some_receive, match}
use Rattle.match_engine.proofs.Orders.{none_in_order, Sides, swapped, elsewhere, waits_here, takes_here}

abbrev pub message_of : Message → ReqNo
message_of message = message.request

abbrev pub wish_of : Receive → ReqNo
wish_of wish = wish.request

abbrev pub sent_in : Match → Message
sent_in found = found.message

abbrev pub asked_in : Match → Receive
asked_in found = found.receive

abbrev pub fits : Message → Receive → Bool
fits message wish = is_match wish message

abbrev pub suits : Receive → Message → Bool
suits wish message = is_match wish message

-- what a posting does, in parts
abbrev pub target : Posting → ℕ
target (Sent to message) = to
target (Asked at wish) = at
target Nowhere = 0

abbrev is_sent : Posting → Bool
is_sent (Sent to message) = true
is_sent (Asked at wish) = false
is_sent Nowhere = false

abbrev is_asked : Posting → Bool
is_asked (Sent to message) = false
is_asked (Asked at wish) = true
is_asked Nowhere = false

abbrev pub the_message : Message → Posting → Message
the_message other (Sent to message) = message
the_message other (Asked at wish) = other
the_message other Nowhere = other

abbrev pub the_receive : Receive → Posting → Receive
the_receive other (Sent to message) = other
the_receive other (Asked at wish) = wish
the_receive other Nowhere = other

abbrev pub posted_as : ReqNo → Posting → Posted
posted_as req posting = record { request = req; posting = posting }

-- a match comes from a place
pub record Found {X Y : Type 0} (f : X → Y) (xs : List X) (o : Option ℕ) (made : Y) : Type 0 where
  pub at : ℕ
  pub item : X
  pub place_is : o ≡ Some at
  pub there : slice_get xs at ≡ Some item
  pub is : f item ≡ made

found_item : {X Y : Type 0} (f : X → Y) (xs : List X) (at : ℕ) (made : Y) (o : Option X) → slice_get xs at ≡ o → option_map f o ≡ Some made
    → Found f xs (Some at) made
found_item f xs at made None there is = absurd (none-some made is)
found_item f xs at made (Some item) there is = record { at = at; item = item; place_is = refl; there = there; is = same_Some (f item) made is }

pub found : {X Y : Type 0} (f : X → Y) (xs : List X) (o : Option ℕ) (made : Y) → option_map f (element xs o) ≡ Some made → Found f xs o made
found f xs None made is = absurd (none-some made is)
found f xs (Some at) made is = found_item f xs at made (slice_get xs at) refl is

pub contains_at : {X : Type 0} (xs : List X) (i : ℕ) (x : X) → slice_get xs i ≡ Some x → Contains xs x
contains_at xs i x there = (i, slice_get_within xs i x there, get_or_from_slice_get xs i x x there)

-- more matches, said of messages and of receives
with_matches : (fit : Message → Receive → Bool) (fx : Message → ReqNo) (fy : Receive → ReqNo) (posted : List ReqNo) (matches more : List Match)
    (xs : List Message) (ys : List Receive) (Came : Message → Type 0) (Went : Receive → Type 0)
    → Sides fit fx fy posted (map sent_in matches ++ map sent_in more) (map asked_in matches ++ map asked_in more) xs ys Came Went
    → Sides fit fx fy posted (map sent_in (matches ++ more)) (map asked_in (matches ++ more)) xs ys Came Went
with_matches fit fx fy posted matches more xs ys Came Went sides =
    subst (λ (done : List Message). Sides fit fx fy posted done (map asked_in (matches ++ more)) xs ys Came Went) (sym (map-append sent_in matches more))
    (subst (λ (dealt : List Receive). Sides fit fx fy posted (map sent_in matches ++ map sent_in more) dealt xs ys Came Went)
    (sym (map-append asked_in matches more)) sides)

-- a message at a mailbox
sent_here : (posted : List ReqNo) (req : ReqNo) (message : Message) (matches : List Match) (mailbox : Mailbox) (Came After : Message
    → Type 0) (Went Later : Receive → Type 0)
    → message.request ≡ req → list_any (same_request req) posted ≡ false → (o : Option ℕ) → place_of_receive mailbox message ≡ o
    → Sides fits message_of wish_of posted (map sent_in matches) (map asked_in matches) mailbox.messages mailbox.receives Came Went
    → ((m : Message) → After m → Came m ⊎ (message ≡ m)) → ((w : Receive) → Later w → Went w)
    → Sides fits message_of wish_of (posted ++ req ∷ [])
    (map sent_in (matches ++ option_to_list (option_map (λ (found : Receive). match message found) (element mailbox.receives o))))
    (map asked_in (matches ++ option_to_list (option_map (λ (found : Receive). match message found) (element mailbox.receives o))))
    (sent_to mailbox message o).messages (sent_to mailbox message o).receives After Later
sent_here posted req message matches mailbox Came After Went Later own fresh None none sides came went =
    with_matches fits message_of wish_of (posted ++ req ∷ []) matches [] (mailbox.messages ++ message ∷ []) mailbox.receives After Later
    (waits_here fits message_of wish_of posted req message (map sent_in matches) (map asked_in matches) mailbox.messages mailbox.receives Came After Went
    Later own fresh none sides came went)
sent_here posted req message matches mailbox Came After Went Later own fresh (Some i) is sides came went =
    let within : i < length mailbox.receives = (position-Some (λ (wish : Receive). is_match wish message) mailbox.receives i (some_receive req) is).0 in
    let wish : Receive = get_or mailbox.receives i (some_receive req) in
    let there : slice_get mailbox.receives i ≡ Some wish = slice_get-get_or mailbox.receives i (some_receive req) within in
    subst (λ (made : Option Receive). Sides fits message_of wish_of (posted ++ req ∷ [])
    (map sent_in (matches ++ option_to_list (option_map (λ (found : Receive). match message found) made)))
    (map asked_in (matches ++ option_to_list (option_map (λ (found : Receive). match message found) made)))
    mailbox.messages (remove mailbox.receives i) After Later) (sym there)
    (with_matches fits message_of wish_of (posted ++ req ∷ []) matches (match message wish ∷ []) mailbox.messages (remove mailbox.receives i) After Later
    (takes_here fits message_of wish_of posted req message wish i (map sent_in matches) (map asked_in matches) mailbox.messages mailbox.receives Came After
    Went Later
    within (get_or_from_slice_get mailbox.receives i wish wish there) sides came went))

-- a receive at a mailbox
asked_here : (posted : List ReqNo) (req : ReqNo) (wish : Receive) (matches : List Match) (mailbox : Mailbox) (Came After : Message
    → Type 0) (Went Later : Receive → Type 0)
    → wish.request ≡ req → list_any (same_request req) posted ≡ false → (o : Option ℕ) → place_of_message mailbox wish ≡ o
    → Sides fits message_of wish_of posted (map sent_in matches) (map asked_in matches) mailbox.messages mailbox.receives Came Went
    → ((m : Message) → After m → Came m) → ((w : Receive) → Later w → Went w ⊎ (wish ≡ w))
    → Sides fits message_of wish_of (posted ++ req ∷ [])
    (map sent_in (matches ++ option_to_list (option_map (λ (found : Message). match found wish) (element mailbox.messages o))))
    (map asked_in (matches ++ option_to_list (option_map (λ (found : Message). match found wish) (element mailbox.messages o))))
    (asked_for mailbox wish o).messages (asked_for mailbox wish o).receives After Later
asked_here posted req wish matches mailbox Came After Went Later own fresh None none sides came went =
    with_matches fits message_of wish_of (posted ++ req ∷ []) matches [] mailbox.messages (mailbox.receives ++ wish ∷ []) After Later
    (swapped (waits_here suits wish_of message_of posted req wish (map asked_in matches) (map sent_in matches) mailbox.receives mailbox.messages Went Later
    Came After own fresh none (swapped sides) went came))
asked_here posted req wish matches mailbox Came After Went Later own fresh (Some i) is sides came went =
    let within : i < length mailbox.messages = (position-Some (λ (message : Message). is_match wish message) mailbox.messages i (some_message req) is).0 in
    let message : Message = get_or mailbox.messages i (some_message req) in
    let there : slice_get mailbox.messages i ≡ Some message = slice_get-get_or mailbox.messages i (some_message req) within in
    subst (λ (made : Option Message). Sides fits message_of wish_of (posted ++ req ∷ [])
    (map sent_in (matches ++ option_to_list (option_map (λ (found : Message). match found wish) made)))
    (map asked_in (matches ++ option_to_list (option_map (λ (found : Message). match found wish) made)))
    (remove mailbox.messages i) mailbox.receives After Later) (sym there)
    (with_matches fits message_of wish_of (posted ++ req ∷ []) matches (match message wish ∷ []) (remove mailbox.messages i) mailbox.receives After Later
    (swapped (takes_here suits wish_of message_of posted req wish message i (map asked_in matches) (map sent_in matches) mailbox.receives mailbox.messages
    Went Later Came After
    within (get_or_from_slice_get mailbox.messages i message message there) (swapped sides) went came)))

-- what holds of the mailbox of a rank after these postings
abbrev pub AtRank : List Posted → Exchange → ℕ → Type 0
AtRank calls exchange rank =
    Sides fits message_of wish_of exchange.posted (map sent_in exchange.matches) (map asked_in exchange.matches)
    (mailbox_of exchange rank).messages (mailbox_of exchange rank).receives (λ m. Contains calls (sends rank m)) (λ w. Contains calls (asks rank w))

abbrev Standing : List Posted → Exchange → Type 0
Standing calls exchange = (rank : ℕ) → rank < length exchange.mailboxes → AtRank calls exchange rank

-- a message or a receive of another rank or kind isn't the last posting
not_last_message : (calls : List Posted) (next : Posted) (rank : ℕ) (m : Message) → (is_sent next.posting ≡ true → target next.posting ≡ rank → ⊥)
    → Contains (calls ++ next ∷ []) (sends rank m) → Contains calls (sends rank m)
not_last_message calls next rank m other has =
    elim (Contains-push_cases calls next (sends rank m) has) [
      | inl was ↦ was
      | inr same ↦ absurd (other (ap (λ (p : Posted). is_sent p.posting) same) (ap (λ (p : Posted). target p.posting) same))
    ]

not_last_receive : (calls : List Posted) (next : Posted) (rank : ℕ) (w : Receive) → (is_asked next.posting ≡ true → target next.posting ≡ rank → ⊥)
    → Contains (calls ++ next ∷ []) (asks rank w) → Contains calls (asks rank w)
not_last_receive calls next rank w other has =
    elim (Contains-push_cases calls next (asks rank w) has) [
      | inl was ↦ was
      | inr same ↦ absurd (other (ap (λ (p : Posted). is_asked p.posting) same) (ap (λ (p : Posted). target p.posting) same))
    ]

-- the mailbox of a rank, where another's changes, and where its own does
pub set_elsewhere : (mailboxes : List Mailbox) (to rank : ℕ) (new : Mailbox) → (to ≡ rank → ⊥)
    → get_or (set mailboxes to new) rank no_mail ≡ get_or mailboxes rank no_mail
set_elsewhere mailboxes to rank new other = get_or-set_other mailboxes to rank new no_mail (λ e. other (sym e))

-- where a mailbox stays, so does what holds of it
stays : (calls : List Posted) (exchange : Exchange) (req : ReqNo) (posting : Posting) (rank : ℕ)
    → (is_sent posting ≡ true → target posting ≡ rank → ⊥) → (is_asked posting ≡ true → target posting ≡ rank → ⊥)
    → mailbox_of (exchange_after exchange req posting) rank ≡ mailbox_of exchange rank → AtRank calls exchange rank
    → AtRank (calls ++ posted_as req posting ∷ []) (exchange_after exchange req posting) rank
stays calls exchange req posting rank no_send no_ask same sides =
    let more = option_to_list (match_made exchange posting) in
    subst (λ (box : Mailbox). Sides fits message_of wish_of (exchange.posted ++ req ∷ []) (map sent_in (exchange.matches ++ more))
    (map asked_in (exchange.matches ++ more))
    box.messages box.receives (λ m. Contains (calls ++ posted_as req posting ∷ []) (sends rank m))
    (λ w. Contains (calls ++ posted_as req posting ∷ []) (asks rank w))) (sym same)
    (with_matches fits message_of wish_of (exchange.posted ++ req ∷ []) exchange.matches more (mailbox_of exchange rank).messages
    (mailbox_of exchange rank).receives
    (λ m. Contains (calls ++ posted_as req posting ∷ []) (sends rank m)) (λ w. Contains (calls ++ posted_as req posting ∷ []) (asks rank w))
    (elsewhere fits message_of wish_of exchange.posted req (map sent_in exchange.matches) (map sent_in more) (map asked_in exchange.matches) (map asked_in more)
    (mailbox_of exchange rank).messages (mailbox_of exchange rank).receives
    (λ m. Contains calls (sends rank m)) (λ m. Contains (calls ++ posted_as req posting ∷ []) (sends rank m))
    (λ w. Contains calls (asks rank w)) (λ w. Contains (calls ++ posted_as req posting ∷ []) (asks rank w))
    sides (λ m. not_last_message calls (posted_as req posting) rank m no_send) (λ w. not_last_receive calls (posted_as req posting) rank w no_ask)))

last_message : (calls : List Posted) (req : ReqNo) (to rank : ℕ) (message m : Message)
    → Contains (calls ++ posted_as req (Sent to message) ∷ []) (sends rank m) → Contains calls (sends rank m) ⊎ (message ≡ m)
last_message calls req to rank message m has =
    elim (Contains-push_cases calls (posted_as req (Sent to message)) (sends rank m) has) [
      | inl was ↦ inl was
      | inr same ↦ inr (ap (λ (p : Posted). the_message message p.posting) same)
    ]

last_receive : (calls : List Posted) (req : ReqNo) (at rank : ℕ) (wish w : Receive)
    → Contains (calls ++ posted_as req (Asked at wish) ∷ []) (asks rank w) → Contains calls (asks rank w) ⊎ (wish ≡ w)
last_receive calls req at rank wish w has =
    elim (Contains-push_cases calls (posted_as req (Asked at wish)) (asks rank w) has) [
      | inl was ↦ inl was
      | inr same ↦ inr (ap (λ (p : Posted). the_receive wish p.posting) same)
    ]

-- one posting more
sent_stands : (calls : List Posted) (exchange : Exchange) (req : ReqNo) (to rank : ℕ) (message : Message) → message.request ≡ req
    → is_posted exchange req ≡ false
    → rank < length exchange.mailboxes → AtRank calls exchange rank → (to ≡ rank) ⊎ (to ≡ rank → ⊥)
    → AtRank (calls ++ posted_as req (Sent to message) ∷ []) (exchange_after exchange req (Sent to message)) rank
sent_stands calls exchange req to rank message own fresh below sides (inl same) =
    let next = posted_as req (Sent to message) in
    let box = mailbox_of exchange to in
    let more = option_to_list (match_made exchange (Sent to message)) in
    let here : mailbox_of (exchange_after exchange req (Sent to message)) rank ≡ send box message =
    ap (λ (n : ℕ). get_or (set exchange.mailboxes to (send box message)) n no_mail) (sym same)
    ∙ get_or-set_same exchange.mailboxes to (send box message) no_mail (omega (arith, same, below)) in
    subst (λ (b : Mailbox). Sides fits message_of wish_of (exchange.posted ++ req ∷ []) (map sent_in (exchange.matches ++ more))
    (map asked_in (exchange.matches ++ more))
    b.messages b.receives (λ m. Contains (calls ++ next ∷ []) (sends rank m)) (λ w. Contains (calls ++ next ∷ []) (asks rank w))) (sym here)
    (sent_here exchange.posted req message exchange.matches box
    (λ m. Contains calls (sends rank m)) (λ m. Contains (calls ++ next ∷ []) (sends rank m))
    (λ w. Contains calls (asks rank w)) (λ w. Contains (calls ++ next ∷ []) (asks rank w))
    own fresh (place_of_receive box message) refl
    (subst (λ (n : ℕ). Sides fits message_of wish_of exchange.posted (map sent_in exchange.matches) (map asked_in exchange.matches)
    (mailbox_of exchange n).messages (mailbox_of exchange n).receives (λ m. Contains calls (sends rank m)) (λ w. Contains calls (asks rank w))) (sym same)
    sides)
    (λ m. last_message calls req to rank message m)
    (λ w. not_last_receive calls next rank w (λ asked. absurd (false≢true asked))))
sent_stands calls exchange req to rank message own fresh below sides (inr other) =
    stays calls exchange req (Sent to message) rank (λ yes at. other at) (λ asked. absurd (false≢true asked))
    (set_elsewhere exchange.mailboxes to rank (send (mailbox_of exchange to) message) other) sides

asked_stands : (calls : List Posted) (exchange : Exchange) (req : ReqNo) (at rank : ℕ) (wish : Receive) → wish.request ≡ req → is_posted exchange req ≡ false
    → rank < length exchange.mailboxes → AtRank calls exchange rank → (at ≡ rank) ⊎ (at ≡ rank → ⊥)
    → AtRank (calls ++ posted_as req (Asked at wish) ∷ []) (exchange_after exchange req (Asked at wish)) rank
asked_stands calls exchange req at rank wish own fresh below sides (inl same) =
    let next = posted_as req (Asked at wish) in
    let box = mailbox_of exchange at in
    let more = option_to_list (match_made exchange (Asked at wish)) in
    let here : mailbox_of (exchange_after exchange req (Asked at wish)) rank ≡ receive box wish =
    ap (λ (n : ℕ). get_or (set exchange.mailboxes at (receive box wish)) n no_mail) (sym same)
    ∙ get_or-set_same exchange.mailboxes at (receive box wish) no_mail (omega (arith, same, below)) in
    subst (λ (b : Mailbox). Sides fits message_of wish_of (exchange.posted ++ req ∷ []) (map sent_in (exchange.matches ++ more))
    (map asked_in (exchange.matches ++ more))
    b.messages b.receives (λ m. Contains (calls ++ next ∷ []) (sends rank m)) (λ w. Contains (calls ++ next ∷ []) (asks rank w))) (sym here)
    (asked_here exchange.posted req wish exchange.matches box
    (λ m. Contains calls (sends rank m)) (λ m. Contains (calls ++ next ∷ []) (sends rank m))
    (λ w. Contains calls (asks rank w)) (λ w. Contains (calls ++ next ∷ []) (asks rank w))
    own fresh (place_of_message box wish) refl
    (subst (λ (n : ℕ). Sides fits message_of wish_of exchange.posted (map sent_in exchange.matches) (map asked_in exchange.matches)
    (mailbox_of exchange n).messages (mailbox_of exchange n).receives (λ m. Contains calls (sends rank m)) (λ w. Contains calls (asks rank w))) (sym same)
    sides)
    (λ m. not_last_message calls next rank m (λ sent. absurd (false≢true sent)))
    (λ w. last_receive calls req at rank wish w))
asked_stands calls exchange req at rank wish own fresh below sides (inr other) =
    stays calls exchange req (Asked at wish) rank (λ sent. absurd (false≢true sent)) (λ yes here. other here)
    (set_elsewhere exchange.mailboxes at rank (receive (mailbox_of exchange at) wish) other) sides

stands_after : (calls : List Posted) (exchange : Exchange) (req : ReqNo) (posting : Posting) → IsOwn req posting → is_posted exchange req ≡ false
    → Standing calls exchange → Standing (calls ++ posted_as req posting ∷ []) (exchange_after exchange req posting)
stands_after calls exchange req (Sent to message) own fresh standing = λ rank below.
    let within : rank < length exchange.mailboxes = omega (arith, below, length-set exchange.mailboxes to (send (mailbox_of exchange to) message)) in
    sent_stands calls exchange req to rank message own fresh within (standing rank within) (cases_eq to rank)
stands_after calls exchange req (Asked at wish) own fresh standing = λ rank below.
    let within : rank < length exchange.mailboxes = omega (arith, below, length-set exchange.mailboxes at (receive (mailbox_of exchange at) wish)) in
    asked_stands calls exchange req at rank wish own fresh within (standing rank within) (cases_eq at rank)
stands_after calls exchange req Nowhere own fresh standing = λ rank below.
    stays calls exchange req Nowhere rank (λ sent. absurd (false≢true sent)) (λ asked. absurd (false≢true asked)) refl (standing rank below)

-- a whole run
pub stands_run : (calls : List Posted) (exchange : Exchange) (more : List Posted) → AreNew exchange more → Standing calls exchange
    → Standing (calls ++ more) (after exchange more)
stands_run calls exchange [] new standing = subst (λ (all : List Posted). Standing all exchange) (sym (append-nil calls)) standing
stands_run calls exchange (call ∷ more) new standing =
    subst (λ (all : List Posted). Standing all (after (exchange_after exchange call.request call.posting) more)) (append_assoc calls (call ∷ []) more)
    (stands_run (calls ++ call ∷ []) (exchange_after exchange call.request call.posting) more new.2
    (stands_after calls exchange call.request call.posting new.0 new.1 standing))

pub no_mail_at : (ranks rank : ℕ) → mailbox_of (silent ranks) rank ≡ no_mail
no_mail_at ranks rank =
    elim (cases_lt rank ranks) [
      | inl below ↦ get_or-replicate ranks rank no_mail no_mail below
      | inr past ↦ get_or-eq_default (replicate ranks no_mail) no_mail (omega (arith, past, length-replicate ranks no_mail))
    ]

pub nothing_in : {X : Type 0} (x : X) → Contains [] x → ⊥
nothing_in x has = absurd (omega (arith, has.1))

pub stands_at_start : (ranks : ℕ) → Standing [] (silent ranks)
stands_at_start ranks = λ rank below.
    subst (λ (b : Mailbox). Sides fits message_of wish_of [] [] [] b.messages b.receives (λ m. Contains [] (sends rank m)) (λ w. Contains [] (asks rank w)))
    (sym (no_mail_at ranks rank))
    (record {
      apart = λ m w has. absurd (nothing_in m has);
      one_order = none_in_order [] message_of;
      other_order = none_in_order [] wish_of;
      one_known = λ m has. absurd (nothing_in (sends rank m) has);
      other_known = λ w has. absurd (nothing_in (asks rank w) has);
    })

-- the number of mailboxes stays
count_kept : (exchange : Exchange) (posting : Posting) → length (mailboxes_after exchange posting) ≡ length exchange.mailboxes
count_kept exchange (Sent to message) = length-set exchange.mailboxes to (send (mailbox_of exchange to) message)
count_kept exchange (Asked at wish) = length-set exchange.mailboxes at (receive (mailbox_of exchange at) wish)
count_kept exchange Nowhere = refl

pub count_after : (exchange : Exchange) (calls : List Posted) → length (after exchange calls).mailboxes ≡ length exchange.mailboxes
count_after exchange [] = refl
count_after exchange (call ∷ calls) = count_after (exchange_after exchange call.request call.posting) calls ∙ count_kept exchange call.posting
