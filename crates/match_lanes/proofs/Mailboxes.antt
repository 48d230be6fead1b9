-- What the queues of a rank make of a mailbox.
use Rattle.std.proofs.Common.{◌≡◌, ℕ, List, [], ◌∷◌, ◌++◌, set, position, slice_get, Option, Some, None, option_map, sym, ap, ◌∙◌}
use Rattle.rt_base.specs.Matching.{Message, Receive, is_match}
use Rattle.rt_base.specs.Exchange.{Mailbox, Match, send, receive, sent_to, asked_for, element, place_of_receive, place_of_message}
use Rattle.match_lanes.specs.Shelves.{box}
use Rattle.match_lanes.specs.Waiting.{waiting, passes}
use Rattle.match_lanes.proofs.Taken.{IsTaken, taken, none_waiting, waiting_more}

abbrev mailbox : List Message → List Receive → Mailbox
mailbox messages receives = record { messages = messages; receives = receives }

abbrev pub match : Message → Receive → Match
match message wish = record { message = message; receive = wish }

same_item : {X : Type 0} (a b : X) → ◌≡◌ {A = Option (Option X)} (Some (Some a)) (Some (Some b)) → a ≡ b
same_item a b e = cc

-- a receive was found for a message
pub found_wish : (wishes : List (Option Receive)) (m : Message) (found : Option ℕ) (i : ℕ) → found ≡ position (passes (λ wish. is_match wish m)) wishes
    → found ≡ Some i → IsTaken (λ wish. is_match wish m) wishes i
found_wish wishes m found i first is = taken (λ wish. is_match wish m) wishes i (sym first ∙ is)

pub sent_found : (mails : List (Option Message)) (wishes wishes' : List (Option Receive)) (m : Message) (i : ℕ)
    → IsTaken (λ wish. is_match wish m) wishes i → wishes' ≡ set wishes i None → box mails wishes' ≡ send (box mails wishes) m
sent_found mails wishes wishes' m i t is =
    ap (λ (w : List (Option Receive)). box mails w) is
    ∙ ap (λ (r : List Receive). mailbox (waiting mails) r) t.rest
    ∙ ap (sent_to (box mails wishes) m) (sym t.found)

pub sent_match : (mails : List (Option Message)) (wishes : List (Option Receive)) (m : Message) (i : ℕ) (wish : Receive)
    → IsTaken (λ wish. is_match wish m) wishes i → slice_get wishes i ≡ Some (Some wish)
    → ◌≡◌ {A = Option Match} (Some (match m wish))
    (option_map (λ found. match m found) (element (box mails wishes).receives (place_of_receive (box mails wishes) m)))
sent_match mails wishes m i wish t at =
    ap (λ (w : Receive). Some (match m w)) (same_item wish t.item (sym at ∙ t.at))
    ∙ ap (λ (o : Option Receive). option_map (λ found. match m found) o) (sym t.is)
    ∙ ap (λ (o : Option ℕ). option_map (λ found. match m found) (element (waiting wishes) o)) (sym t.found)

-- a message stays unmatched
pub sent_kept : (mails mails' : List (Option Message)) (wishes : List (Option Receive)) (m : Message) (found : Option ℕ)
    → found ≡ position (passes (λ wish. is_match wish m)) wishes → found ≡ None → mails' ≡ mails ++ Some m ∷ []
    → box mails' wishes ≡ send (box mails wishes) m
sent_kept mails mails' wishes m found first is more =
    ap (λ (l : List (Option Message)). box l wishes) more
    ∙ ap (λ (l : List Message). mailbox l (waiting wishes)) (waiting_more mails m)
    ∙ ap (sent_to (box mails wishes) m) (sym (none_waiting (λ wish. is_match wish m) wishes (sym first ∙ is)))

pub sent_alone : (mails : List (Option Message)) (wishes : List (Option Receive)) (m : Message) (found : Option ℕ)
    → found ≡ position (passes (λ wish. is_match wish m)) wishes → found ≡ None
    → ◌≡◌ {A = Option Match} None
    (option_map (λ found. match m found) (element (box mails wishes).receives (place_of_receive (box mails wishes) m)))
sent_alone mails wishes m found first is =
    ap (λ (o : Option ℕ). option_map (λ found. match m found) (element (waiting wishes) o))
    (sym (none_waiting (λ wish. is_match wish m) wishes (sym first ∙ is)))

-- a message was found for a receive
pub found_mail : (mails : List (Option Message)) (wish : Receive) (found : Option ℕ) (i : ℕ) → found ≡ position (passes (λ m. is_match wish m)) mails
    → found ≡ Some i → IsTaken (λ m. is_match wish m) mails i
found_mail mails wish found i first is = taken (λ m. is_match wish m) mails i (sym first ∙ is)

pub asked_found : (mails mails' : List (Option Message)) (wishes : List (Option Receive)) (wish : Receive) (i : ℕ)
    → IsTaken (λ m. is_match wish m) mails i → mails' ≡ set mails i None → box mails' wishes ≡ receive (box mails wishes) wish
asked_found mails mails' wishes wish i t is =
    ap (λ (l : List (Option Message)). box l wishes) is
    ∙ ap (λ (l : List Message). mailbox l (waiting wishes)) t.rest
    ∙ ap (asked_for (box mails wishes) wish) (sym t.found)

pub asked_match : (mails : List (Option Message)) (wishes : List (Option Receive)) (wish : Receive) (i : ℕ) (m : Message)
    → IsTaken (λ m. is_match wish m) mails i → slice_get mails i ≡ Some (Some m)
    → ◌≡◌ {A = Option Match} (Some (match m wish))
    (option_map (λ found. match found wish) (element (box mails wishes).messages (place_of_message (box mails wishes) wish)))
asked_match mails wishes wish i m t at =
    ap (λ (x : Message). Some (match x wish)) (same_item m t.item (sym at ∙ t.at))
    ∙ ap (λ (o : Option Message). option_map (λ found. match found wish) o) (sym t.is)
    ∙ ap (λ (o : Option ℕ). option_map (λ found. match found wish) (element (waiting mails) o)) (sym t.found)

-- a receive stays unmatched
pub asked_kept : (mails : List (Option Message)) (wishes wishes' : List (Option Receive)) (wish : Receive) (found : Option ℕ)
    → found ≡ position (passes (λ m. is_match wish m)) mails → found ≡ None → wishes' ≡ wishes ++ Some wish ∷ []
    → box mails wishes' ≡ receive (box mails wishes) wish
asked_kept mails wishes wishes' wish found first is more =
    ap (λ (l : List (Option Receive)). box mails l) more
    ∙ ap (λ (l : List Receive). mailbox (waiting mails) l) (waiting_more wishes wish)
    ∙ ap (asked_for (box mails wishes) wish) (sym (none_waiting (λ m. is_match wish m) mails (sym first ∙ is)))

pub asked_alone : (mails : List (Option Message)) (wishes : List (Option Receive)) (wish : Receive) (found : Option ℕ)
    → found ≡ position (passes (λ m. is_match wish m)) mails → found ≡ None
    → ◌≡◌ {A = Option Match} None
    (option_map (λ found. match found wish) (element (box mails wishes).messages (place_of_message (box mails wishes) wish)))
asked_alone mails wishes wish found first is =
    ap (λ (o : Option ℕ). option_map (λ found. match found wish) (element (waiting mails) o))
    (sym (none_waiting (λ m. is_match wish m) mails (sym first ∙ is)))
