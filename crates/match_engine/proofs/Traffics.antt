-- What a posting makes of the queues, the postings and the matches that are kept.
use Rattle.std.proofs.Common.{◌≡◌, ℕ, ◌+◌, ◌≤◌, ◌<◌, List, [], ◌∷◌, ◌++◌, length, map, get_or, set, Option, Some, None, option_map, option_to_list, sym, refl}
use Rattle.std.proofs.Common.{ap, ◌∙◌, subst, arith, inl, inr, replicate, take, zero-add, ◌==◌, if◌then◌else◌}
use Rattle.std.proofs.lemmas.List.{map-set, get_or-map, get_or-set_same, get_or-set_other, length-map, append-nil, map-append, replicate_more, take_more}
use Rattle.std.proofs.Math.Seq.{map-set_same}
use Rattle.std.proofs.lemmas.List.FromFn.{map-range_with_len_more}
use Rattle.std.specs.List.{range_with_len}
use Rattle.std.proofs.lemmas.Bool.{cases_eq, cond-true, eq-eqb}
use Rattle.rt_base.specs.declared.data.ReqNo.{ReqNo}
use Rattle.rt_base.specs.Listing.{Listing}
use Rattle.rt_base.specs.Matching.{Message, Receive}
use Rattle.rt_base.specs.Exchange.{Mailbox, Match, Exchange, Posting, Sent, Asked, no_mail, send, receive, element, place_of_receive, place_of_message}
use Rattle.rt_base.specs.Exchange.{exchange_after}
use Rattle.match_lanes.specs.declared.selector.Selector.{Selector}
use Rattle.match_lanes.specs.Shelves.{Shelf}
use Rattle.match_engine.specs.declared.slots.Side.{Side}
use Rattle.match_engine.specs.declared.slots.Side.TheVariants.{Messages, Receives}
use Rattle.match_engine.specs.Queues.{Traffic, exchange_of, keys_of, room_in, room_at, taken_at, HasSpent, HasRoomFor}

abbrev match : Message → Receive → Match
match message wish = record { message = message; receive = wish }

abbrev exchange : List ReqNo → List Mailbox → List Match → Exchange
exchange posted mailboxes matches = record { posted = posted; mailboxes = mailboxes; matches = matches }

-- an exchange is its three lists
pub same_lists : {posted posted' : List ReqNo} {mailboxes mailboxes' : List Mailbox} {matches matches' : List Match}
    → posted ≡ posted' → mailboxes ≡ mailboxes' → matches ≡ matches'
    → ◌≡◌ {A = Exchange} (record { posted = posted; mailboxes = mailboxes; matches = matches }) (record {
      posted = posted';
      mailboxes = mailboxes';
      matches =
          matches';
    })
same_lists {posted} {posted'} {mailboxes} {mailboxes'} {matches} {matches'} p m e =
    ap (λ (x : List ReqNo). exchange x mailboxes matches) p ∙ ap (λ (x : List Mailbox). exchange posted' x matches) m
    ∙ ap (λ (x : List Match). exchange posted' mailboxes' x) e

-- the mailbox of a rank is that of its queues
pub mailbox_here : (shelves : List Shelf) (rank : ℕ) (here : Shelf) → rank < length shelves → here ≡ get_or shelves rank here
    → get_or (map (λ (shelf : Shelf). shelf.mailbox) shelves) rank no_mail ≡ here.mailbox
mailbox_here shelves rank here below is =
    get_or-map (λ (shelf : Shelf). shelf.mailbox) shelves rank here no_mail below ∙ ap (λ (shelf : Shelf). shelf.mailbox) (sym is)

-- the queues of one rank change
pub mailboxes_set : (shelves : List Shelf) (rank : ℕ) (there : Shelf) (mailbox : Mailbox) → there.mailbox ≡ mailbox
    → map (λ (shelf : Shelf). shelf.mailbox) (set shelves rank there) ≡ set (map (λ (shelf : Shelf). shelf.mailbox) shelves) rank mailbox
mailboxes_set shelves rank there mailbox is =
    map-set (λ (shelf : Shelf). shelf.mailbox) shelves rank there
    ∙ ap (λ (box : Mailbox). set (map (λ (shelf : Shelf). shelf.mailbox) shelves) rank box) is

-- a message came to the queues of a rank
pub exchange_sent : (inside old : Traffic) (to : ℕ) (given message : Message) (here there : Shelf) (posted : List ReqNo) (matches : List Match)
    → inside ≡ old → given ≡ message → to < length old.shelves → here ≡ get_or inside.shelves to here
    → there.mailbox ≡ send here.mailbox message
    → posted ≡ inside.posted.items ++ given.request ∷ []
    → matches ≡ inside.matches.items ++ option_to_list
    (option_map (λ (found : Receive). match message found) (element here.mailbox.receives (place_of_receive here.mailbox message)))
    → exchange posted (map (λ (shelf : Shelf). shelf.mailbox) (set inside.shelves to there)) matches
    ≡ exchange_after (exchange_of old) message.request (Sent to message)
exchange_sent inside old to given message here there posted matches same given_is below here_is there_is posted_is matches_is =
    let within : to < length inside.shelves = subst (λ (t : Traffic). to < length t.shelves) (sym same) below in
    let found : get_or (map (λ (shelf : Shelf). shelf.mailbox) inside.shelves) to no_mail ≡ here.mailbox = mailbox_here inside.shelves to here within here_is in
    subst (λ (t : Traffic). exchange posted (map (λ (shelf : Shelf). shelf.mailbox) (set inside.shelves to there)) matches
    ≡ exchange_after (exchange_of t) message.request (Sent to message)) same
    (same_lists (posted_is ∙ ap (λ (m : Message). inside.posted.items ++ m.request ∷ []) given_is)
    (mailboxes_set inside.shelves to there (send here.mailbox message) there_is
    ∙ ap (λ (box : Mailbox). set (map (λ (shelf : Shelf). shelf.mailbox) inside.shelves) to (send box message)) (sym found))
    (matches_is ∙ ap (λ (box : Mailbox). inside.matches.items ++ option_to_list
    (option_map (λ (found : Receive). match message found) (element box.receives (place_of_receive box message)))) (sym found)))

-- a receive came to the queues of a rank
pub exchange_asked : (inside old : Traffic) (at : ℕ) (given wish : Receive) (here there : Shelf) (posted : List ReqNo) (matches : List Match)
    → inside ≡ old → given ≡ wish → at < length old.shelves → here ≡ get_or inside.shelves at here
    → there.mailbox ≡ receive here.mailbox wish
    → posted ≡ inside.posted.items ++ given.request ∷ []
    → matches ≡ inside.matches.items ++ option_to_list
    (option_map (λ (found : Message). match found wish) (element here.mailbox.messages (place_of_message here.mailbox wish)))
    → exchange posted (map (λ (shelf : Shelf). shelf.mailbox) (set inside.shelves at there)) matches
    ≡ exchange_after (exchange_of old) wish.request (Asked at wish)
exchange_asked inside old at given wish here there posted matches same given_is below here_is there_is posted_is matches_is =
    let within : at < length inside.shelves = subst (λ (t : Traffic). at < length t.shelves) (sym same) below in
    let found : get_or (map (λ (shelf : Shelf). shelf.mailbox) inside.shelves) at no_mail ≡ here.mailbox = mailbox_here inside.shelves at here within here_is in
    subst (λ (t : Traffic). exchange posted (map (λ (shelf : Shelf). shelf.mailbox) (set inside.shelves at there)) matches
    ≡ exchange_after (exchange_of t) wish.request (Asked at wish)) same
    (same_lists (posted_is ∙ ap (λ (w : Receive). inside.posted.items ++ w.request ∷ []) given_is)
    (mailboxes_set inside.shelves at there (receive here.mailbox wish) there_is
    ∙ ap (λ (box : Mailbox). set (map (λ (shelf : Shelf). shelf.mailbox) inside.shelves) at (receive box wish)) (sym found))
    (matches_is ∙ ap (λ (box : Mailbox). inside.matches.items ++ option_to_list
    (option_map (λ (found : Message). match found wish) (element box.messages (place_of_message box wish)))) (sym found)))

-- what is kept after a posting at a rank
abbrev pub changed : Traffic → ℕ → Shelf → Listing ReqNo → Listing Match → Traffic
changed traffic rank there posted matches = record { shelves = set traffic.shelves rank there; posted = posted; matches = matches }

-- the room of a rank after a posting at one
queues_spent : (rooms : List ℕ) (rank at here there : ℕ) (taken : ℕ → ℕ)
    → rank < length rooms → get_or rooms rank 0 ≡ here → here ≤ there + taken rank
    → get_or rooms at 0 ≤ get_or (set rooms rank there) at 0 + taken at
queues_spent rooms rank at here there taken within here_is room =
    elim (cases_eq at rank) [
      | inl same ↦
          subst (λ (n : ℕ). get_or rooms n 0 ≤ get_or (set rooms rank there) n 0 + taken n) (sym same)
          (omega (arith, here_is, room, get_or-set_same rooms rank there 0 within))
      | inr other ↦ omega (arith, get_or-set_other rooms rank at there 0 other)
    ]

-- the selectors that are known at a rank are those of its queues
pub keys_here : (inside old : Traffic) (rank : ℕ) (here : Shelf) → inside ≡ old → rank < length old.shelves → here ≡ get_or inside.shelves rank here
    → get_or (keys_of old) rank [] ≡ here.keys
keys_here inside old rank here same below here_is =
    let known : Shelf → List Selector = λ shelf. shelf.keys in
    get_or-map known old.shelves rank here [] below ∙ ap (λ (t : Traffic). known (get_or t.shelves rank here)) (sym same) ∙ ap known (sym here_is)

-- a rank is itself
pub here_taken : (rank : ℕ) → ◌≡◌ {A = ℕ} (if rank == rank then 1 else 0) 1
here_taken rank = cond-true (rank == rank) 1 0 (eq-eqb rank rank refl)

-- a message takes one place at most, and a receive likewise
pub sent_spent : (to : ℕ) (message : Message) (here there : Shelf) → there.message_room + 1 ≡ here.message_room → there.receive_room ≡ here.receive_room
    → (side : Side) → room_in side here ≤ room_in side there + taken_at (Sent to message) side to
sent_spent to message here there room others Messages = omega (arith, room, here_taken to)
sent_spent to message here there room others Receives = omega (arith, others)

pub asked_spent : (at : ℕ) (wish : Receive) (here there : Shelf) → there.receive_room + 1 ≡ here.receive_room → there.message_room ≡ here.message_room
    → (side : Side) → room_in side here ≤ room_in side there + taken_at (Asked at wish) side at
asked_spent at wish here there room others Messages = omega (arith, others)
asked_spent at wish here there room others Receives = omega (arith, room, here_taken at)

-- a posting at a rank takes one place in its queues
pub spent_at : (inside old : Traffic) (rank : ℕ) (here there : Shelf) (posted : Listing ReqNo) (matches : Listing Match) (posting : Posting)
    → inside ≡ old → rank < length old.shelves → here ≡ get_or inside.shelves rank here
    → ((side : Side) → room_in side here ≤ room_in side there + taken_at posting side rank) → there.keys ≡ here.keys
    → posted.room + 1 ≡ inside.posted.room → inside.matches.room ≤ matches.room + 1
    → HasSpent old (changed inside rank there posted matches) posting
spent_at inside old rank here there posted matches posting same below here_is room keys posted_room match_room =
    let within : rank < length inside.shelves = subst (λ (t : Traffic). rank < length t.shelves) (sym same) below in
    subst (λ (t : Traffic). HasSpent t (changed inside rank there posted matches) posting) same
    (record {
      posted = omega (arith, posted_room);
      matches = match_room;
      queues = λ side at.
          subst (λ (rooms : List ℕ). room_at inside side at ≤ get_or rooms at 0 + taken_at posting side at)
          (sym (map-set (room_in side) inside.shelves rank there))
          (queues_spent (map (room_in side) inside.shelves) rank at (room_in side here) (room_in side there) (taken_at posting side)
          (subst (λ (n : ℕ). rank < n) (sym (length-map inside.shelves (room_in side))) within)
          (get_or-map (room_in side) inside.shelves rank here 0 within ∙ ap (room_in side) (sym here_is)) (room side));
      keys = map-set_same (λ (shelf : Shelf). shelf.keys) inside.shelves rank there here (keys ∙ ap (λ (shelf : Shelf). shelf.keys) here_is);
    })

-- a posting without a match adds none, and one with a match adds it
pub no_match : (matches : List Match) (made : Option Match) → None ≡ made → matches ≡ matches ++ option_to_list made
no_match matches made none = sym (ap (λ (o : Option Match). matches ++ option_to_list o) (sym none) ∙ append-nil matches)

pub one_match : (matches after : List Match) (found : Match) (made : Option Match) → Some found ≡ made → after ≡ matches ++ found ∷ []
    → after ≡ matches ++ option_to_list made
one_match matches after found made some is = is ∙ ap (λ (o : Option Match). matches ++ option_to_list o) some

-- a posting that has room has it where it goes
pub room_here : (inside old : Traffic) (side : Side) (rank : ℕ) (here : Shelf) (posting : Posting) → inside ≡ old → rank < length old.shelves
    → here ≡ get_or inside.shelves rank here
    → taken_at posting side rank ≡ 1 → HasRoomFor old posting → 0 < room_in side here
room_here inside old side rank here posting same below here_is taken room =
    let found : get_or (map (room_in side) old.shelves) rank 0 ≡ room_in side here =
    get_or-map (room_in side) old.shelves rank here 0 below ∙ ap (λ (t : Traffic). room_in side (get_or t.shelves rank here)) (sym same)
    ∙ ap (room_in side) (sym here_is) in
    omega (arith, found, taken, room.queues side rank)

-- the rooms of empty queues
pub rooms_are : (shelf : Shelf) (room : Side → ℕ) → shelf.message_room ≡ room Messages → shelf.receive_room ≡ room Receives
    → (side : Side) → room_in side shelf ≡ room side
rooms_are shelf room messages receives Messages = messages
rooms_are shelf room messages receives Receives = receives

-- one rank more, with empty queues
pub one_rank_more : (shelves new : List Shelf) (shelf : Shelf) (rank : ℕ) (room : Side → ℕ → ℕ) (keys : List (List Selector)) (here : List Selector)
    → new ≡ shelves ++ shelf ∷ [] → shelf.mailbox ≡ no_mail
    → ((side : Side) → room_in side shelf ≡ room side rank) → shelf.keys ≡ here → here ≡ get_or keys rank here → rank < length keys
    → (map (λ (shelf : Shelf). shelf.mailbox) shelves ≡ replicate rank no_mail)
    × ((side : Side) → map (room_in side) shelves ≡ map (room side) (range_with_len 0 rank))
    × (map (λ (shelf : Shelf). shelf.keys) shelves ≡ take rank keys)
    → (map (λ (shelf : Shelf). shelf.mailbox) new ≡ replicate (rank + 1) no_mail)
    × ((side : Side) → map (room_in side) new ≡ map (room side) (range_with_len 0 (rank + 1)))
    × (map (λ (shelf : Shelf). shelf.keys) new ≡ take (rank + 1) keys)
one_rank_more shelves new shelf rank room keys here is empty room_is keys_is here_is below so_far =
    let mailbox : Shelf → Mailbox = λ shelf. shelf.mailbox in
    let known : Shelf → List Selector = λ shelf. shelf.keys in (
      ap (map mailbox) is ∙ map-append mailbox shelves (shelf ∷ [])
          ∙ ap (λ (m : Mailbox). map mailbox shelves ++ m ∷ []) empty ∙ ap (λ (all : List Mailbox). all ++ no_mail ∷ []) so_far.0 ∙ replicate_more rank no_mail,
      λ side. ap (map (room_in side)) is ∙ map-append (room_in side) shelves (shelf ∷ [])
          ∙ ap (λ (n : ℕ). map (room_in side) shelves ++ n ∷ []) (room_is side) ∙ ap (λ (all : List ℕ). all ++ room side rank ∷ []) (so_far.1 side)
          ∙ sym (map-range_with_len_more (room side) 0 rank rank (zero-add rank)),
      ap (map known) is ∙ map-append known shelves (shelf ∷ [])
          ∙ ap (λ (k : List Selector). map known shelves ++ k ∷ []) (keys_is ∙ here_is)
          ∙ ap (λ (all : List (List Selector)). all ++ get_or keys rank here ∷ []) so_far.2
          ∙ sym (take_more keys rank here below),
    )
