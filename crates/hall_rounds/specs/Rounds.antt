-- What holders and tickets of one meeting with three places are before and after a round.
use Rattle.std.specs.Prelude.{◌≡◌, []}
use Rattle.atomic_table.specs.Seated.{TableId}
use Rattle.meet_hall.specs.declared.party.Met.{Met}
use Rattle.meet_hall.specs.Answers.{IfLast}
use Rattle.meet_hall.specs.Holders.{HolderIs, TicketIs}
use Rattle.hall_rounds.specs.declared.party.Number.{Number}

-- a holder that begins a round, perhaps with notes left
abbrev pub Begins : TableId → HolderIs → Type 0
Begins hall h = (h.hall ≡ hall) × (h.issued ≡ []) × (h.places ≡ 3)

-- a holder that begins a round with no note left
abbrev pub AtRest : TableId → HolderIs → Type 0
AtRest hall h = Begins hall h × (h.left ≡ [])

-- a holder that may come
abbrev pub MayPark : TableId → HolderIs → Type 0
MayPark hall h = (h.hall ≡ hall) × (h.left ≡ []) × (h.places ≡ 3)

-- a ticket that may come
abbrev pub MayArrive : TableId → TicketIs → Type 0
MayArrive hall t = (t.hall ≡ hall) × (t.places ≡ 3)

-- whoever is last begins the next round
abbrev pub EndsAt : TableId → Met Number → Type 0
EndsAt hall met = IfLast met (λ next given. Begins hall next)
