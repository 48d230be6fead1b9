-- A meeting of a holder with the tickets that it handed out: whoever comes last goes on with what the holder parked
-- (this project's; OmpSs-2's pause and resume, and event counters).
use Rattle.std.specs.Prelude.{◌≡◌, ℕ, ◌+◌, Bool, if◌then◌else◌, ◌==◌, List, [], ◌∷◌, ◌++◌, Option, None, Some}

-- Kept is what a holder parks. The rounds are counted without bound
pub record Meeting (Kept : Type 0) : Type 0 where
  pub round : ℕ
  -- the places that were issued in this round, in order
  pub issued : List ℕ
  -- the places whose tickets have come, the last of them first
  pub came : List ℕ
  -- what the holder brought, where it has come
  pub parked : Option Kept

-- 1 for true
abbrev pub one : Bool → ℕ
one b = if b then 1 else 0

-- how often a place stands in a list
abbrev pub times : ℕ → List ℕ → ℕ
times place [] = 0
times place (p ∷ ps) = one (p == place) + times place ps

-- how many of these places have a ticket that has not come
abbrev pub tickets_due : List ℕ → List ℕ → ℕ
tickets_due came [] = 0
tickets_due came (p ∷ ps) = one (times p came == 0) + tickets_due came ps

module _ {Kept : Type 0} where
  -- whether the holder has not come
  abbrev pub holder_due : Option Kept → ℕ
  holder_due None = 1
  holder_due (Some _) = 0

  -- the number of parties, the holder and one ticket for each place that was issued, that have not come
  abbrev pub count_of : Meeting Kept → ℕ
  count_of x = holder_due x.parked + tickets_due x.came x.issued

  -- a round begins: nothing is issued, nobody has come
  abbrev pub opening : ℕ → Meeting Kept
  opening round = record { round = round; issued = []; came = []; parked = None }

  -- the round after this one
  abbrev pub next_round : Meeting Kept → Meeting Kept
  next_round x = opening (x.round + 1)

  -- one more party: the ticket of a place. It may be handed out while the holder has not come, and once in a round
  abbrev pub issuing : ℕ → Meeting Kept → Meeting Kept
  issuing place x = record x { issued = x.issued ++ place ∷ [] }

  -- a place may be issued while the holder has not parked, once a round
  abbrev pub MayIssue : ℕ → Meeting Kept → Type 0
  MayIssue place x = (x.parked ≡ None) × (times place x.issued ≡ 0)

  -- the holder comes, once in a round, with what it parks
  abbrev pub parking : Kept → Meeting Kept → Meeting Kept
  parking kept x = record x { parked = Some kept }

  -- the holder may park once a round
  abbrev pub MayPark : Meeting Kept → Type 0
  MayPark x = x.parked ≡ None

  -- the ticket of a place comes, where it was issued in this round and has not come
  abbrev pub arriving : ℕ → Meeting Kept → Meeting Kept
  arriving place x = record x { came = place ∷ x.came }

  -- a party of a place that was issued may come once
  abbrev pub MayArrive : ℕ → Meeting Kept → Type 0
  MayArrive place x = (times place x.issued ≡ 1) × (times place x.came ≡ 0)
