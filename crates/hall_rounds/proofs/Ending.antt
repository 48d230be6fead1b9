-- What the answers of a hall say of who is last, and of the first holder.
use Rattle.std.proofs.Common.{◌≡◌, ◌+◌, [], ◌∷◌, ◌++◌, map, List, ℕ, length, sym, ap, ◌∙◌, arith}
use Rattle.atomic_table.specs.Seated.{TableId}
use Rattle.meet_hall.specs.declared.party.Met.{Met}
use Rattle.meet_hall.specs.declared.party.Met.TheVariants.{Waiting, Last}
use Rattle.meet_hall.specs.Answers.{IfLast, ParkEnds, ArriveEnds}
use Rattle.meet_hall.specs.Holders.{HolderIs, TicketIs, desk}
use Rattle.meet_hall.specs.declared.view.Desk.{Desk}
use Rattle.hall_rounds.specs.declared.party.Number.{Number}
use Rattle.hall_rounds.specs.Rounds.{Begins, MayPark, MayArrive, EndsAt}

pub park_ends : (hall : TableId) (h : HolderIs) (given : Number) (met : Met Number) → MayPark hall h
    → IfLast met (λ next g. ParkEnds h next × (g ≡ given)) → EndsAt hall met
park_ends hall h given (Waiting stub) may e = tt
park_ends hall h given (Last next g) may e =
    (ap (λ (x : HolderIs). x.hall) e.0.3 ∙ may.0, ap (λ (x : HolderIs). x.issued) e.0.3, ap (λ (x : HolderIs). x.places) e.0.3 ∙ may.2)

pub arrive_ends : (hall : TableId) (t : TicketIs) (Fits : HolderIs → Number → Type 0) (met : Met Number) → MayArrive hall t
    → IfLast met (λ next g. ArriveEnds t next × Fits next g) → EndsAt hall met
arrive_ends hall t Fits (Waiting stub) may e = tt
arrive_ends hall t Fits (Last next g) may e =
    (ap (λ (x : HolderIs). x.hall) e.0.3 ∙ may.0, ap (λ (x : HolderIs). x.issued) e.0.3, ap (λ (x : HolderIs). x.places) e.0.3 ∙ may.1)
