-- What holds of the meeting after a legal log.
use Rattle.std.proofs.Common.{◌≡◌, ℕ, ◌+◌, ◌≤◌, ◌≢◌, List, [], ◌∷◌, ◌++◌, Option, None, Some, IsSome, ap, sym, ◌∙◌, refl, arith, ◌<◌, ◌==◌}
use mathlib.Core.Logic.{dite}
use native.Mathlib.Decide.{ℕ_discrete}
use Rattle.meetings.specs.declared.moves.Move.{Move}
use Rattle.meetings.specs.declared.moves.Move.TheVariants.{Issue, Park, Arrive}
use Rattle.meetings.specs.Meetings.{Meeting, one, times, tickets_due, holder_due, count_of, issuing, parking, arriving}
use Rattle.meetings.specs.Moves.{after, Legal}
use Rattle.meetings.specs.Laws.{IssuesAddOne, ArrivalsTakeOne, NothingAfterTheLast, AllCameAtTheLast}
use Rattle.meetings.proofs.Counts.{times-append, one_same, one_else, due_none, count-issuing, count-parking, count-arriving}

-- the tickets that came were issued, and each was issued at most once
pub came_within : (round : ℕ) (log : List Move) (p : ℕ) → Legal round log
    → (times p (after round log).came ≤ times p (after round log).issued) × (times p (after round log).issued ≤ 1)
came_within round [] p legal = (omega arith, omega arith)
came_within round (Issue q ∷ log) p legal =
    let before = came_within round log p legal.0 in
    let a = times-append p (after round log).issued (q ∷ []) in
    dite (ℕ_discrete q p)
    (λ e.
    let b : one (q == p) ≡ 1 = one_same q p e in
    let c : times p (after round log).issued ≡ 0 = ap (λ (r : ℕ). times r (after round log).issued) (sym e) ∙ legal.1.1 in
    (omega arith, omega arith))
    (λ n. let b : one (q == p) ≡ 0 = one_else q p n in (omega arith, omega arith))
came_within round (Park ∷ log) p legal = came_within round log p legal.0
came_within round (Arrive q ∷ log) p legal =
    let before = came_within round log p legal.0 in
    dite (ℕ_discrete q p)
    (λ e.
    let b : one (q == p) ≡ 1 = one_same q p e in
    let c : times p (after round log).came ≡ 0 = ap (λ (r : ℕ). times r (after round log).came) (sym e) ∙ legal.1.1 in
    let d : times p (after round log).issued ≡ 1 = ap (λ (r : ℕ). times r (after round log).issued) (sym e) ∙ legal.1.0 in
    (omega arith, omega arith))
    (λ n. let b : one (q == p) ≡ 0 = one_else q p n in (omega arith, before.1))

pub issues_add_one : IssuesAddOne
issues_add_one round place log legal =
    let within = came_within round log place legal.0 in
    let new : times place (after round log).issued ≡ 0 = legal.1.1 in
    count-issuing place (after round log) (omega arith)

pub arrivals_take_one : ArrivalsTakeOne
arrivals_take_one = (
  (λ round log legal. count-parking tt (after round log) legal.1),
  (λ round place log legal. count-arriving place (after round log) legal.1.0 legal.1.1),
)

pub some_are_due : NothingAfterTheLast
some_are_due round (Issue place) log legal = let a : holder_due (after round log).parked ≡ 1 = ap holder_due legal.1.0 in omega arith
some_are_due round Park log legal = let a : holder_due (after round log).parked ≡ 1 = ap holder_due legal.1 in omega arith
some_are_due round (Arrive place) log legal = let a = count-arriving place (after round log) legal.1.0 legal.1.1 in omega arith

has_parked : {Kept : Type 0} (parked : Option Kept) → holder_due parked ≡ 0 → IsSome parked
has_parked None h = absurd (omega arith)
has_parked (Some kept) h = refl

pub all_came : AllCameAtTheLast
all_came round log legal none =
    let x = after round log in (
      has_parked x.parked (omega arith),
      (λ p.
          let within = came_within round log p legal in
          dite (ℕ_discrete (times p x.issued) 0)
          (λ z. omega arith)
          (λ n. let there = due_none x.came x.issued p (omega arith) (omega arith) in omega arith)),
    )
