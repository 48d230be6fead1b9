-- Each request that is owed has its ticket, as the machine goes on.
use Rattle.std.proofs.Common.{◌≡◌, ℕ, Bool, true, false, List, [], ◌∷◌, Option, Some, None, ◌⊎◌, inl, inr, refl, sym, ap, ◌∙◌, subst}
use Rattle.std.specs.Prelude.{MatchOption, IsSome}
use Rattle.std.specs.List.{list_any}
use Rattle.std.proofs.lemmas.Bool.{false≢true, cases_Bool, or_left}
use Rattle.rt_base.specs.declared.data.ReqNo.{ReqNo}
use Rattle.rt_base.specs.declared.data.Program.{Program}
use Rattle.rt_base.specs.State.{State, opening}
use Rattle.rt_base.specs.Matching.{same_request}
use Rattle.rt_base.proofs.SameRequest.{one_request, same_request-self}
use Rattle.task_machine.specs.Machine.{move, poll}
use Rattle.task_machine.specs.Owed.{opened, IsOneOf, IsOwed}
use Rattle.task_machine.proofs.Owing.{move_owes, poll_owes}
use Rattle.tidy_runs.proofs.Bodies.{own_in}
use Rattle.tidy_runs.proofs.OpenedOnce.{opened_own, owed_opened}
use Rattle.pass_table.specs.Passes.{TableId}
use Rattle.meet_hall.specs.Holders.{HolderIs, TicketIs, ticket_from}
use Rattle.turn_table.specs.declared.hands.Door.{Door}
use Rattle.shared_tasks.specs.Places.{IsHolder, meeting_of}
use Rattle.shared_tasks.specs.Owing.{place_in, lying_in, with_ticket, IsTicketOf, KeepsTickets, HasOpened}
use Rattle.shared_tasks.specs.Laws.{NoneOwedAtFirst, MovesKeepTickets, NoticesHaveTickets, PollsKeepTickets}
use Rattle.shared_tasks.proofs.Lying.{lying-own, lying-other}

pub none_owed : NoneOwedAtFirst
none_owed p site rows q owed = absurd (false≢true (owed_opened p 0 [] tt q owed))

-- the ticket that a holder of the task issued for a request of it
issued_fits : (p : Program) (site : TableId) (t : ℕ) (door : Door) (holder : HolderIs) (q : ReqNo) (seat : ℕ) → IsHolder p site t (meeting_of door t) holder
    → q.task.0 ≡ t → IsTicketOf p site q (ticket_from holder q.nth seat)
issued_fits p site t door holder q seat held own =
    subst (λ (u : ℕ). IsHolder p site u (meeting_of door u) holder → IsTicketOf p site q (ticket_from holder q.nth seat)) own
    (λ h. record { hall = h.hall; meeting_is = (door, h.meeting_is); place = refl; places = h.places }) held

was_owed : (p : Program) (s : State) (t : ℕ) (q : ReqNo) → list_any (same_request q) (opened p s t) ≡ false
    → IsOwed p s q ⊎ IsOneOf q (opened p s t) → IsOwed p s q
was_owed p s t q not_in (inl before) = before
was_owed p s t q not_in (inr is_in) = absurd (false≢true (sym not_in ∙ is_in))

pub move_keeps : MovesKeepTickets
move_keeps p site s t door holder old new held keeps issued q owed = elim (cases_Bool (list_any (same_request q) (opened p s t))) [
  | inl is_in ↦
      let lies = issued.opened q is_in in
      subst (λ (o : Option TicketIs). MatchOption o ⊥ (IsTicketOf p site q)) (sym lies.1)
      (issued_fits p site t door holder q lies.0 held (own_in t (opened p s t) q (opened_own p s t) is_in))
  | inr not_in ↦
      subst (λ (o : Option TicketIs). MatchOption o ⊥ (IsTicketOf p site q)) (sym (issued.others q (λ is_in. false≢true (sym not_in ∙ is_in))))
      (keeps q (was_owed p s t q not_in (move_owes p s t q owed)))
]

pub first_ticket : NoticesHaveTickets
first_ticket p site s req later rows keeps first =
    keeps req (inr (ap (list_any (same_request req)) first ∙ or_left (same_request req req) (list_any (same_request req) later) (same_request-self req)))

pub poll_keeps : PollsKeepTickets
poll_keeps p site s poller req rows keeps has told q owed = elim (cases_Bool (same_request q req)) [
  | inl same ↦ absurd (told (subst (λ (r : ReqNo). IsOwed p (poll s poller).state r) (one_request q req same) owed))
  | inr other ↦
      subst (λ (o : Option TicketIs). MatchOption o ⊥ (IsTicketOf p site q)) (sym (lying-other rows req q None has other))
      (keeps q (poll_owes p s poller q owed))
]
