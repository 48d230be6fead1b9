use Rattle.meetings.specs.declared.moves.Move.TheVariants.{Park, Arrive}
use Rattle.meetings.specs.Moves.{after}
use Rattle.meet_hall.specs.Steps.{parked, arrived}
use Rattle.meet_hall.specs.Views.{desk_from}
use Rattle.std.proofs.Common.{eq-eqb, ◌≡◌, ℕ, suc, ◌+◌, ◌*◌, ◌/◌, ◌%◌, ◌^◌, ◌<◌, ◌==◌, true, List, [], ◌∷◌, sym, refl, ap, ◌∙◌, subst, arith, rules}
use Rattle.atomic_table.specs.Table.{Me, rest}
use Rattle.atomic_table.specs.Seated.{TableId}
use Rattle.atomic_table.specs.declared.badge.Badge.{Badge}
use Rattle.meet_hall.specs.declared.slot.Slot.{Slot}
use Rattle.meet_hall.specs.declared.slot.Slot.TheVariants.{Empty, Record, Note}
use Rattle.meet_hall.specs.declared.view.View.{View}
use Rattle.meet_hall.specs.declared.view.View.TheVariants.{Builds, Holds, Issues, Takes, Parks, Lasts, Ends, Comes, Puts, Gone}
use Rattle.meet_hall.specs.Holders.{HolderIs, TicketIs, desk, chit}
use Rattle.meet_hall.specs.Views.{issuing_desk, noted_desk, next_desk, chit_from, desk_of, chit_of, slot_of}
use Rattle.meet_hall.specs.Places.{ListsAre}
use Rattle.meet_hall.specs.Rule.{lists_of}
use Rattle.meet_hall.proofs.Allowed.{sits_is, may_exchange, ending_is, hands_as, issues_as, opens_as, parks_as, brings_as, arrives_as}
use Rattle.meet_hall.proofs.Allowed.{takes_record_as, rearms_as, takes_out_as, returns_as}
use Rattle.meet_hall.proofs.hall.Hall.arrive.Goals as goal

pub load-requires : goal.load-requires
load-requires g c =
    let seat = c.into_seat-seat.ensures in
    let v : c.into_seat-seat.result.me.0 ≡ Comes (chit c.args.ticket) =
    sits_is _ _ _ _ seat.2 c.ticket.invariant.0 (ap (λ (t : TicketIs). Comes (chit t)) c.ticket.view_is) in
    let table = ap (λ (t : TicketIs). t.hall) c.ticket.view_is ∙ c.requires.hall ∙ sym c.self.view_is in (
      seat.0 ∙ table,
      subst (λ (z : TableId). c.ticket.inside.meeting < z.words) table c.ticket.invariant.2,
      brings_as _ _ _ c.self.invariant.1 _ _ _ _ (chit c.args.ticket) (λ i. (v i, seat.3 i)) (ap (λ (t : TicketIs). t.meeting) c.ticket.view_is),
    )

pub fetch_sub-found-requires : goal.fetch_sub-found-requires
fetch_sub-found-requires g c =
    let seat = c.into_seat-seat.ensures in
    let t = chit c.args.ticket in
    let v : c.into_seat-seat.result.me.0 ≡ Comes t =
    sits_is _ _ _ _ seat.2 c.ticket.invariant.0 (ap (λ (x : TicketIs). Comes (chit x)) c.ticket.view_is) in
    let table = ap (λ (x : TicketIs). x.hall) c.ticket.view_is ∙ c.requires.hall ∙ sym c.self.view_is in
    let brought = c.load.ensures.2 ∙ (λ i. (Puts (chit_of (v i)), (slot_of (chit_of (v i)), Empty) ∷ seat.3 i)) in
    let put = c.exchange-empty.ensures in
    let k = c.note_slot.result in (
      put.0 ∙ c.load.ensures.0 ∙ seat.0 ∙ table,
      subst (λ (z : TableId). c.ticket.inside.meeting < z.words) table c.ticket.invariant.2,
      arrives_as _ _ _ c.self.invariant.1 _ _ _ _ t k c.args.note
          (put.3 ∙ (λ i. ((brought i).0, (k, Note c.args.note) ∷ rest (brought i).1)))
          (ap (λ (x : TicketIs). x.meeting) c.ticket.view_is)
          (c.note_slot.ensures ∙ (λ i. (c.ticket.view_is i).base + suc (c.ticket.view_is i).place))
          (subst (λ (z : TableId). g.N.Guest.fits c.args.note z t.meeting (t.place ∷ [])) (sym c.requires.hall) c.requires.fits),
    )

pub load-requires-then-parties-eq1 : goal.load-requires-then-parties-eq1
load-requires-then-parties-eq1 g c =
    let seat = c.into_seat-seat.ensures in
    let t = chit c.args.ticket in
    let v : c.into_seat-seat.result.me.0 ≡ Comes t =
    sits_is _ _ _ _ seat.2 c.ticket.invariant.0 (ap (λ (x : TicketIs). Comes (chit x)) c.ticket.view_is) in
    let table = ap (λ (x : TicketIs). x.hall) c.ticket.view_is ∙ c.requires.hall ∙ sym c.self.view_is in
    let brought = c.load.ensures.2 ∙ (λ i. (Puts (chit_of (v i)), (slot_of (chit_of (v i)), Empty) ∷ seat.3 i)) in
    let put = c.exchange-empty.ensures in
    let k = c.note_slot.result in
    let full = put.3 ∙ (λ i. ((brought i).0, (k, Note c.args.note) ∷ rest (brought i).1)) in
    let before = c.exchange-empty.new.seat.me in
    let came = c.fetch_sub-found.ensures.2 in
    let log = Arrive (chit_of before.0).place ∷ came.0 in
    let ended = came.2 ∙ ap (λ x. arrived x before log) (eq-eqb _ 1 c.if-parties-eq1.true) in
    let d = desk_from (chit_of before.0) (after (chit_of before.0).round log).issued in (
      c.fetch_sub-found.ensures.0 ∙ put.0 ∙ c.load.ensures.0 ∙ seat.0 ∙ table,
      subst (λ (z : TableId). c.ticket.inside.meeting < z.words) table c.ticket.invariant.2,
      takes_record_as _ _ _ c.self.invariant.1 _ _ _ _ d (ended ∙ (λ i. (Lasts d, rest (full i).1)))
          (ap (λ (x : TicketIs). x.meeting) c.ticket.view_is ∙ sym (ap (λ (m : Me _ View). (chit_of m.0).meeting) full)),
    )
