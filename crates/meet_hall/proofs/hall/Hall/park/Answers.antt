use Rattle.meetings.specs.declared.moves.Move.TheVariants.{Park, Arrive}
use Rattle.meetings.specs.Moves.{after}
use Rattle.meet_hall.specs.Steps.{parked, arrived}
use Rattle.meet_hall.specs.Views.{desk_from}
use Rattle.std.proofs.Common.{eq-eqb, ◌≡◌, ℕ, suc, ◌+◌, ◌*◌, ◌/◌, ◌%◌, ◌^◌, ◌<◌, ◌==◌, true, List, [], ◌∷◌, sym, refl, ap, ◌∙◌, subst, arith, rules}
use Rattle.atomic_table.specs.Table.{Me, rest}
use Rattle.atomic_table.specs.Seated.{TableId}
use Rattle.atomic_table.specs.declared.badge.Badge.{Badge}
use Rattle.meet_hall.specs.declared.slot.Slot.{Slot}
use Rattle.meet_hall.specs.declared.slot.Slot.TheVariants.{Empty, Record, Note}
use Rattle.meet_hall.specs.declared.view.View.{View}
use Rattle.meet_hall.specs.declared.view.View.TheVariants.{Builds, Holds, Issues, Takes, Parks, Lasts, Ends, Comes, Puts, Gone}
use Rattle.meet_hall.specs.Holders.{HolderIs, TicketIs, desk, chit}
use Rattle.meet_hall.specs.Views.{issuing_desk, noted_desk, next_desk, chit_from, desk_of, chit_of, slot_of}
use Rattle.meet_hall.specs.Places.{ListsAre}
use Rattle.meet_hall.specs.Rule.{lists_of}
use Rattle.meet_hall.proofs.Allowed.{sits_is, may_exchange, ending_is, hands_as, issues_as, opens_as, parks_as, brings_as, arrives_as}
use Rattle.meet_hall.proofs.Allowed.{takes_record_as, rearms_as, takes_out_as, returns_as}
use Rattle.meet_hall.proofs.hall.Hall.park.Goals as goal

pub load-requires : goal.load-requires
load-requires g c =
    let seat = c.into_seat-seat.ensures in
    let v : c.into_seat-seat.result.me.0 ≡ Holds (desk c.args.holder) =
    sits_is _ _ _ _ seat.2 c.holder.invariant.0 (ap (λ (d : HolderIs). Holds (desk d)) c.holder.view_is) in
    let table = ap (λ (d : HolderIs). d.hall) c.holder.view_is ∙ c.requires.hall ∙ sym c.self.view_is in (
      seat.0 ∙ table,
      subst (λ (z : TableId). c.holder.inside.meeting < z.words) table c.holder.invariant.2,
      opens_as _ _ _ c.self.invariant.1 _ _ _ _ (desk c.args.holder) (λ i. (v i, seat.3 i))
          (ap (λ (d : HolderIs). d.meeting) c.holder.view_is) c.requires.clear,
    )

pub fetch_sub-found-requires : goal.fetch_sub-found-requires
fetch_sub-found-requires g c =
    let seat = c.into_seat-seat.ensures in
    let d = desk c.args.holder in
    let v : c.into_seat-seat.result.me.0 ≡ Holds d =
    sits_is _ _ _ _ seat.2 c.holder.invariant.0 (ap (λ (h : HolderIs). Holds (desk h)) c.holder.view_is) in
    let table = ap (λ (h : HolderIs). h.hall) c.holder.view_is ∙ c.requires.hall ∙ sym c.self.view_is in
    let opened = c.load.ensures.2 ∙ (λ i. (Parks (desk_of (v i)), ((desk_of (v i)).base, Empty) ∷ seat.3 i)) in
    let put = c.exchange-empty.ensures in
    let lists = c.holder.inside.lists in
    let left = ap (λ (h : HolderIs). h.left) c.holder.view_is ∙ c.requires.clear in
    let same : lists ≡ lists_of d.issued d.places =
    λ i. record { issued = (c.holder.view_is i).issued; left = left i; places = (c.holder.view_is i).places } in (
      put.0 ∙ c.load.ensures.0 ∙ seat.0 ∙ table,
      subst (λ (z : TableId). c.holder.inside.meeting < z.words) table c.holder.invariant.2,
      parks_as _ _ _ c.self.invariant.1 _ _ _ _ d c.holder.inside.base c.args.guest lists
          (put.3 ∙ (λ i. ((opened i).0, (c.holder.inside.base, Record c.args.guest lists) ∷ rest (opened i).1)))
          (ap (λ (h : HolderIs). h.meeting) c.holder.view_is) (ap (λ (h : HolderIs). h.base) c.holder.view_is)
          (subst (λ (z : TableId). g.R.Guest.fits c.args.guest z d.meeting d.issued) (sym c.requires.hall) c.requires.fits) same,
    )

pub end_round-next-requires-clause-ends : goal.end_round-next-requires-clause-ends
end_round-next-requires-clause-ends g c =
    let seat = c.into_seat-seat.ensures in
    let d = desk c.args.holder in
    let v : c.into_seat-seat.result.me.0 ≡ Holds d =
    sits_is _ _ _ _ seat.2 c.holder.invariant.0 (ap (λ (h : HolderIs). Holds (desk h)) c.holder.view_is) in
    let opened = c.load.ensures.2 ∙ (λ i. (Parks (desk_of (v i)), ((desk_of (v i)).base, Empty) ∷ seat.3 i)) in
    let put = c.exchange-empty.ensures in
    let lists = c.holder.inside.lists in
    let b = c.holder.inside.base in
    let left = ap (λ (h : HolderIs). h.left) c.holder.view_is ∙ c.requires.clear in
    let same : lists ≡ lists_of d.issued d.places = λ i. record { issued = (c.holder.view_is i).issued; left = left i; places = (c.holder.view_is i).places } in
    let full = put.3 ∙ (λ i. ((opened i).0, (b, Record c.args.guest lists) ∷ rest (opened i).1)) in
    let came = c.fetch_sub-found.ensures.2 in
    let ended = came.3 ∙ ap (λ t. parked t c.exchange-empty.new.seat.me (Park ∷ came.0)) (eq-eqb _ 1 c.if-count-eq1.true) in (
      c.args.guest,
      ending_is _ d b c.args.guest
          (ended ∙ (λ i. (Ends (desk_of (full i).0), (full i).1)) ∙ (λ i. (Ends d, (b, Record c.args.guest (same i)) ∷ []))),
    )
