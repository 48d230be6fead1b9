use Rattle.meetings.specs.declared.moves.Move.TheVariants.{Park, Arrive}
use Rattle.meetings.specs.Moves.{after}
use Rattle.meet_hall.specs.Steps.{parked, arrived}
use Rattle.meet_hall.specs.Views.{desk_from}
use Rattle.std.proofs.Common.{eq-eqb, ◌≡◌, ℕ, suc, ◌+◌, ◌*◌, ◌/◌, ◌%◌, ◌^◌, ◌<◌, ◌==◌, true, List, [], ◌∷◌, sym, refl, ap, ◌∙◌, subst, arith, rules}
use Rattle.atomic_table.specs.Table.{Me, rest}
use Rattle.atomic_table.specs.Seated.{TableId}
use Rattle.atomic_table.specs.declared.badge.Badge.{Badge}
use Rattle.meet_hall.specs.declared.slot.Slot.{Slot}
use Rattle.meet_hall.specs.declared.slot.Slot.TheVariants.{Empty, Record, Note}
use Rattle.meet_hall.specs.declared.view.View.{View}
use Rattle.meet_hall.specs.declared.view.View.TheVariants.{Builds, Holds, Issues, Takes, Parks, Lasts, Ends, Comes, Puts, Gone}
use Rattle.meet_hall.specs.Holders.{HolderIs, TicketIs, desk, chit}
use Rattle.meet_hall.specs.Views.{issuing_desk, noted_desk, next_desk, chit_from, desk_of, chit_of, slot_of}
use Rattle.meet_hall.specs.Places.{ListsAre}
use Rattle.meet_hall.specs.Rule.{lists_of}
use Rattle.meet_hall.proofs.Allowed.{sits_is, may_exchange, ending_is, hands_as, issues_as, opens_as, parks_as, brings_as, arrives_as}
use Rattle.meet_hall.proofs.Allowed.{takes_record_as, rearms_as, takes_out_as, returns_as}
use Rattle.meet_hall.proofs.hall.Hall.take_note_as.Goals as goal

pub load-requires : goal.load-requires
load-requires g c =
    let seat = c.into_seat-seat.ensures in
    let v : c.into_seat-seat.result.me.0 ≡ Holds (desk c.args.holder.now) =
    sits_is _ _ _ _ (ap (λ (b : Badge View). b.views) (sym c.replace-badge.ensures.value) ∙ seat.2) c.holder.invariant.0
    (ap (λ (d : HolderIs). Holds (desk d)) c.holder.view_is) in
    let table = ap (λ (d : HolderIs). d.hall) c.holder.view_is ∙ c.requires.hall ∙ sym c.self.view_is in (
      seat.0 ∙ ap (λ (b : Badge View). b.table_id) c.replace-badge.ensures.value ∙ table,
      subst (λ (z : TableId). c.holder.inside.meeting < z.words) table c.holder.invariant.2,
      takes_out_as _ _ _ c.self.invariant.1 _ _ _ _ (desk c.args.holder.now) c.args.place _ (λ i. (v i, seat.3 i))
          (ap (λ (d : HolderIs). d.meeting) c.holder.view_is)
          c.requires.choice c.requires.there,
    )

pub exchange-full-requires : goal.exchange-full-requires
exchange-full-requires g c =
    let seat = c.into_seat-seat.ensures in
    let v : c.into_seat-seat.result.me.0 ≡ Holds (desk c.args.holder.now) =
    sits_is _ _ _ _ (ap (λ (b : Badge View). b.views) (sym c.replace-badge.ensures.value) ∙ seat.2) c.holder.invariant.0
    (ap (λ (d : HolderIs). Holds (desk d)) c.holder.view_is) in
    let table = ap (λ (d : HolderIs). d.hall) c.holder.view_is ∙ c.requires.hall ∙ sym c.self.view_is in
    let taken = c.load.ensures.2 in
    let base = ap (λ w. (desk_of w).base) v ∙ sym (ap (λ (d : HolderIs). d.base) c.holder.view_is) in
    let number = (λ i. base i + suc (sym c.requires.choice i)) ∙ sym c.note_slot.ensures in (
      c.load.ensures.0 ∙ seat.0 ∙ ap (λ (b : Badge View). b.table_id) c.replace-badge.ensures.value ∙ table,
      (
        Note taken.0,
        may_exchange _ _ _ c.into_seat-seat.result.me.1
            (ap (λ (m : Me _ View). m.1) taken.1 ∙ (λ i. (number i, Note taken.0) ∷ c.into_seat-seat.result.me.1)),
      ),
    )

pub load-requires-2 : goal.load-requires-2
load-requires-2 g c =
    let seat = c.into_seat-seat.ensures in
    let v : c.into_seat-seat.result.me.0 ≡ Holds (desk c.args.holder.now) =
    sits_is _ _ _ _ (ap (λ (b : Badge View). b.views) (sym c.replace-badge.ensures.value) ∙ seat.2) c.holder.invariant.0
    (ap (λ (d : HolderIs). Holds (desk d)) c.holder.view_is) in
    let table = ap (λ (d : HolderIs). d.hall) c.holder.view_is ∙ c.requires.hall ∙ sym c.self.view_is in
    let taken = c.load.ensures.2 in
    let base = ap (λ w. (desk_of w).base) v ∙ sym (ap (λ (d : HolderIs). d.base) c.holder.view_is) in
    let number = (λ i. base i + suc (sym c.requires.choice i)) ∙ sym c.note_slot.ensures in
    let k = c.note_slot.result in
    let p = g.P.Choice.place in
    let d = noted_desk (desk_of c.into_seat-seat.result.me.0) p in
    let put = c.exchange-full.ensures in (
      put.0 ∙ c.load.ensures.0 ∙ seat.0 ∙ ap (λ (b : Badge View). b.table_id) c.replace-badge.ensures.value ∙ table,
      subst (λ (z : TableId). c.holder.inside.meeting < z.words) table c.holder.invariant.2,
      returns_as _ _ _ c.self.invariant.1 _ _ _ _ d p k
          (put.3 ∙ (λ i. ((taken.1 i).0, (k, Empty) ∷ rest (taken.1 i).1)) ∙ (λ i. (Takes d p, (k, Empty) ∷ seat.3 i)))
          (ap (λ (h : HolderIs). h.meeting) c.holder.view_is ∙ sym (ap (λ w. (desk_of w).meeting) v)) (sym number),
    )
