use Rattle.std.proofs.Common.{◌≡◌, ℕ, suc, ◌+◌, ◌*◌, ◌/◌, ◌%◌, ◌^◌, ◌<◌, ◌==◌, true, List, [], ◌∷◌, sym, refl, ap, ◌∙◌, subst, arith, rules}
use Rattle.atomic_table.specs.Table.{Me, rest}
use Rattle.atomic_table.specs.Seated.{TableId}
use Rattle.atomic_table.specs.declared.badge.Badge.{Badge}
use Rattle.meet_hall.specs.declared.slot.Slot.{Slot}
use Rattle.meet_hall.specs.declared.slot.Slot.TheVariants.{Empty, Record, Note}
use Rattle.meet_hall.specs.declared.view.View.{View}
use Rattle.meet_hall.specs.declared.view.View.TheVariants.{Builds, Holds, Issues, Takes, Parks, Lasts, Ends, Comes, Puts, Gone}
use Rattle.meet_hall.specs.Holders.{HolderIs, TicketIs, desk, chit}
use Rattle.meet_hall.specs.Views.{issuing_desk, noted_desk, next_desk, chit_from, desk_of, chit_of, slot_of}
use Rattle.meet_hall.specs.Places.{ListsAre}
use Rattle.meet_hall.specs.Rule.{lists_of}
use Rattle.meet_hall.proofs.Allowed.{sits_is, may_exchange, ending_is, hands_as, issues_as, opens_as, parks_as, brings_as, arrives_as}
use Rattle.meet_hall.proofs.Allowed.{takes_record_as, rearms_as, takes_out_as, returns_as}
use Rattle.meet_hall.proofs.hall.Hall.issue_as.Goals as goal

pub fetch_add-requires : goal.fetch_add-requires
fetch_add-requires g c =
    let seat = c.into_seat-seat.ensures in
    let v : c.into_seat-seat.result.me.0 ≡ Holds (desk c.args.holder.now) =
    sits_is _ _ _ _ (ap (λ (b : Badge View). b.views) (sym c.replace-badge.ensures.value) ∙ seat.2) c.holder.invariant.0
    (ap (λ (d : HolderIs). Holds (desk d)) c.holder.view_is) in
    let table = ap (λ (d : HolderIs). d.hall) c.holder.view_is ∙ c.requires.hall ∙ sym c.self.view_is in (
      seat.0 ∙ ap (λ (b : Badge View). b.table_id) c.replace-badge.ensures.value ∙ table,
      subst (λ (z : TableId). c.holder.inside.meeting < z.words) table c.holder.invariant.2,
      issues_as _ _ _ c.self.invariant.1 _ _ _ _ (desk c.args.holder.now) c.args.place _ (λ i. (v i, seat.3 i))
          (ap (λ (d : HolderIs). d.meeting) c.holder.view_is)
          c.requires.choice c.requires.within c.requires.new c.requires.clear,
    )

pub split_seat-ticket-requires : goal.split_seat-ticket-requires
split_seat-ticket-requires g c =
    let seat = c.into_seat-seat.ensures in
    let table = ap (λ (d : HolderIs). d.hall) c.holder.view_is ∙ c.requires.hall ∙ sym c.self.view_is in
    let below : c.holder.inside.meeting < c.self.inside.table.shared.table_id.words =
    subst (λ (z : TableId). c.holder.inside.meeting < z.words) table c.holder.invariant.2 in (
      c.fetch_add.ensures.0 ∙ seat.0 ∙ ap (λ (b : Badge View). b.table_id) c.replace-badge.ensures.value ∙ table,
      omega arith,
      hands_as _ _ _ c.self.invariant.1 _ _ _ _ (ap (λ (m : Me _ View). m.0) c.fetch_add.ensures.2),
    )
