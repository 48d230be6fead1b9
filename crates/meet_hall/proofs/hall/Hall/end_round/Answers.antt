use Rattle.std.proofs.Common.{◌≡◌, ℕ, suc, ◌+◌, ◌*◌, ◌/◌, ◌%◌, ◌^◌, ◌<◌, ◌==◌, true, List, [], ◌∷◌, sym, refl, ap, ◌∙◌, subst, arith, rules}
use Rattle.atomic_table.specs.Table.{Me, rest}
use Rattle.atomic_table.specs.Seated.{TableId}
use Rattle.atomic_table.specs.declared.badge.Badge.{Badge}
use Rattle.meet_hall.specs.declared.slot.Slot.{Slot}
use Rattle.meet_hall.specs.declared.slot.Slot.TheVariants.{Empty, Record, Note}
use Rattle.meet_hall.specs.declared.view.View.{View}
use Rattle.meet_hall.specs.declared.view.View.TheVariants.{Builds, Holds, Issues, Takes, Parks, Lasts, Ends, Comes, Puts, Gone}
use Rattle.meet_hall.specs.Holders.{HolderIs, TicketIs, desk, chit}
use Rattle.meet_hall.specs.Views.{issuing_desk, noted_desk, next_desk, chit_from, desk_of, chit_of, slot_of}
use Rattle.meet_hall.specs.Places.{ListsAre}
use Rattle.meet_hall.specs.Rule.{lists_of}
use Rattle.meet_hall.proofs.Allowed.{sits_is, may_exchange, ending_is, hands_as, issues_as, opens_as, parks_as, brings_as, arrives_as}
use Rattle.meet_hall.proofs.Allowed.{takes_record_as, rearms_as, takes_out_as, returns_as}
use Rattle.meet_hall.proofs.hall.Hall.end_round.Goals as goal

pub exchange-full-requires : goal.exchange-full-requires
exchange-full-requires g c = (c.requires.hall.0 ∙ sym c.self.view_is, (_, may_exchange _ _ _ [] (ap (λ (m : Me _ View). m.1) c.requires.ends.1)))

pub store-requires : goal.store-requires
store-requires g c =
    let put = c.exchange-full.ensures in
    let d = desk_of c.args.seat.me.0 in
    let ends = c.requires.ends.1 in (
      put.0 ∙ c.requires.hall.0 ∙ sym c.self.view_is,
      subst (λ (z : TableId). c.args.meeting < z.words) (sym c.self.view_is) c.requires.meeting.1,
      rearms_as _ _ _ c.self.invariant.1 _ _ _ _ d c.args.base _ (put.3 ∙ (λ i. ((ends i).0, (c.args.base, Empty) ∷ rest (ends i).1)))
          (sym c.requires.meeting.0) (sym c.requires.base.0)
          (let b = c.opening_word.ensures in let r = c.requires.round in omega arith),
    )
