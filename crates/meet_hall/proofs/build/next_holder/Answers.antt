use Rattle.std.proofs.Common.{◌≡◌, ◌<◌, length, sym, ap, ◌∙◌, arith}
use Rattle.atomic_table.specs.Table.{Me}
use Rattle.meet_hall.specs.declared.view.View.{View}
use Rattle.meet_hall.proofs.Allowed.{makes_as}
use Rattle.meet_hall.proofs.build.next_holder.Goals as goal

pub split_seat-requires : goal.split_seat-requires
split_seat-requires g c =
    let below = c.requires.plan.0 in
    let words = c.requires.plan.1 in (
      c.requires.seat.0,
      omega arith,
      makes_as _ _ _ c.requires.plan.2 _ _ _ c.args.meeting _ _ (ap (λ (m : Me _ View). m.0) c.requires.seat.1) below
          (c.requires.opening.1 ∙ c.requires.lies.0) (c.requires.opening.2 ∙ c.requires.lies.1),
    )
