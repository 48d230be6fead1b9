use Rattle.std.proofs.Common.{◌≡◌, length, replicate, ap, ◌∙◌, rules}
use Rattle.meet_hall.specs.declared.slot.Slot.TheVariants.{Empty}
use Rattle.meet_hall.proofs.FirstState.{first_state_as}
use Rattle.meet_hall.proofs.hall.Hall.build.Goals as goal

pub new-requires : goal.new-requires
new-requires g c =
    let places = c.args.places.now in
    let keys : c.in_ok-plan.plan.items ≡ places = search rules in
    let words : c.in_ok-words.words.items ≡ replicate (length places) 1 = search rules in
    let slots = c.in_ok-slots.ensures ∙ ap (λ k. replicate k Empty) c.slot_count.ensures in
    first_state_as g.R.Guest.fits g.N.Guest.fits places _ _ _ keys (c.as_slice.ensures.value ∙ words) slots
