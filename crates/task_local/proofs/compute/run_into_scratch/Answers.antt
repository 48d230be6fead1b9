use Rattle.std.proofs.Common.{◌≡◌, length, List, ℤ, take, ap, ◌∙◌, refl, rules, arith}
use Rattle.std.proofs.lemmas.List.{length-take-le}
use Rattle.task_local.specs.Regions.{spliced}
use Rattle.task_local.proofs.Beside.{placed_value_is}
use Rattle.task_local.proofs.Copies.{put_mid_is_spliced, part_is}
use Rattle.task_local.proofs.compute.run_into_scratch.Goals as goal

pub returns : goal.returns
returns c =
    let placed = c.args.placed.now in
    let copy = c.args.copy.now in
    let from = part_is placed.left.at placed.left.count placed.left.at copy _ refl refl in
    let with = part_is placed.right.at placed.right.count placed.right.at copy _ refl refl in
    let room : length (take placed.dst.count c.args.scratch.now) ≡ placed.dst.count = length-take-le placed.dst.count c.args.scratch.now c.requires.room in
    put_mid_is_spliced placed.dst.at _ copy c.copy_from_slice.new.self (search (rules, arith))
    ∙ ap (λ (cells : List ℤ). spliced placed.dst.at cells copy) c.copy_from_slice.ensures.after
    ∙ placed_value_is placed copy _ _ _ _ _ _ room from with (search rules) (search rules) c.run_kernel.ensures
