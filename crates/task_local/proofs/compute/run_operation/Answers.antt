use Rattle.std.proofs.Common.{◌≡◌, List, ℤ, subst, sym, ap, ◌∙◌, refl, to_z, of_z, w64, rules}
use Rattle.rt_base.specs.declared.data.Op.{Op}
use Rattle.task_local.specs.Regions.{spliced}
use Rattle.task_local.specs.Local.{computed, kernel_value}
use Rattle.task_local.specs.Placed.{cells_at}
use Rattle.task_local.proofs.Beside.{part_is_source}
use Rattle.task_local.proofs.Kernels.{computed_is}
use Rattle.task_local.proofs.compute.run_operation.Goals as goal

pub returns-in-Compute : goal.returns-in-Compute
returns-in-Compute c =
    let ordered = c.args.index.now in
    let copy = c.args.copy.now in
    let here = c.in-Compute in
    let dst = c.part_of_span in
    let left = c.part_of_source in
    let right = c.part_of_source-in-Compute in
    let from : List ℤ = cells_at left.result.at left.result.count copy in
    let with : List ℤ = cells_at right.result.at right.result.count copy in
    let value : ℤ = to_z w64 (of_z w64 here.value) in
    let step : ℤ = to_z w64 (of_z w64 here.step) in
    let cells : List ℤ = kernel_value here.kernel dst.result.count from with value step in
    subst (λ (o : Op). c.run_placed.new.copy ≡ computed c.args.def.now o copy) (sym here.is)
    (computed_is c.args.def.now ordered copy from with cells c.run_placed.new.copy dst.result.count here.kernel here.dst here.left here.right here.value
    here.step value step
    c.requires.regions (search rules) (search rules) dst.ensures.count
    (part_is_source ordered copy here.left left.result.at left.result.count left.ensures.at left.ensures.count)
    (part_is_source ordered copy here.right right.result.at right.result.count right.ensures.at right.ensures.count)
    refl (c.run_placed.ensures ∙ ap (λ at. spliced at cells copy) dst.ensures.at))
