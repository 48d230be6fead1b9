use Rattle.std.proofs.Common.{List, subst, ◌∙◌}
use Rattle.task_local.specs.declared.index.Region.{Region}
use Rattle.task_local.specs.Kept.{HasOffsets}
use Rattle.task_local.proofs.Searches.{regions_are_index, regions_total}
use Rattle.task_local.proofs.index.RegionIndex.make.Goals as goal

pub offsets_of-requires : goal.offsets_of-requires
offsets_of-requires c =
    regions_total c.args.accesses.now c.as_slice.result.now c.requires.total (c.as_slice.ensures.value ∙ c.in_ok-ordered.ensures)

pub invariant_of-result : goal.invariant_of-result
invariant_of-result c =
    regions_are_index c.args.accesses.now c.in_ok-ordered.ordered.items c.in_ok-offsets.offsets.items c.requires.low c.requires.apart c.requires.total
    c.in_ok-ordered.ensures
    (subst (λ (ordered : List Region). HasOffsets ordered c.in_ok-offsets.offsets.items) c.as_slice.ensures.value c.in_ok-offsets.ensures)
