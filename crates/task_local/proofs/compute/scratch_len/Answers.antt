use Rattle.std.proofs.Common.{refl, subst, sym, true≢false}
use Rattle.task_local.specs.Kept.{IsScratchFor}
use Rattle.task_local.proofs.Beside.{apart_needs_none, sharing_needs_all}
use Rattle.task_local.proofs.compute.scratch_len.Goals as goal

pub returns-then-is_apart_from_sources : goal.returns-then-is_apart_from_sources
returns-then-is_apart_from_sources c =
    let dst = c.part_of_span-dst in
    let left = c.part_of_source-left in
    let right = c.part_of_source-right in
    subst (IsScratchFor c.args.index.now 0) (sym c.in-Compute.is)
    (apart_needs_none _ _ _ _ _ _ _ _ _ _ _ _ _ dst.ensures.at dst.ensures.count left.ensures.at left.ensures.count right.ensures.at right.ensures.count
    (c.if-is_apart_from_sources.ensures.0 refl))

pub returns-else-is_apart_from_sources : goal.returns-else-is_apart_from_sources
returns-else-is_apart_from_sources c =
    let dst = c.part_of_span-dst in
    let left = c.part_of_source-left in
    let right = c.part_of_source-right in
    subst (IsScratchFor c.args.index.now dst.result.count) (sym c.in-Compute.is)
    (sharing_needs_all _ _ _ _ _ _ _ _ _ _ _ _ _ dst.ensures.at dst.ensures.count left.ensures.at left.ensures.count right.ensures.at right.ensures.count
    (λ apart. absurd (true≢false (sym (c.if-is_apart_from_sources.ensures.1 apart)))))
