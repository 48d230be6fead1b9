use Rattle.std.proofs.Common.{List, IsPermutation, subst, rules}
use Rattle.std.proofs.lemmas.List.Sorted.{IsNonDecreasingBy-from_sort_by_key}
use Rattle.task_local.specs.declared.index.Region.{Region}
use Rattle.task_local.specs.Kept.{first_cell}
use Rattle.task_local.proofs.Order.{sorted_is_regions}
use Rattle.task_local.proofs.index.ordered_regions.Goals as goal

-- what the sort left are the regions, since there is but one such order
pub returns : goal.returns
returns c =
    sorted_is_regions c.args.accesses.now c.sort_unstable_by_key.new.self.items c.requires.low c.requires.apart
    (subst (λ (xs : List Region). IsPermutation xs c.sort_unstable_by_key.new.self.items) c.in_ok-ordered.ensures c.sort_unstable_by_key.ensures.permutation)
    (IsNonDecreasingBy-from_sort_by_key first_cell _ c.sort_unstable_by_key.ensures.sorted (λ a r q k. search rules))
