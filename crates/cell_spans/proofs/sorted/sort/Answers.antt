use Rattle.std.proofs.Common.{◌∙◌, cond}
use Rattle.std.proofs.lemmas.List.Sorted.{IsNonDecreasingBy-from_sort, sum_by-IsPermutation}
use Rattle.cell_spans.proofs.sorted.sort.Goals as goal

pub returns-in-Err-clause-ascends : goal.returns-in-Err-clause-ascends
returns-in-Err-clause-ascends c = IsNonDecreasingBy-from_sort (λ x. x) _ c.sort_unstable.ensures.sorted

pub returns-in-Err-clause-same : goal.returns-in-Err-clause-same
returns-in-Err-clause-same c test =
    sum_by-IsPermutation (λ x. cond (test x) 1 0) _ _ c.sort_unstable.ensures.permutation
    ∙ sum_by-IsPermutation (λ x. cond (test x) 1 0) _ _ c.sort.ensures.permutation

pub returns-in-Ok-clause-ascends : goal.returns-in-Ok-clause-ascends
returns-in-Ok-clause-ascends c = IsNonDecreasingBy-from_sort (λ x. x) _ c.in-Ok.ensures.sorted

pub returns-in-Ok-clause-same : goal.returns-in-Ok-clause-same
returns-in-Ok-clause-same c test = sum_by-IsPermutation (λ x. cond (test x) 1 0) _ _ c.sort.ensures.permutation
