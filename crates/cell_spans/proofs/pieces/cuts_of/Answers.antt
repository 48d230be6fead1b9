use Rattle.std.proofs.Common.{◌≡◌, ℕ, nat_eq, Contains, List, subst, sym}
use Rattle.std.specs.List.{dedup}
use Rattle.std.proofs.lemmas.List.Filters.{dedup_is}
use Rattle.std.proofs.lemmas.List.Kept.{Contains-dedup_nat, Contains-from_dedup}
use Rattle.std.proofs.lemmas.List.Sorted.{Contains-permutation, IsPermutation-sym}
use Rattle.std.proofs.lemmas.Map.Keys.{IsStrictlyIncreasing-dedup}
use Rattle.cell_spans.specs.Cuts.{all_bounds}
use Rattle.cell_spans.proofs.pieces.cuts_of.Goals as goal

pub returns-clause-rises : goal.returns-clause-rises
returns-clause-rises c = rw (dedup_is nat_eq _ _ c.dedup.ensures.filtered) (IsStrictlyIncreasing-dedup _ c.sort_unstable.ensures.sorted)

pub returns-clause-bounds : goal.returns-clause-bounds
returns-clause-bounds c place = (there, back)
  where
    kept : c.dedup.new.self.items ≡ dedup nat_eq c.sort_unstable.new.self.items
    kept = dedup_is nat_eq _ _ c.dedup.ensures.filtered

    there : Contains c.dedup.new.self.items place → Contains (all_bounds c.args.tasks.now) place
    there at = subst (λ (items : List ℕ). Contains items place) c.in_ok-bounds.ensures.bounds
        (Contains-permutation _ _ place (IsPermutation-sym _ _ c.sort_unstable.ensures.permutation)
        (Contains-from_dedup nat_eq c.sort_unstable.new.self.items place (subst (λ (items : List ℕ). Contains items place) kept at)))

    back : Contains (all_bounds c.args.tasks.now) place → Contains c.dedup.new.self.items place
    back at = subst (λ (items : List ℕ). Contains items place) (sym kept)
        (Contains-dedup_nat c.sort_unstable.new.self.items place
        (Contains-permutation _ _ place c.sort_unstable.ensures.permutation
        (subst (λ (items : List ℕ). Contains items place) (sym c.in_ok-bounds.ensures.bounds) at)))
