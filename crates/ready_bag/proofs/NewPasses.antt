-- The passes of a new bag.
use Rattle.std.proofs.Common.{◌≡◌, ℕ, zero, suc, List, [], ◌∷◌, length, arith, refl, sym, ap, ◌∙◌, subst, length-append}
use Rattle.std.specs.List.{All}
use Rattle.std.proofs.lemmas.List.Elements.{All-nil, All-push}
use Rattle.ready_bag.specs.Passes.{BagIs, PassIs, IsPassOfBag, new_pass, new_passes}

module _ (T : Type 0) where
  each_home : (bag : BagIs) (n : ℕ) → All (λ pass. IsPassOfBag pass bag) (new_passes {T = T} bag n)
  each_home bag zero = All-nil (λ pass. IsPassOfBag pass bag)
  each_home bag (suc n) = All-push (λ pass. IsPassOfBag pass bag) (new_passes bag n) (new_pass bag n) (each_home bag n) (record {
    table = refl;
    workers =
        refl;
  })

  length-new_passes : (bag : BagIs) (n : ℕ) → length (new_passes {T = T} bag n) ≡ n
  length-new_passes bag zero = refl
  length-new_passes bag (suc n) = omega (arith, length-new_passes bag n, length-append (new_passes {T = T} bag n) (new_pass bag n ∷ []))

module _ {T : Type 0} where
  pub all_home : (passes : List (PassIs T)) (bag : BagIs) (n : ℕ) → passes ≡ new_passes bag n → All (λ pass. IsPassOfBag pass bag) passes
  all_home passes bag n are = subst (λ (l : List (PassIs T)). All (λ pass. IsPassOfBag pass bag) l) (sym are) (each_home T bag n)

  pub as_many : (passes : List (PassIs T)) (bag : BagIs) (n : ℕ) → passes ≡ new_passes bag n → length passes ≡ n
  as_many passes bag n are = ap (λ (l : List (PassIs T)). length l) are ∙ length-new_passes T bag n
