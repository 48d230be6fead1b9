-- Where the slots of meetings lie.
use Rattle.std.proofs.Common.{◌≡◌, ℕ, suc, zero, ◌+◌, ◌*◌, ◌-◌, ◌^◌, ◌<◌, ◌≤◌, ◌≢◌, ◌⊎◌, inl, inr, ⊎_elim, List, [], ◌∷◌, length, slice_index, sym}
use Rattle.std.proofs.Common.{refl, ap, ◌∙◌, subst, arith}
use mathlib.Core.Logic.{dite}
use native.Mathlib.Decide.{dec_le, ℕ_discrete}
use Rattle.meet_hall.specs.Plan.{start_of, IsNarrow}
use Rattle.meet_hall.proofs.Keeping.{LiesAt, Apart}

-- the slots of one meeting more
pub start_more : (ps : List ℕ) (m : ℕ) → m < length ps → start_of ps (suc m) ≡ start_of ps m + suc (slice_index ps m)
start_more [] m h = absurd (omega arith)
start_more (p ∷ []) zero h = omega arith
start_more (p ∷ q ∷ ps) zero h = omega arith
start_more (p ∷ ps) (suc m) h = let a = start_more ps m (omega arith) in omega arith

-- a later meeting lies further on
start_later : (ps : List ℕ) (i d : ℕ) → i + suc d ≤ length ps → start_of ps i + suc (slice_index ps i) ≤ start_of ps (i + suc d)
start_later ps i zero h =
    let a = start_more ps i (omega arith) in
    let b : start_of ps (i + 1) ≡ start_of ps (suc i) = ap (start_of ps) (let e : i + 1 ≡ suc i = omega arith in e) in
    omega arith
start_later ps i (suc d) h =
    let a = start_later ps i d (omega arith) in
    let b = start_more ps (i + suc d) (omega arith) in
    let c : start_of ps (i + suc (suc d)) ≡ start_of ps (suc (i + suc d)) = ap (start_of ps) (let e : i + suc (suc d) ≡ suc (i + suc d) = omega arith in e) in
    omega arith

pub later : (ps : List ℕ) (i j : ℕ) → i < j → j ≤ length ps → start_of ps i + suc (slice_index ps i) ≤ start_of ps j
later ps i j less within =
    let e : i + suc (j - suc i) ≡ j = omega arith in
    let a = start_later ps i (j - suc i) (omega arith) in
    subst (λ k. start_of ps i + suc (slice_index ps i) ≤ start_of ps k) e a

pub apart_plan : (ps : List ℕ) → Apart (length ps) (start_of ps) (slice_index ps)
apart_plan ps i j k below_i below_j at_i at_j =
    let from_i = at_i.from in let to_i = at_i.to in let from_j = at_j.from in let to_j = at_j.to in
    dite (ℕ_discrete i j) (λ e. e) (λ n. dite (dec_le i j)
    (λ le. let a = later ps i j (omega arith) (omega arith) in absurd (omega arith))
    (λ gt. let a = later ps j i (omega arith) (omega arith) in absurd (omega arith)))

pub start_zero : (ps : List ℕ) → start_of ps zero ≡ 0
start_zero [] = refl
start_zero (p ∷ ps) = refl

-- so many meetings of fewer than 2^32 - 1 places have at most 2^32 - 1 slots each
pub start_most : (ps : List ℕ) (m : ℕ) → IsNarrow ps → m ≤ length ps → start_of ps m ≤ m * 4294967295
start_most ps zero narrow h = let e : start_of ps zero ≡ 0 = start_zero ps in omega arith
start_most ps (suc m) narrow h =
    let a = start_most ps m narrow (omega arith) in
    let b = start_more ps m (omega arith) in
    let c = narrow m (omega arith) in
    omega arith
