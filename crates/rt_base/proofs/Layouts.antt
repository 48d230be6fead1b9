-- The table of where arrays begin.
use Rattle.std.proofs.Common.{◌≡◌, ℕ, zero, suc, ◌+◌, ◌*◌, ◌^◌, ◌<◌, List, [], ◌∷◌, length, take, sum, slice_index_or, refl, ap, sym, subst, arith}
use Rattle.std.proofs.lemmas.List.Sums.{sum_by-cons}
use Rattle.rt_base.specs.Layout.{starts_from}

-- there is a start for each length
pub length_starts : (cell : ℕ) (lens : List ℕ) → length (starts_from cell lens) ≡ length lens
length_starts cell [] = refl
length_starts cell (len ∷ lens) = ap suc (length_starts (cell + len) lens)

-- an array begins behind those before it
pub starts_at : (cell : ℕ) (lens : List ℕ) (i : ℕ) → i < length lens → slice_index_or (starts_from cell lens) i 0 ≡ cell + sum (take i lens)
starts_at cell [] i within = absurd (omega (arith, within))
starts_at cell (len ∷ lens) zero within = omega arith
starts_at cell (len ∷ lens) (suc i) within =
    let rest = starts_at (cell + len) lens i (omega (arith, within)) in
    let own : sum (take (suc i) (len ∷ lens)) ≡ len + sum (take i lens) = sum_by-cons (λ (n : ℕ). n) len (take i lens) in
    omega (arith, rest, own)

-- a place among 32-bit lengths, and where it lies in bytes, fit a machine word
pub place_fits : (rank count found array lens : ℕ) → found ≡ count → rank * count + array < lens → lens * 4 < 2 ^ 63
    → (rank * found + array < lens) × (rank * found < 2 ^ 64) × (rank * found + array < 2 ^ 64) × ((rank * found + array) * 4 < 2 ^ 64)
place_fits rank count found array lens same within short =
    subst (λ n. (rank * n + array < lens) × (rank * n < 2 ^ 64) × (rank * n + array < 2 ^ 64) × ((rank * n + array) * 4 < 2 ^ 64)) (sym same)
    (within, omega (arith, within, short), omega (arith, within, short), omega (arith, within, short))
