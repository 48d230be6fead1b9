-- The loop that writes an answer from its first cell on: what is written so far is the front of the answer.
use Rattle.std.proofs.Common.{◌≡◌, ℕ, ◌+◌, ◌<◌, ◌≤◌, ℤ, pos, List, [], ◌∷◌, ◌++◌, length, get_or, take, set, sym, refl, ◌∙◌, arith}
use Rattle.std.proofs.lemmas.List.{get_or-set_other, take_all, take_more, take_more_set}
use Rattle.block_kernels.specs.Kernels.{cell, cells_of}
use Rattle.block_kernels.proofs.Lengths.{length-cells_of, cell-cells_of}

-- one more cell
pub written_more : (count : ℕ) (value_of : ℕ → ℤ) (dst : List ℤ) (i : ℕ) (value : ℤ)
    → length dst ≡ count → i < count → take i dst ≡ take i (cells_of count value_of) → value ≡ value_of i
    → take (i + 1) (set dst i value) ≡ take (i + 1) (cells_of count value_of)
written_more count value_of dst i value len within so_far here =
    let answer : List ℤ = cells_of count value_of in
    let grown : take (i + 1) (set dst i value) ≡ take i dst ++ value ∷ [] = take_more_set dst i value (omega arith) in
    let long : length answer ≡ count = length-cells_of count value_of in
    let longer : take (i + 1) answer ≡ take i answer ++ get_or answer i (pos 0) ∷ [] = take_more answer i (pos 0) (omega arith) in
    let at : get_or answer i (pos 0) ≡ value_of i = cell-cells_of count value_of i within in
    cc

-- every cell
pub written_all : (count : ℕ) (value_of : ℕ → ℤ) (dst : List ℤ) (i : ℕ)
    → length dst ≡ count → count ≤ i → take i dst ≡ take i (cells_of count value_of) → dst ≡ cells_of count value_of
written_all count value_of dst i len end so_far =
    let long : length (cells_of count value_of) ≡ count = length-cells_of count value_of in
    sym (take_all i dst (omega arith)) ∙ so_far ∙ take_all i (cells_of count value_of) (omega arith)

-- the loop that makes each cell of its own old value: what is written so far is the front of the answer, and the other cells are as before
pub record IsPartly (count : ℕ) (value_of : ℕ → ℤ) (was dst : List ℤ) (i : ℕ) : Type 0 where
  pub written : take i dst ≡ take i (cells_of count value_of)
  pub left : (j : ℕ) → i ≤ j → cell dst j ≡ cell was j

-- no cell
pub partly_none : (count : ℕ) (value_of : ℕ → ℤ) (was : List ℤ) → IsPartly count value_of was was 0
partly_none count value_of was = record { written = refl; left = λ j later. refl }

-- one more cell
pub partly_more : (count : ℕ) (value_of : ℕ → ℤ) (was dst : List ℤ) (i : ℕ) (value : ℤ)
    → length dst ≡ count → i < count → IsPartly count value_of was dst i → value ≡ value_of i
    → IsPartly count value_of was (set dst i value) (i + 1)
partly_more count value_of was dst i value len within partly here = record {
  written = written_more count value_of dst i value len within partly.written here;
  left = λ j later. get_or-set_other dst i j value (pos 0) (λ same. absurd (omega arith)) ∙ partly.left j (omega arith);
}
