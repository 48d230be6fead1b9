-- What each kernel gives, as a list of cells. The table of kernels is this project's own.
-- Sums, differences and products wrap at 64 bits, two's complement: they are taken in ℤ, and wrapped once.
use Rattle.std.specs.Prelude.{ℕ, ◌+◌, ◌-◌, ℤ, pos, ◌+ℤ◌, ◌-ℤ◌, ◌*ℤ◌, ◌≤ℤ◌, List, ◌++◌, map, length, take, drop, slice_index_or, unwrap_or, fold, All, Contains}
use Rattle.std.specs.List.{range_with_len, reduce}
use Rattle.std.specs.Int.{int_wrap, int_shr, int_min, int_max, w64}

-- the number of 64 bits, two's complement, that differs from this one by a multiple of 2 ^ 64 (this project's)
abbrev pub wrapped : ℤ → ℤ
wrapped number = int_wrap w64 number

-- cell i of a list that has one (this project's)
abbrev pub cell : List ℤ → ℕ → ℤ
cell cells i = slice_index_or cells i (pos 0)

-- the list of so many cells whose cell i has this value (this project's)
abbrev pub cells_of : ℕ → (ℕ → ℤ) → List ℤ
cells_of count value_of = map value_of (range_with_len 0 count)

-- `fill`: the value in each cell (this project's)
abbrev pub filled : ℕ → ℤ → List ℤ
filled count value = cells_of count (λ i. value)

-- `ramp`: value + i * step (this project's)
abbrev pub ramped : ℕ → ℤ → ℤ → List ℤ
ramped count value step = cells_of count (λ i. wrapped (value +ℤ (pos i *ℤ step)))

-- `copy`: the cells of the source (this project's)
abbrev pub copied : List ℤ → List ℤ
copied left = left

-- a copy within one list: the cells at `from`, so many, stand at `to` too, and all others as before (this project's)
abbrev pub copied_along : ℕ → ℕ → ℕ → List ℤ → List ℤ
copied_along from to count cells = take to cells ++ (take count (drop from cells) ++ drop (to + count) cells)

-- `add`: left[i] + right[i] (this project's)
abbrev pub added : List ℤ → List ℤ → List ℤ
added left right = cells_of (length left) (λ i. wrapped (cell left i +ℤ cell right i))

-- `sub`: left[i] - right[i] (this project's)
abbrev pub subtracted : List ℤ → List ℤ → List ℤ
subtracted left right = cells_of (length left) (λ i. wrapped (cell left i -ℤ cell right i))

-- `scale`: left[i] * value (this project's)
abbrev pub scaled : List ℤ → ℤ → List ℤ
scaled left value = cells_of (length left) (λ i. wrapped (cell left i *ℤ value))

-- `shift`: left[i] shifted right by so many places, the sign kept (this project's)
abbrev pub shifted : List ℤ → ℕ → List ℤ
shifted left places = cells_of (length left) (λ i. int_shr (cell left i) places)

-- one cell of the stencil: before + 2 * here + after, wrapped, then shifted right by 2, the sign kept (this project's)
abbrev pub stencil_of : ℤ → ℤ → ℤ → ℤ
stencil_of before here after = int_shr (wrapped ((before +ℤ (pos 2 *ℤ here)) +ℤ after)) 2

-- `jacobi2`: the stencil of left[i], left[i + 1] and left[i + 2], 2 cells fewer than the source has (this project's)
abbrev pub jacobi : List ℤ → List ℤ
jacobi left = cells_of (length left - 2) (λ i. stencil_of (cell left i) (cell left (i + 1)) (cell left (i + 2)))

-- `sum`: the sum of the cells, 0 where there is none (this project's)
abbrev pub total : List ℤ → ℤ
total left = wrapped (fold ◌+ℤ◌ (pos 0) left)

-- the number stands in a cell, and no cell is less (this project's)
pub record IsLeast (left : List ℤ) (number : ℤ) : Type 0 where
  pub found : Contains left number
  pub bound : All (λ x. number ≤ℤ x) left

-- the number stands in a cell, and no cell is greater (this project's)
pub record IsGreatest (left : List ℤ) (number : ℤ) : Type 0 where
  pub found : Contains left number
  pub bound : All (λ x. x ≤ℤ number) left

-- `least`: the least cell, where there is one (this project's)
abbrev pub least_of : List ℤ → ℤ
least_of left = unwrap_or (reduce int_min left) (pos 0)

-- `greatest`: the greatest cell, where there is one (this project's)
abbrev pub greatest_of : List ℤ → ℤ
greatest_of left = unwrap_or (reduce int_max left) (pos 0)
