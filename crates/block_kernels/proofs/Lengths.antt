-- How many cells each kernel's answer has, and what each cell of a list made by index is.
use Rattle.std.proofs.Common.{◌≡◌, ℕ, ◌-◌, ◌<◌, ℤ, List, length, refl, arith}
use Rattle.std.proofs.lemmas.List.FromFn.{length-map-range_with_len, get_or-map-range_with_len}
use Rattle.block_kernels.specs.Kernels.{cell, cells_of, filled, ramped, copied, added, subtracted, scaled, shifted, jacobi}

-- a list of so many cells has so many
pub length-cells_of : (count : ℕ) (value_of : ℕ → ℤ) → length (cells_of count value_of) ≡ count
length-cells_of count value_of = length-map-range_with_len value_of 0 count

-- and cell i has the value that is asked of it
pub cell-cells_of : (count : ℕ) (value_of : ℕ → ℤ) (i : ℕ) → i < count → cell (cells_of count value_of) i ≡ value_of i
cell-cells_of count value_of i within = get_or-map-range_with_len value_of 0 count i i _ within (omega arith)

-- each answer that is written to a destination has the destination's length
pub length-filled : (count : ℕ) (value : ℤ) → length (filled count value) ≡ count
length-filled count value = length-cells_of count _

pub length-ramped : (count : ℕ) (value step : ℤ) → length (ramped count value step) ≡ count
length-ramped count value step = length-cells_of count _

pub length-copied : (left : List ℤ) → length (copied left) ≡ length left
length-copied left = refl

pub length-added : (left right : List ℤ) → length (added left right) ≡ length left
length-added left right = length-cells_of (length left) _

pub length-subtracted : (left right : List ℤ) → length (subtracted left right) ≡ length left
length-subtracted left right = length-cells_of (length left) _

pub length-scaled : (left : List ℤ) (value : ℤ) → length (scaled left value) ≡ length left
length-scaled left value = length-cells_of (length left) _

pub length-shifted : (left : List ℤ) (places : ℕ) → length (shifted left places) ≡ length left
length-shifted left places = length-cells_of (length left) _

pub length-jacobi : (left : List ℤ) → length (jacobi left) ≡ length left - 2
length-jacobi left = length-cells_of (length left - 2) _
