-- Where the cells of all arrays of all ranks lie in one list.
use Rattle.std.specs.Prelude.{ℕ, ◌+◌, ◌*◌, List, [], ◌∷◌, length, take, sum, slice_index}
use Rattle.rt_base.specs.declared.data.Program.{Program}

-- how many arrays each rank has (this project's)
abbrev pub array_count : Program → ℕ
array_count program = length program.names.items

-- the place of an array of a rank in the list of lengths (this project's)
abbrev pub array_place : Program → ℕ → ℕ → ℕ
array_place program rank array = rank * array_count program + array

-- the length of an array of a rank (this project's)
abbrev pub array_len : Program → ℕ → ℕ → ℕ
array_len program rank array = slice_index program.lens.items (array_place program rank array)

-- where a cell lies: behind all cells of the arrays before its own (this project's)
abbrev pub address : Program → ℕ → ℕ → ℕ → ℕ
address program rank array cell = sum (take (array_place program rank array) program.lens.items) + cell

-- how many cells all arrays of all ranks have (this project's)
abbrev pub memory_len : Program → ℕ
memory_len program = sum program.lens.items

-- where each array begins, if arrays of these lengths lie one behind another from this cell on (this project's)
abbrev pub starts_from : ℕ → List ℕ → List ℕ
starts_from cell [] = []
starts_from cell (len ∷ lens) = cell ∷ starts_from (cell + len) lens
