-- The text of the blocked heat solver (this project's).
use Rattle.std.specs.Prelude.{ℕ, ◌+◌, ◌*◌, ◌==◌, List, [], ◌∷◌, ◌++◌, codes, Option, Some, None, if◌then◌else◌}
use Rattle.std.specs.List.{flat_map}
use Rattle.std.specs.Fmt.{decimal}
use Rattle.heat_text.specs.declared.text.Sizes.{Sizes}

-- the cells of all blocks of a rank
abbrev pub rank_cells : Sizes → ℕ
rank_cells sizes = sizes.blocks * sizes.cells

-- these, and one cell more at each end
abbrev pub all_cells : Sizes → ℕ
all_cells sizes = rank_cells sizes + 2

-- bytes, and LF
abbrev pub line : List ℕ → List ℕ
line bytes = bytes ++ 10 ∷ []

-- the lines of the text, in which B stands for the blocks of a rank, C for the cells of a block, L for the cells of all blocks of a rank, N for these
-- and one more at each end, S for the seed, and T for the steps
abbrev pub lines : List (List ℕ)
lines =
    codes "array u, N" ∷
    codes "array v, N" ∷
    codes "array s, 3" ∷
    codes "show s" ∷
    codes "for b = 0 .. B" ∷
    codes "task" ∷
    codes "out u[1 + b * C .. 1 + b * C + C]" ∷
    codes "do" ∷
    codes "ramp u[1 + b * C .. 1 + b * C + C], S + 1000 * rank + 100 * b, 4" ∷
    codes "end" ∷
    codes "end" ∷
    codes "for t = 0 .. T" ∷
    codes "if rank > 0" ∷
    codes "task" ∷
    codes "in u[1 .. 2]" ∷
    codes "do" ∷
    codes "isend q, u[1 .. 2], rank - 1, 0" ∷
    codes "iwait q" ∷
    codes "end" ∷
    codes "task" ∷
    codes "out u[0 .. 1]" ∷
    codes "do" ∷
    codes "irecv q, u[0 .. 1], rank - 1, 1" ∷
    codes "iwait q" ∷
    codes "end" ∷
    codes "end" ∷
    codes "if rank < size - 1" ∷
    codes "task" ∷
    codes "in u[L .. L + 1]" ∷
    codes "do" ∷
    codes "send u[L .. L + 1], rank + 1, 1" ∷
    codes "end" ∷
    codes "task" ∷
    codes "out u[L + 1 .. L + 2]" ∷
    codes "do" ∷
    codes "recv u[L + 1 .. L + 2], rank + 1, 0" ∷
    codes "end" ∷
    codes "end" ∷
    codes "for b = 0 .. B" ∷
    codes "task" ∷
    codes "in u[b * C .. b * C + C + 2]" ∷
    codes "out v[1 + b * C .. 1 + b * C + C]" ∷
    codes "do" ∷
    codes "jacobi2 v[1 + b * C .. 1 + b * C + C], u[b * C .. b * C + C + 2]" ∷
    codes "end" ∷
    codes "end" ∷
    codes "for b = 0 .. B" ∷
    codes "task" ∷
    codes "in v[1 + b * C .. 1 + b * C + C]" ∷
    codes "out u[1 + b * C .. 1 + b * C + C]" ∷
    codes "do" ∷
    codes "copy u[1 + b * C .. 1 + b * C + C], v[1 + b * C .. 1 + b * C + C]" ∷
    codes "end" ∷
    codes "end" ∷
    codes "end" ∷
    codes "task" ∷
    codes "in u[1 .. L + 1]" ∷
    codes "out s[0 .. 3]" ∷
    codes "do" ∷
    codes "sum s[0 .. 1], u[1 .. L + 1]" ∷
    codes "least s[1 .. 2], u[1 .. L + 1]" ∷
    codes "greatest s[2 .. 3], u[1 .. L + 1]" ∷
    codes "end" ∷ []

-- the text with these letters
unfoldable pub template : List ℕ
template = flat_map line lines

-- the number that a letter of the template stands for: B, C, L, N, S or T
abbrev pub number_at : Sizes → ℕ → Option ℕ
number_at sizes letter =
    if letter == 66 then Some sizes.blocks
    else if letter == 67 then Some sizes.cells
    else if letter == 76 then Some (rank_cells sizes)
    else if letter == 78 then Some (all_cells sizes)
    else if letter == 83 then Some sizes.seed
    else if letter == 84 then Some sizes.steps
    else None

-- what a number is written as, and every other letter is itself
abbrev pub number_or_letter : Option ℕ → ℕ → List ℕ
number_or_letter (Some number) letter = decimal number
number_or_letter None letter = letter ∷ []

-- what a letter of the template is written as
abbrev pub written : Sizes → ℕ → List ℕ
written sizes letter = number_or_letter (number_at sizes letter) letter

-- the text of the heat solver with so many blocks of a rank, cells of a block and steps, and with this seed
abbrev pub heat_text : ℕ → ℕ → ℕ → ℕ → List ℕ
heat_text blocks cells steps seed = flat_map (written (record { blocks = blocks; cells = cells; steps = steps; seed = seed })) template
