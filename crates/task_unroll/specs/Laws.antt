-- What follows from the definition of unrolling.
use Rattle.std.specs.Prelude.{◌≡◌, ℕ, suc, ◌≤◌, Ok}
use Rattle.rt_base.specs.declared.data.Program.{Program}
use Rattle.rt_base.specs.WellFormed.{WellFormed}
use Rattle.task_tree.specs.Blocks.{Block, Nested, Place as place}
use Rattle.task_unroll.specs.Ranks.{program}

-- the program of a text is well formed, for 1 to 64 ranks and an eager limit of at most 16,777,216 cells, where each statement of the text
-- stands where it may. So arrays and communicators are made outside every block, and each rank makes the same ones
abbrev pub UnrolledIsWellFormed : Type 0
UnrolledIsWellFormed =
    (whole : Block) (depth more eager : ℕ) (result : Program) → Nested depth place.Top whole → suc more ≤ 64 → eager ≤ 16777216
    → program whole more eager ≡ Ok result → WellFormed result
