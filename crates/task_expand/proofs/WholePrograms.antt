-- What unrolling gives is well formed.
use Rattle.std.proofs.Common.{◌≡◌, ℕ, ◌-◌, ◌≤◌, Ok, arith}
use Rattle.rt_base.specs.declared.data.Program.{Program}
use Rattle.rt_base.specs.WellFormed.{WellFormed}
use Rattle.task_tree.specs.Blocks.{Block, Top, Nested}
use Rattle.task_unroll.specs.Ranks.{program}
use Rattle.task_unroll.proofs.WholeProgram.{all_well_formed}

-- the program that unrolling gives
pub well_formed_of : (whole : Block) (size eager : ℕ) (p : Program) → 1 ≤ size → size ≤ 64 → eager ≤ 16777216 → Nested 64 Top whole
    → program whole (size - 1) eager ≡ Ok p → WellFormed p
well_formed_of whole size eager p some few small nested is = all_well_formed whole 64 (size - 1) eager p nested (omega (arith, some, few)) small is
