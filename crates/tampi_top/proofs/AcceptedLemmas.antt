-- A text says what its tree says.
use Rattle.std.proofs.Common.{◌≡◌, ℕ, List, Result, Ok, Err, IfOk, inl, inr, subst, sym}
use Rattle.rt_base.specs.declared.data.Program.{Program}
use Rattle.rt_base.specs.WellFormed.{WellFormed}
use Rattle.task_tree.specs.declared.tree.Stmt.{Stmt}
use Rattle.task_tree.specs.Blocks.{Block, Top, written, Nested}
use Rattle.task_parse.specs.Trees.{IsTree, IsReason}
use Rattle.task_parse.specs.declared.refusal.ParseRefusal.{ParseRefusal}
use Rattle.call_words.specs.declared.command.RunOptions.{RunOptions}
use Rattle.tampi_top.specs.declared.accepted.Unaccepted.{Unaccepted}
use Rattle.tampi_top.specs.declared.accepted.Unaccepted.TheVariants as unaccepted
use Rattle.tampi_top.specs.Accepted.{said_by, Unrolls}
use Rattle.tampi_top.specs.Whys.{IsFoundOf, IsFound}

-- the text in blocks is spelled by the text
spelled_by : (text : List ℕ) (stmts : List Stmt) (whole : Block) → IsTree text stmts → written whole ≡ stmts → IsTree text (written whole)
spelled_by text stmts whole tree is = subst (IsTree text) (sym is) tree

found_by : (asked : RunOptions) (text : List ℕ) (whole : Block) (result : Result Program Unaccepted) → IsTree text (written whole) → Nested 64 Top whole
    → IsFoundOf whole asked result → IsFound asked text result
found_by asked text whole (Ok program) spelled nested found = record { whole = whole; spelled = spelled; nested = nested; unrolled = found }
found_by asked text whole (Err (unaccepted.Fault number kind)) spelled nested found =
    inr (record { whole = whole; spelled = spelled; nested = nested; unrolled = found })
found_by asked text whole (Err (unaccepted.Limit which)) spelled nested found = record { whole = whole; spelled = spelled; nested = nested; unrolled = found }
found_by asked text whole (Err unaccepted.Memory) spelled nested found = tt

-- what was found of the tree is found of the text
pub found_from : (asked : RunOptions) (text : List ℕ) (stmts : List Stmt) (result : Result Program Unaccepted) → IsTree text stmts
    → ((whole : Block) → written whole ≡ stmts → IsFoundOf whole asked result) → IsFound asked text result
found_from asked text stmts result tree found =
    let blocks = tree.1 in
    found_by asked text blocks.0 result (spelled_by text stmts blocks.0 tree blocks.1) blocks.2 (found blocks.0 blocks.1)

-- a program of the tree is well formed
pub well_formed_from : (text : List ℕ) (stmts : List Stmt) (result : Result Program Unaccepted) → IsTree text stmts
    → ((whole : Block) → written whole ≡ stmts → Nested 64 Top whole → IfOk result (λ program. WellFormed program))
    → IfOk result (λ program. WellFormed program)
well_formed_from text stmts result tree well = let blocks = tree.1 in well blocks.0 blocks.1 blocks.2
