-- What a text says: the program that unrolling gives, or the fault or limit that is met first.
use Rattle.std.specs.Prelude.{◌≡◌, ℕ, ◌-◌, List, Result, Ok, Err, ◌⊎◌}
use Rattle.rt_base.specs.declared.data.Program.{Program}
use Rattle.rt_base.specs.declared.data.FaultKind.{FaultKind}
use Rattle.rt_base.specs.declared.data.LimitName.{LimitName}
use Rattle.task_tree.specs.Blocks.{Block, Top, written, Nested}
use Rattle.task_parse.specs.Trees.{IsTree, IsFirstFault}
use Rattle.task_unroll.specs.declared.refusal.ExpandRefusal.{ExpandRefusal}
use Rattle.task_unroll.specs.declared.refusal.ExpandRefusal.TheVariants as unrolling
use Rattle.task_unroll.specs.Ranks.{program}
use Rattle.call_words.specs.declared.command.RunOptions.{RunOptions}

-- what unrolling gives of a text in blocks, for so many ranks and this eager limit
abbrev pub said_by : Block → RunOptions → Result Program ExpandRefusal
said_by whole asked = program whole (asked.ranks - 1) asked.eager

-- the text is one in blocks, of which unrolling gives this (this project's)
pub record Unrolls (asked : RunOptions) (text : List ℕ) (outcome : Result Program ExpandRefusal) : Type 0 where
  pub whole : Block
  pub spelled : IsTree text (written whole)
  pub nested : Nested 64 Top whole
  pub unrolled : said_by whole asked ≡ outcome

-- the text says this program, and meets no fault and no limit
abbrev pub IsProgramText : RunOptions → List ℕ → Program → Type 0
IsProgramText asked text said = Unrolls asked text (Ok said)

-- the first fault of the text as it is read, or else the first that unrolling meets, before every limit
abbrev pub IsFaultText : RunOptions → List ℕ → ℕ → FaultKind → Type 0
IsFaultText asked text number kind = IsFirstFault text number kind ⊎ Unrolls asked text (Err (unrolling.Fault number kind))

-- unrolling meets this limit, before every fault
abbrev pub IsLimitText : RunOptions → List ℕ → LimitName → Type 0
IsLimitText asked text which = Unrolls asked text (Err (unrolling.Limit which))
