-- What a text was found to say. No public clause cites this module.
use Rattle.std.specs.Prelude.{◌≡◌, ℕ, List, Result, Ok, Err, ⊤}
use Rattle.rt_base.specs.declared.data.Program.{Program}
use Rattle.task_tree.specs.Blocks.{Block}
use Rattle.task_unroll.specs.declared.refusal.ExpandRefusal.TheVariants as unrolling
use Rattle.call_words.specs.declared.command.RunOptions.{RunOptions}
use Rattle.tampi_top.specs.declared.accepted.Unaccepted.{Unaccepted}
use Rattle.tampi_top.specs.declared.accepted.Unaccepted.TheVariants as unaccepted
use Rattle.tampi_top.specs.Accepted.{said_by, IsProgramText, IsFaultText, IsLimitText}

-- what a text in blocks was found to say; want of memory is free
abbrev pub IsFoundOf : Block → RunOptions → Result Program Unaccepted → Type 0
IsFoundOf whole asked (Ok program) = said_by whole asked ≡ Ok program
IsFoundOf whole asked (Err (unaccepted.Fault number kind)) = said_by whole asked ≡ Err (unrolling.Fault number kind)
IsFoundOf whole asked (Err (unaccepted.Limit which)) = said_by whole asked ≡ Err (unrolling.Limit which)
IsFoundOf whole asked (Err unaccepted.Memory) = ⊤

-- what a text was found to say; want of memory is free
abbrev pub IsFound : RunOptions → List ℕ → Result Program Unaccepted → Type 0
IsFound asked text (Ok program) = IsProgramText asked text program
IsFound asked text (Err (unaccepted.Fault number kind)) = IsFaultText asked text number kind
IsFound asked text (Err (unaccepted.Limit which)) = IsLimitText asked text which
IsFound asked text (Err unaccepted.Memory) = ⊤
