-- The blocks that are open between two lines, innermost first. No public clause cites this module.
use Rattle.std.specs.Prelude.{ℕ, Bool, true, false, List, [], ◌∷◌, ◌||◌, ◌&&◌, length, nat_le, nat_lt, Result, Ok, Err, if◌then◌else◌}
use Rattle.rt_base.specs.declared.data.FaultKind.{FaultKind}
use Rattle.rt_base.specs.declared.data.FaultKind.TheVariants as fault
use Rattle.task_tree.specs.declared.tree.What.{What}
use Rattle.task_tree.specs.declared.tree.What.TheVariants as what
use Rattle.task_tree.specs.declared.tree.Stmt.{Stmt}
use Rattle.task_tree.specs.Reading.{◌>>=◌}
use Rattle.task_tree.specs.Blocks.{Place, Top, Body, within, stands, is_main}
use Rattle.task_parse.specs.declared.block.OpenBlock.{OpenBlock}
use Rattle.task_parse.specs.declared.block.OpenBlock.TheVariants as block
use Rattle.task_parse.specs.Trees.{opens}

-- where the next statement stands; in the head of a task no place is asked for
abbrev pub spot : List OpenBlock → Place
spot [] = Top
spot (block.Loop ∷ around) = within (spot around)
spot (block.When ∷ around) = within (spot around)
spot (block.Otherwise ∷ around) = within (spot around)
spot (block.Head ∷ around) = Body
spot (block.Body ∷ around) = Body

-- the innermost block is the head of a task, before its `do`
abbrev pub is_head : List OpenBlock → Bool
is_head [] = false
is_head (block.Loop ∷ around) = false
is_head (block.When ∷ around) = false
is_head (block.Otherwise ∷ around) = false
is_head (block.Head ∷ around) = true
is_head (block.Body ∷ around) = false

-- a task, before or behind its `do`
abbrev pub is_task : OpenBlock → Bool
is_task block.Loop = false
is_task block.When = false
is_task block.Otherwise = false
is_task block.Head = true
is_task block.Body = true

-- a block more; in the head of a task none may stand
abbrev pub opened : OpenBlock → List OpenBlock → Result (List OpenBlock) FaultKind
opened inner blocks = if is_head blocks then Err fault.Place else Ok (inner ∷ blocks)

-- a task stands in the main text alone
abbrev pub with_task : List OpenBlock → Result (List OpenBlock) FaultKind
with_task blocks = if is_main (spot blocks) then Ok (block.Head ∷ blocks) else Err fault.Place

-- `else`
abbrev pub parted : List OpenBlock → Result (List OpenBlock) FaultKind
parted (block.When ∷ around) = Ok (block.Otherwise ∷ around)
parted other = Err fault.Place

-- `end`
abbrev pub ended : List OpenBlock → Result (List OpenBlock) FaultKind
ended [] = Err fault.Place
ended (block.Head ∷ around) = Err fault.Place
ended (other ∷ around) = Ok around

-- an access line
abbrev pub accessed : List OpenBlock → Result (List OpenBlock) FaultKind
accessed blocks = if is_head blocks then Ok blocks else Err fault.Place

-- `do`
abbrev pub begun : List OpenBlock → Result (List OpenBlock) FaultKind
begun (block.Head ∷ around) = Ok (block.Body ∷ around)
begun other = Err fault.Place

-- a line by itself
abbrev pub passed : What → List OpenBlock → Result (List OpenBlock) FaultKind
passed said blocks = if is_head blocks then Err fault.Place else (if stands (spot blocks) said then Ok blocks else Err fault.Place)

-- the blocks that are open behind a statement that may stand here
abbrev pub placed : What → List OpenBlock → Result (List OpenBlock) FaultKind
placed (what.For name from to) blocks = opened block.Loop blocks
placed (what.If test) blocks = opened block.When blocks
placed what.Else blocks = parted blocks
placed what.End blocks = ended blocks
placed what.Task blocks = with_task blocks
placed (what.Touch mode span) blocks = accessed blocks
placed what.Do blocks = begun blocks
placed other blocks = passed other blocks

-- a line of this depth is too deep
abbrev pub is_too_deep : ℕ → What → List OpenBlock → Bool
is_too_deep depth said blocks = nat_lt 64 depth || (opens said && nat_le 64 (length blocks))

-- the blocks that are open behind a statement of this depth: `Depth` comes before `Place`
abbrev pub next : ℕ → What → List OpenBlock → Result (List OpenBlock) FaultKind
next depth said blocks = if is_too_deep depth said blocks then Err fault.Depth else placed said blocks

-- the blocks that are open behind statements
abbrev pub run : List OpenBlock → List Stmt → Result (List OpenBlock) FaultKind
run blocks [] = Ok blocks
run blocks (s ∷ stmts) = next 0 s.what blocks >>= λ behind. run behind stmts
