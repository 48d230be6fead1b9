-- What is left to do where the walk stands, in blocks.
use Rattle.std.proofs.Common.{◌≡◌, ℕ, ◌+◌, ℤ, ◌-ℤ◌, List, [], ◌∷◌, ◌++◌, map, drop, slice_get, Some, Result, Ok, Err}
use Rattle.task_tree.specs.declared.tree.Stmt.{Stmt}
use Rattle.task_tree.specs.declared.tree.What.TheVariants as what
use Rattle.task_tree.specs.Blocks.{Block, AccessLine, stmt, access_stmt, written}
use Rattle.task_unroll.specs.declared.refusal.ExpandRefusal.{ExpandRefusal}
use Rattle.task_unroll.specs.declared.levels.Level.{Level}
use Rattle.task_unroll.specs.declared.levels.Level.TheVariants as level
use Rattle.task_unroll.specs.Unrolling.{◌>>=◌}
use Rattle.task_unroll.specs.States.{State}
use Rattle.task_unroll.specs.Acts.{task_ended}
use Rattle.task_unroll.specs.Blocks.{accesses_made, turns_of, turns, unrolled}
use Rattle.task_unroll.specs.Steps.{Spot, variable_of}

-- what stands next in the innermost block: blocks, or the access lines of a task, its `do` and its body
pub data Ahead : Type 0 where
  Text : Block → Ahead
  Lines : List AccessLine → ℕ → Block → Ahead

abbrev pub written_ahead : Ahead → List Stmt
written_ahead (Text b) = written b
written_ahead (Lines accesses middle body) = map access_stmt accesses ++ (stmt middle what.Do ∷ written body)

abbrev pub done_ahead : Ahead → State → Result State ExpandRefusal
done_ahead (Text b) s = unrolled b s
done_ahead (Lines accesses middle body) s = accesses_made accesses s >>= unrolled body

-- an open block with what is left of it: the further turns of a `for`, the first branch of an `if` that has an `else`, its last branch, a task
pub data Frame : Type 0 where
  Turning : (first : ℕ) (name : List ℕ) (x to : ℤ) (body : Block) (last : ℕ) (rest : Block) → Frame
  First : (middle : ℕ) (other : Block) (last : ℕ) (rest : Block) → Frame
  Last : (last : ℕ) (rest : Block) → Frame
  Working : (line last : ℕ) (rest : Block) → Frame

-- the statements behind the innermost block
abbrev pub tail : List Frame → List Stmt
tail [] = []
tail (Turning first name x to body last rest ∷ frames) = stmt last what.End ∷ (written rest ++ tail frames)
tail (First middle other last rest ∷ frames) = stmt middle what.Else ∷ (written other ++ (stmt last what.End ∷ (written rest ++ tail frames)))
tail (Last last rest ∷ frames) = stmt last what.End ∷ (written rest ++ tail frames)
tail (Working line last rest ∷ frames) = stmt last what.End ∷ (written rest ++ tail frames)

-- what is done behind the innermost block
abbrev pub after : List Frame → State → Result State ExpandRefusal
after [] s = Ok s
after (Turning first name x to body last rest ∷ frames) s = turns (unrolled body) name x (turns_of (to -ℤ x)) s >>= (λ t. unrolled rest t >>= after frames)
after (First middle other last rest ∷ frames) s = unrolled rest s >>= after frames
after (Last last rest ∷ frames) s = unrolled rest s >>= after frames
after (Working line last rest ∷ frames) s = task_ended line s >>= (λ t. unrolled rest t >>= after frames)

abbrev pub level_of : Frame → Level
level_of (Turning first name x to body last rest) = level.Turns (record { at = first; next = x; to = to })
level_of (First middle other last rest) = level.Branch
level_of (Last last rest) = level.Branch
level_of (Working line last rest) = level.Task line

-- the `for` of each turn that is under way stands where its level says, before its body
pub record IsSet (stmts : List Stmt) (first : ℕ) (name : List ℕ) (body : Block) (more : List Stmt) : Type 0 where
  pub variable : variable_of (slice_get stmts first) ≡ Some name
  pub text : drop (first + 1) stmts ≡ written body ++ more

abbrev pub AreSet : List Stmt → List Frame → Type 0
AreSet stmts [] = Unit {0}
AreSet stmts (Turning first name x to body last rest ∷ frames) = IsSet stmts first name body (stmt last what.End ∷ (written rest ++ tail frames))
    × AreSet stmts frames
AreSet stmts (First middle other last rest ∷ frames) = AreSet stmts frames
AreSet stmts (Last last rest ∷ frames) = AreSet stmts frames
AreSet stmts (Working line last rest ∷ frames) = AreSet stmts frames

-- the walk stands before these blocks, within these open ones, and what is left to do there comes to this result
pub record IsHere (stmts : List Stmt) (w : Spot) (due : Result State ExpandRefusal) (ahead : Ahead) (frames : List Frame) : Type 0 where
  pub text : drop w.place stmts ≡ written_ahead ahead ++ tail frames
  pub levels : w.levels ≡ map level_of frames
  pub set : AreSet stmts frames
  pub due_is : due ≡ (done_ahead ahead w.state >>= after frames)

-- what is left to do where the walk stands comes to this result
abbrev pub IsAt : List Stmt → Spot → Result State ExpandRefusal → Type 0
IsAt stmts w due = (ahead : Ahead) × (frames : List Frame) × IsHere stmts w due ahead frames

-- a step refuses where that is the result, or leads where the same is due
abbrev pub Agrees : List Stmt → Result Spot ExpandRefusal → Result State ExpandRefusal → Type 0
Agrees stmts (Ok w) due = IsAt stmts w due
Agrees stmts (Err e) due = due ≡ Err e
