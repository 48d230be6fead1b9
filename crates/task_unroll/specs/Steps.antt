-- How the unroller walks the flat list of statements. No public clause cites this module.
use Rattle.std.specs.Prelude.{ℕ, ◌+◌, pos, ◌+ℤ◌, int_lt, Bool, true, false, List, [], ◌∷◌, slice_get, Option, Some, None, Result, Ok, if◌then◌else◌}
use Rattle.rt_base.specs.declared.data.Mode.{Mode}
use Rattle.task_tree.specs.declared.tree.SpanText.{SpanText}
use Rattle.task_tree.specs.declared.tree.Stmt.{Stmt}
use Rattle.task_tree.specs.declared.tree.What.{What}
use Rattle.task_tree.specs.declared.tree.What.TheVariants as what
use Rattle.task_tree.specs.Term.{Term}
use Rattle.task_unroll.specs.declared.refusal.ExpandRefusal.{ExpandRefusal}
use Rattle.task_unroll.specs.declared.levels.Turns.{Turns}
use Rattle.task_unroll.specs.declared.levels.Level.{Level}
use Rattle.task_unroll.specs.declared.levels.Level.TheVariants as level
use Rattle.task_unroll.specs.Unrolling.{◌>>=◌}
use Rattle.task_unroll.specs.States.{State}
use Rattle.task_unroll.specs.Counting.{stepped}
use Rattle.task_unroll.specs.Acts.{with_variable, task_begun, access_made, task_ended}
use Rattle.task_unroll.specs.Blocks.{act, bounds, holds}
use Rattle.task_unroll.specs.Ends.{close_of}

-- where the walk stands: the state, the place of the next statement, and the levels that are open, the innermost first
pub record Spot : Type 0 where
  pub state : State
  pub place : ℕ
  pub levels : List Level

-- the spot of a state, a place and the levels
abbrev pub spot : State → ℕ → List Level → Spot
spot state place levels = record { state = state; place = place; levels = levels }

-- the variable of a `for`
abbrev pub variable_in : What → Option (List ℕ)
variable_in (what.For name from to) = Some name
variable_in _ = None

-- the variable of the statement, where it is a `for`
abbrev pub variable_of : Option Stmt → Option (List ℕ)
variable_of None = None
variable_of (Some s) = variable_in s.what

-- the statement is an `else`
abbrev pub is_else : What → Bool
is_else what.Else = true
is_else _ = false

-- a statement stands there, and it is an `else`
abbrev pub parts : Option Stmt → Bool
parts None = false
parts (Some s) = is_else s.what

-- a turn of a `for` where it has one more, and else on to this place
unfoldable pub turn : List ℕ → Turns → ℕ → Spot → Result Spot ExpandRefusal
turn name t behind w =
    if int_lt t.next t.to
    then (stepped w.state >>= λ s. Ok (spot (with_variable name t.next s) (t.at + 1) (level.Turns (record t { next = t.next +ℤ pos 1 }) ∷ w.levels)))
    else Ok (record w { place = behind })

-- `for`
unfoldable pub loop_met : ℕ → ℕ → List ℕ → Term → Term → Spot → Result Spot ExpandRefusal
loop_met end line name from to w =
    bounds line name from to w.state >>= λ b. turn name (record { at = w.place; next = b.1.0; to = b.1.1 }) (end + 1) (record w { state = b.0 })

-- into the branch behind an `if`, or to what stands behind the end of that branch: an `else` begins another
unfoldable pub branch : List Stmt → ℕ → Bool → Spot → Spot
branch stmts end true w = record w { place = w.place + 1; levels = level.Branch ∷ w.levels }
branch stmts end false w = record w { place = end + 1; levels = if parts (slice_get stmts end) then level.Branch ∷ w.levels else w.levels }

-- `if`
unfoldable pub test_met : List Stmt → ℕ → Term → ℕ → Spot → Result Spot ExpandRefusal
test_met stmts line test end w = holds line test w.state >>= λ h. Ok (branch stmts end h.1 (record w { state = h.0 }))

-- the levels round the innermost
abbrev pub outer : List Level → List Level
outer [] = []
outer (one ∷ levels) = levels

-- `else`: the branch before it was taken, so the one behind it is not
unfoldable pub branch_left : ℕ → Spot → Spot
branch_left end w = record w { place = end + 1; levels = outer w.levels }

-- the end of a turn of the `for` with this variable
abbrev pub turn_or_on : Option (List ℕ) → Turns → Spot → Result Spot ExpandRefusal
turn_or_on None t w = Ok (record w { place = w.place + 1 })
turn_or_on (Some name) t w = turn name t (w.place + 1) w

-- the end of a turn of the `for` that stands where the turns say
unfoldable pub turn_ended : List Stmt → Turns → Spot → Result Spot ExpandRefusal
turn_ended stmts t w = turn_or_on (variable_of (slice_get stmts t.at)) t w

-- `end` of the innermost level
abbrev pub level_ended : List Stmt → List Level → Spot → Result Spot ExpandRefusal
level_ended stmts [] w = Ok (record w { place = w.place + 1 })
level_ended stmts (level.Turns t ∷ levels) w = turn_ended stmts t (record w { levels = levels })
level_ended stmts (level.Branch ∷ levels) w = Ok (record w { place = w.place + 1; levels = levels })
level_ended stmts (level.Task line ∷ levels) w = task_ended line w.state >>= λ s. Ok (spot s (w.place + 1) levels)

-- `end`
unfoldable pub block_ended : List Stmt → Spot → Result Spot ExpandRefusal
block_ended stmts w = level_ended stmts w.levels w

-- `task`
unfoldable pub task_met : ℕ → Spot → Result Spot ExpandRefusal
task_met line w = task_begun line w.state >>= λ s. Ok (spot s (w.place + 1) (level.Task line ∷ w.levels))

-- a statement that leads to the next one: an access line
unfoldable pub access_met : ℕ → Mode → SpanText → Spot → Result Spot ExpandRefusal
access_met line mode span w = access_made line mode span w.state >>= λ s. Ok (record w { state = s; place = w.place + 1 })

-- a statement that leads to the next one: one that is a line by itself
unfoldable pub line_met : ℕ → What → Spot → Result Spot ExpandRefusal
line_met line said w = act line said w.state >>= λ s. Ok (record w { state = s; place = w.place + 1 })

-- one statement. The block behind it ends at this place
unfoldable pub step_to : List Stmt → ℕ → ℕ → What → Spot → Result Spot ExpandRefusal
step_to stmts end line (what.For name from to) w = loop_met end line name from to w
step_to stmts end line (what.If test) w = test_met stmts line test end w
step_to stmts end line what.Else w = Ok (branch_left end w)
step_to stmts end line what.End w = block_ended stmts w
step_to stmts end line what.Task w = task_met line w
step_to stmts end line (what.Touch mode span) w = access_met line mode span w
step_to stmts end line said w = line_met line said w

-- one statement
unfoldable pub step : List Stmt → ℕ → What → Spot → Result Spot ExpandRefusal
step stmts line said w = step_to stmts (close_of stmts (w.place + 1)) line said w
