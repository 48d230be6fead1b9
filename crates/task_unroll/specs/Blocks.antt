-- Unrolling the blocks of a text for one rank: each statement in turn, and a block for each of its turns (this project's).
use Rattle.std.specs.Prelude.{ℕ, zero, suc, ◌+◌, ℤ, pos, negsuc, ◌+ℤ◌, ◌-ℤ◌, Bool, true, false, not, List, [], ◌∷◌, Result, Ok, Err, if◌then◌else◌}
use Rattle.task_tree.specs.Term.{Term}
use Rattle.task_tree.specs.Blocks.{Block, Block as block, AccessLine}
use Rattle.task_tree.specs.declared.tree.What.{What}
use Rattle.task_tree.specs.declared.tree.What.TheVariants as what
use Rattle.task_names.specs.Scopes.{meaning_of, may_be_set}
use Rattle.task_names.specs.Values.{value, is_zero}
use Rattle.task_unroll.specs.declared.refusal.ExpandRefusal.{ExpandRefusal}
use Rattle.task_unroll.specs.Unrolling.{◌>>=◌, at}
use Rattle.task_unroll.specs.States.{State, scene}
use Rattle.task_unroll.specs.Counting.{stepped}
use Rattle.task_unroll.specs.Acts.{array_made, shown, comm_made, with_variable, variable_set, taskwait_met, task_begun, access_made, kernel_done}
use Rattle.task_unroll.specs.Acts.{call_done, wait_done, task_ended}

-- what a statement does that is a line by itself
abbrev pub act : ℕ → What → State → Result State ExpandRefusal
act line (what.Array name len) s = array_made line name len s
act line (what.Show name) s = shown line name s
act line (what.Comm name) s = comm_made line name s
act line (what.Let name e) s = variable_set line name e s
act line (what.For name from to) s = Ok s
act line (what.If test) s = Ok s
act line what.Else s = Ok s
act line what.End s = Ok s
act line what.Taskwait s = taskwait_met s
act line what.Task s = Ok s
act line (what.Touch mode span) s = Ok s
act line what.Do s = Ok s
act line (what.Kern kind spans values) s = kernel_done line kind spans.items values.items s
act line (what.Posting how handle span peer tag comm status) s = call_done line how handle span peer tag comm status s
act line (what.Waiting later handles status) s = wait_done line later handles.items status s

-- the access lines of a task, in order
abbrev pub accesses_made : List AccessLine → State → Result State ExpandRefusal
accesses_made [] s = Ok s
accesses_made (access ∷ more) s = access_made access.line access.mode access.span s >>= accesses_made more

-- how many turns a `for` has: it knows them as it begins
abbrev pub turns_of : ℤ → ℕ
turns_of (pos n) = n
turns_of (negsuc n) = 0

-- so many turns, the first with this value of the variable
abbrev pub turns : (State → Result State ExpandRefusal) → List ℕ → ℤ → ℕ → State → Result State ExpandRefusal
turns body name x zero s = Ok s
turns body name x (suc n) s = stepped s >>= λ t. body (with_variable name x t) >>= turns body name (x +ℤ pos 1) n

-- both bounds of a `for`, evaluated once
unfoldable pub bounds : ℕ → List ℕ → Term → Term → State → Result (State × (ℤ × ℤ)) ExpandRefusal
bounds line name from to s = do
  t ← stepped s
  free ← at line (may_be_set (meaning_of t.names name))
  x ← at line (value (scene t) from)
  y ← at line (value (scene t) to)
  Ok (t, (x, y))

-- whether the value of an `if` isn't 0
unfoldable pub holds : ℕ → Term → State → Result (State × Bool) ExpandRefusal
holds line test s = do
  t ← stepped s
  x ← at line (value (scene t) test)
  Ok (t, not (is_zero x))

-- what a text in blocks does to a rank
abbrev pub unrolled : Block → State → Result State ExpandRefusal
unrolled block.Done s = Ok s
unrolled (block.Plain line said plain rest) s = act line said s >>= unrolled rest
unrolled (block.Loop line name from to body last rest) s =
    bounds line name from to s >>= λ b. turns (unrolled body) name b.1.0 (turns_of (b.1.1 -ℤ b.1.0)) b.0 >>= unrolled rest
unrolled (block.When line test body last rest) s =
    holds line test s >>= λ h. (if h.1 then unrolled body h.0 else Ok h.0) >>= unrolled rest
unrolled (block.Choice line test body middle other last rest) s =
    holds line test s >>= λ h. (if h.1 then unrolled body h.0 else unrolled other h.0) >>= unrolled rest
unrolled (block.Work line accesses middle body last rest) s =
    task_begun line s >>= λ t. accesses_made accesses t >>= λ u. unrolled body u >>= λ v. task_ended line v >>= unrolled rest
