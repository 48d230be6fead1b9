-- The limits, which are this project's own: each is met at the statement that would make its quantity greater than its number.
use Rattle.std.specs.Prelude.{ℕ, ◌+◌, nat_le, length, Result, Ok, Err, ⊤, if◌then◌else◌}
use Rattle.rt_base.specs.declared.data.LimitName.{LimitName}
use Rattle.rt_base.specs.declared.data.LimitName.TheVariants as limit
use Rattle.rt_base.specs.Limits.{most}
use Rattle.task_unroll.specs.declared.refusal.ExpandRefusal.{ExpandRefusal}
use Rattle.task_unroll.specs.declared.refusal.ExpandRefusal.TheVariants as refusal
use Rattle.task_unroll.specs.Unrolling.{◌>>=◌}
use Rattle.task_unroll.specs.States.{Counts, State}

-- the count, where it keeps the limit
unfoldable pub kept : LimitName → ℕ → Result ℕ ExpandRefusal
kept which count = if nat_le count (most which) then Ok count else Err (refusal.Limit which)

-- one more statement is executed, or one more turn of a `for` begins
unfoldable pub stepped : State → Result State ExpandRefusal
stepped s = kept limit.Steps (s.counts.steps + 1) >>= λ n. Ok (record s { counts = record s.counts { steps = n } })

-- one more operation, with so many requests and so many handles
unfoldable pub operated : ℕ → ℕ → State → Result State ExpandRefusal
operated requests handles s = do
  t ← stepped s
  a ← kept limit.Operations (t.counts.operations + 1)
  b ← kept limit.Requests (t.counts.requests + requests)
  c ← kept limit.Names (t.counts.handles + handles)
  Ok (record t { counts = record t.counts { operations = a; requests = b; handles = c } })
