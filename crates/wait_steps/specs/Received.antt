-- When all that a task has bound is received.
use Rattle.std.specs.Prelude.{ℕ, slice_get, Contains}
use Rattle.rt_base.specs.declared.data.TaskDef.{TaskDef}
use Rattle.rt_base.specs.declared.data.Program.{Program}
use Rattle.rt_base.specs.Operations.{named_requests, nth_at}
use Rattle.rt_base.specs.MayMove.{AreComplete}
use Rattle.rt_base.specs.Exchange.{Exchange}
use Rattle.task_local.specs.Waits.{handles_of}
use Rattle.tidy_runs.specs.Tidy.{bindings}

-- what each operation of the task that binds names is complete (TAMPI, TAMPI_Iwait: the release waits for bound requests)
abbrev pub AreReceived : Program → Exchange → ℕ → TaskDef → Type 0
AreReceived program exchange t def =
    (k : ℕ) → Contains (bindings 0 def.body.items) k
    → AreComplete program exchange (named_requests t (handles_of (nth_at def k) (slice_get def.body.items k)))
