-- Where a record stands, what may follow, and what its calls change.
use Rattle.std.specs.Prelude.{◌≡◌, ℕ, ◌+◌, nat_lt, List, [], length, slice_get, ℤ, Option, Some, None, unwrap_or, IsFalse, ◌⊎◌, if◌then◌else◌}
use Rattle.rt_base.specs.declared.data.Op.{Op}
use Rattle.rt_base.specs.declared.data.Phase.{Phase}
use Rattle.rt_base.specs.declared.data.Phase.TheVariants as phase
use Rattle.rt_base.specs.declared.data.TaskDef.{TaskDef}
use Rattle.rt_base.specs.declared.data.Program.{Program}
use Rattle.rt_base.specs.Operations.{is_local}
use Rattle.task_local.specs.declared.standing.At.{At}
use Rattle.task_local.specs.declared.standing.At.TheVariants as at
use Rattle.task_local.specs.Packed.{packed}
use Rattle.task_local.specs.Local.{advanced, stop}
use Rattle.task_local.specs.StandsFor.{Record}

-- a task with no access and no operation
abbrev pub no_task : TaskDef
no_task = record { rank = 0; line = 0; epoch = 0; accesses = record { items = []; room = 0 }; body = record { items = []; room = 0 } }

-- the task of this number, and the empty one where there is none
abbrev pub def_of : Program → ℕ → TaskDef
def_of program t = unwrap_or (slice_get program.tasks.items t) no_task

-- the task of a record
abbrev pub def : Record → TaskDef
def held = def_of held.program held.task

-- how a task stands that is before this operation: at a local one, or at a call
abbrev pub at_operation : ℕ → Option Op → At
at_operation k None = at.Ended
at_operation k (Some operation) = if is_local operation then at.Local else at.Call k

-- how a task in this phase stands
abbrev pub at_phase : TaskDef → Phase → At
at_phase task phase.Waiting = at.Fresh
at_phase task (phase.At k) = at_operation k (slice_get task.body.items k)
at_phase task (phase.In k) = at.In k
at_phase task phase.Ended = at.Ended
at_phase task phase.Returned = at.Returned
at_phase task phase.Released = at.Released

-- the phase of a task that has made the operations before this one
abbrev pub phase_before : TaskDef → ℕ → Phase
phase_before task k = if nat_lt k (length task.body.items) then phase.At k else phase.Ended

-- the operation is there, and isn't a local one
abbrev pub IsCall : Option Op → Type 0
IsCall None = ⊥
IsCall (Some operation) = IsFalse (is_local operation)

-- the task is before a call
abbrev pub IsAtCall : TaskDef → Phase → Type 0
IsAtCall task phase.Waiting = ⊥
IsAtCall task (phase.At k) = IsCall (slice_get task.body.items k)
IsAtCall task (phase.In k) = ⊥
IsAtCall task phase.Ended = ⊥
IsAtCall task phase.Returned = ⊥
IsAtCall task phase.Released = ⊥

-- a phase of a task that a call or a return may bring about from this one
abbrev pub GoesTo : TaskDef → Phase → Phase → Type 0
GoesTo task phase.Waiting next = next ≡ phase_before task 0
GoesTo task (phase.At k) next = IsCall (slice_get task.body.items k) × ((next ≡ phase.In k) ⊎ (next ≡ phase_before task (k + 1)))
GoesTo task (phase.In k) next = next ≡ phase_before task (k + 1)
GoesTo task phase.Ended next = next ≡ phase.Returned
GoesTo task phase.Returned next = next ≡ phase.Released
GoesTo task phase.Released next = ⊥

-- the record after the local operations that come next, if the task is before an operation
abbrev pub moved_on : TaskDef → Phase → Record → Record
moved_on task phase.Waiting held = held
moved_on task (phase.At k) held = record held { phase = stop task k; copy = advanced task k held.copy }
moved_on task (phase.In k) held = held
moved_on task phase.Ended held = held
moved_on task phase.Returned held = held
moved_on task phase.Released held = held

-- the cells that the operation that is next sends
abbrev pub packed_next : TaskDef → Phase → List ℤ → List ℤ
packed_next task phase.Waiting copy = []
packed_next task (phase.At k) copy = packed task k copy
packed_next task (phase.In k) copy = []
packed_next task phase.Ended copy = []
packed_next task phase.Returned copy = []
packed_next task phase.Released copy = []
