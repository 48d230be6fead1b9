-- What a task's local operations do to its copy, and where it stands after them.
use Rattle.std.specs.Prelude.{ℕ, ◌+◌, List, [], ◌∷◌, drop, ℤ, pos, negsuc, Option, Some, None, if◌then◌else◌}
use Rattle.block_kernels.specs.Kernels.{filled, ramped, copied, added, subtracted, scaled, shifted, jacobi, total, least_of, greatest_of}
use Rattle.rt_base.specs.declared.data.Span.{Span}
use Rattle.rt_base.specs.declared.data.Kernel.{Kernel}
use Rattle.rt_base.specs.declared.data.Kernel.TheVariants as kernel
use Rattle.rt_base.specs.declared.data.Op.{Op}
use Rattle.rt_base.specs.declared.data.Phase.{Phase}
use Rattle.rt_base.specs.declared.data.Phase.TheVariants as phase
use Rattle.rt_base.specs.declared.data.TaskDef.{TaskDef}
use Rattle.rt_base.specs.Spans.{span_len}
use Rattle.rt_base.specs.Operations.{kernel_parts, is_local, given}
use Rattle.task_local.specs.Regions.{cells_of_span, put}

-- a number that isn't negative, as a count of places
abbrev pub places_of : ℤ → ℕ
places_of (pos n) = n
places_of (negsuc n) = 0

-- the new cells of the destination, so many, from the cells of the sources and the kernel's two numbers (this project's table of kernels)
unfoldable pub kernel_value : Kernel → ℕ → List ℤ → List ℤ → ℤ → ℤ → List ℤ
kernel_value kernel.Fill count left right value step = filled count value
kernel_value kernel.Ramp count left right value step = ramped count value step
kernel_value kernel.Copy count left right value step = copied left
kernel_value kernel.Add count left right value step = added left right
kernel_value kernel.Sub count left right value step = subtracted left right
kernel_value kernel.Scale count left right value step = scaled left value
kernel_value kernel.Shift count left right value step = shifted left (places_of value)
kernel_value kernel.Jacobi2 count left right value step = jacobi left
kernel_value kernel.Sum count left right value step = total left ∷ []
kernel_value kernel.Least count left right value step = least_of left ∷ []
kernel_value kernel.Greatest count left right value step = greatest_of left ∷ []

-- the cells of the copy in a source, none where the kernel has no such source
abbrev pub source_cells : TaskDef → List ℤ → Option Span → List ℤ
source_cells task copy None = []
source_cells task copy (Some span) = cells_of_span task span copy

-- the copy after a local operation: all sources are read before a cell is written
abbrev pub computed : TaskDef → Op → List ℤ → List ℤ
computed task operation copy =
    given copy
    (λ parts. put task parts.dst
    (kernel_value parts.kernel (span_len parts.dst) (source_cells task copy parts.left) (source_cells task copy parts.right) parts.value parts.step) copy)
    (kernel_parts operation)

-- the copy after the local operations at the front of these have run
abbrev pub run_front : TaskDef → List Op → List ℤ → List ℤ
run_front task [] copy = copy
run_front task (operation ∷ ops) copy = if is_local operation then run_front task ops (computed task operation copy) else copy

-- where a task stands after the local operations at the front of these, of which the first is operation k
abbrev pub stop_at : ℕ → List Op → Phase
stop_at k [] = phase.Ended
stop_at k (operation ∷ ops) = if is_local operation then stop_at (k + 1) ops else phase.At k

-- the copy after the local operations from operation k on have run, up to the first other operation or the end of the body
unfoldable pub advanced : TaskDef → ℕ → List ℤ → List ℤ
advanced task k copy = run_front task (drop k task.body.items) copy

-- where the task stands then
unfoldable pub stop : TaskDef → ℕ → Phase
stop task k = stop_at k (drop k task.body.items)
