-- What the operands of a local operation give its kernel.
use Rattle.std.proofs.Common.{◌≡◌, ℕ, ◌+◌, ◌<◌, ℤ, List, take, drop, Option, Some, None, ap, ◌∙◌, refl}
use Rattle.rt_base.specs.declared.data.Span.{Span}
use Rattle.rt_base.specs.declared.data.Kernel.{Kernel}
use Rattle.rt_base.specs.declared.data.Kernel.TheVariants as kernel
use Rattle.rt_base.specs.declared.data.Op.TheVariants as op
use Rattle.rt_base.specs.declared.data.TaskDef.{TaskDef}
use Rattle.rt_base.specs.Spans.{span_len}
use Rattle.rt_base.specs.WellFormed.{IsKernelCall, OneSource, TwoSources}
use Rattle.task_local.specs.declared.index.Region.{Region}
use Rattle.task_local.specs.Regions.{regions, put, spliced}
use Rattle.task_local.specs.Local.{kernel_value, source_cells, computed}
use Rattle.task_local.specs.Kept.{TakesCells, source_len, source_in, place_in}
use Rattle.task_local.proofs.Places.{place_in-regions}
use Rattle.task_local.proofs.Copies.{put_is_spliced}

one_length : (Fact : ℕ → Type 0) (left right : Option Span) → OneSource (λ a. Fact (span_len a)) left right → Fact (source_len left)
one_length Fact None right h = absurd h
one_length Fact (Some a) None h = h
one_length Fact (Some a) (Some b) h = absurd h

two_lengths : (count : ℕ) (left right : Option Span) → TwoSources (λ a b. (span_len a ≡ count) × (span_len b ≡ count)) left right
    → (source_len left ≡ count) × (source_len right ≡ count)
two_lengths count None right h = absurd h
two_lengths count (Some a) None h = absurd h
two_lengths count (Some a) (Some b) h = h

-- the lengths of the sources are those that the kernel takes
pub takes_cells : (kind : Kernel) (dst : Span) (left right : Option Span) (value : ℤ) → IsKernelCall kind dst left right value
    → TakesCells kind (span_len dst) (source_len left) (source_len right) value
takes_cells kernel.Fill dst left right value h = tt
takes_cells kernel.Ramp dst left right value h = tt
takes_cells kernel.Copy dst left right value h = one_length (λ n. n ≡ span_len dst) left right h
takes_cells kernel.Add dst left right value h = two_lengths (span_len dst) left right h
takes_cells kernel.Sub dst left right value h = two_lengths (span_len dst) left right h
takes_cells kernel.Scale dst left right value h = one_length (λ n. n ≡ span_len dst) left right h
takes_cells kernel.Shift dst left right value h = (one_length (λ n. n ≡ span_len dst) left right h.0, h.1, h.2)
takes_cells kernel.Jacobi2 dst left right value h = one_length (λ n. n ≡ span_len dst + 2) left right h
takes_cells kernel.Sum dst left right value h = one_length (λ n. span_len dst ≡ 1) left right h
takes_cells kernel.Least dst left right value h = one_length (λ n. (span_len dst ≡ 1) × (0 < n)) left right h
takes_cells kernel.Greatest dst left right value h = one_length (λ n. (span_len dst ≡ 1) × (0 < n)) left right h

-- the cells of a source, found by the regions in order
pub source_is : (task : TaskDef) (ordered : List Region) (copy : List ℤ) (source : Option Span) → ordered ≡ regions task.accesses.items
    → source_in ordered copy source ≡ source_cells task copy source
source_is task ordered copy None order = refl
source_is task ordered copy (Some span) order =
    ap (λ at. take (span_len span) (drop at copy))
    (ap (λ (found : List Region). place_in found span.array span.from) order ∙ place_in-regions task.accesses.items span.array span.from)

pub put_in : (task : TaskDef) (ordered : List Region) (copy cells : List ℤ) (span : Span) → ordered ≡ regions task.accesses.items
    → spliced (place_in ordered span.array span.from) cells copy ≡ put task span cells copy
put_in task ordered copy cells span order =
    ap (λ at. spliced at cells copy)
    (ap (λ (found : List Region). place_in found span.array span.from) order ∙ place_in-regions task.accesses.items span.array span.from)
    ∙ put_is_spliced task span cells copy

-- the copy after a local operation
pub computed_is : (task : TaskDef) (ordered : List Region) (copy from with cells after : List ℤ) (count : ℕ)
    (kind : Kernel) (dst : Span) (left right : Option Span) (value step by_value by_step : ℤ) → ordered ≡ regions task.accesses.items
    → by_value ≡ value → by_step ≡ step → count ≡ span_len dst → from ≡ source_in ordered copy left → with ≡ source_in ordered copy right
    → cells ≡ kernel_value kind count from with by_value by_step → after ≡ spliced (place_in ordered dst.array dst.from) cells copy
    → after ≡ computed task (op.Compute kind dst left right value step) copy
computed_is task ordered copy from with cells after count kind dst left right value step by_value by_step order values steps counts is_from is_with is_cells
    is_after =
    let left_is = source_is task ordered copy left order in
    let right_is = source_is task ordered copy right order in
    let put_is = put_in task ordered copy cells dst order in
    is_after ∙ put_is ∙ ap (λ (found : List ℤ). put task dst found copy) cc
