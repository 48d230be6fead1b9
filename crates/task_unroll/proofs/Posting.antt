-- How many requests an operation posts.
use Rattle.std.proofs.Common.{◌≡◌, ℕ, Bool, true, false, List, [], ◌∷◌, length, Result, Ok, Err, refl, sym, ap}
use Rattle.std.specs.Prelude.{ℤ, ◌&&◌, nat_eq, pos, slice_get, slice_index_or, if◌then◌else◌}
use Rattle.rt_base.specs.declared.data.FaultKind.{FaultKind}
use Rattle.rt_base.specs.declared.data.FaultKind.TheVariants as fault
use Rattle.rt_base.specs.declared.data.Kernel.{Kernel}
use Rattle.rt_base.specs.declared.data.Span.{Span}
use Rattle.rt_base.specs.declared.data.Op.{Op}
use Rattle.rt_base.specs.declared.data.Op.TheVariants as op
use Rattle.rt_base.specs.InUse.{posts}
use Rattle.rt_base.specs.KernelForms.{source_count, number_count}
use Rattle.task_unroll.specs.Acts.{kernel_call}

chosen : (b : Bool) (one : Op) (operation : Op) → (if b then Ok one else Err fault.Shape) ≡ Ok operation → one ≡ operation
chosen true one operation is = cc
chosen false one operation is = absurd (cc)

-- a kernel posts none
pub kernel_posts_none : (kind : Kernel) (spans : List Span) (numbers : List ℤ) (operation : Op) → kernel_call kind spans numbers ≡ Ok operation
    → posts operation ≡ 0
kernel_posts_none kind [] numbers operation is = absurd (cc)
kernel_posts_none kind (dst ∷ sources) numbers operation is =
    ap posts (sym (chosen _ _ operation is))
