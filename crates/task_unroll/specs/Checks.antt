-- What is tested of one statement, in this order (this project's). A statement that the language gains adds its lines here.
use Rattle.std.specs.Prelude.{ℕ, ◌+◌, ◌*◌, ℤ, pos, negsuc, Bool, true, false, not, ◌||◌, nat_eq, nat_lt, List, [], ◌∷◌, ◌++◌, length, Option, Some}
use Rattle.std.specs.Prelude.{None, Result, Ok, Err, ⊤, if◌then◌else◌}
use Rattle.std.specs.List.{list_any, list_all}
use Rattle.std.specs.Str.{bytes_eq}
use Rattle.rt_base.specs.declared.data.FaultKind.{FaultKind}
use Rattle.rt_base.specs.declared.data.FaultKind.TheVariants as fault
use Rattle.rt_base.specs.declared.data.Span.{Span}
use Rattle.rt_base.specs.declared.data.Access.{Access}
use Rattle.rt_base.specs.declared.data.Kernel.{Kernel}
use Rattle.rt_base.specs.declared.data.Kernel.TheVariants as kernel
use Rattle.rt_base.specs.declared.data.Op.{Op}
use Rattle.rt_base.specs.Spans.{span_len}
use Rattle.rt_base.specs.Operations.{KernelParts, kernel_parts, given, by_parts}
use Rattle.rt_base.specs.Touched.{reads, writes, shares_any, is_declared, is_writable}
use Rattle.rt_base.specs.InUse.{is_in_use}
use Rattle.task_names.specs.declared.meaning.Meaning.{Meaning}
use Rattle.task_names.specs.declared.meaning.Meaning.TheVariants as meaning

-- a kind of fault, and whether it stands here
pub record Check : Type 0 where
  pub kind : FaultKind
  pub finds : Bool

-- this kind of fault, where this is found
abbrev pub check : FaultKind → Bool → Check
check kind finds = record { kind = kind; finds = finds }

-- the first fault of a list of tests decides
abbrev pub passed : List Check → Result ⊤ FaultKind
passed [] = Ok tt
passed (one ∷ more) = if one.finds then Err one.kind else passed more

-- an access shares no cell with those before it
abbrev pub access_checks : List Access → Span → List Check
access_checks earlier span = check fault.AccessOverlap (list_any (λ (access : Access). shares_any (access.span ∷ []) span) earlier) ∷ []

-- two lengths differ, where there is a source
abbrev pub differs : ℕ → Option Span → Bool
differs len None = false
differs len (Some source) = not (nat_eq (span_len source) len)

-- the lengths that a kernel asks of its destination and of its sources
abbrev pub has_wrong_length : Kernel → Span → Option Span → Option Span → Bool
has_wrong_length kernel.Fill dst left right = false
has_wrong_length kernel.Ramp dst left right = false
has_wrong_length kernel.Copy dst left right = differs (span_len dst) left
has_wrong_length kernel.Add dst left right = differs (span_len dst) left || differs (span_len dst) right
has_wrong_length kernel.Sub dst left right = differs (span_len dst) left || differs (span_len dst) right
has_wrong_length kernel.Scale dst left right = differs (span_len dst) left
has_wrong_length kernel.Shift dst left right = differs (span_len dst) left
has_wrong_length kernel.Jacobi2 dst left right = differs (span_len dst + 2) left
has_wrong_length kernel.Sum dst left right = not (nat_eq (span_len dst) 1)
has_wrong_length kernel.Least dst left right = not (nat_eq (span_len dst) 1)
has_wrong_length kernel.Greatest dst left right = not (nat_eq (span_len dst) 1)

-- a shift is by 0 to 63 places
abbrev pub is_no_shift : ℤ → Bool
is_no_shift (pos places) = nat_lt 63 places
is_no_shift (negsuc places) = true

-- the kernel is a shift, by a number of places that it cannot have
abbrev pub has_bad_shift : Kernel → ℤ → Bool
has_bad_shift kernel.Fill value = false
has_bad_shift kernel.Ramp value = false
has_bad_shift kernel.Copy value = false
has_bad_shift kernel.Add value = false
has_bad_shift kernel.Sub value = false
has_bad_shift kernel.Scale value = false
has_bad_shift kernel.Shift value = is_no_shift value
has_bad_shift kernel.Jacobi2 value = false
has_bad_shift kernel.Sum value = false
has_bad_shift kernel.Least value = false
has_bad_shift kernel.Greatest value = false

-- the least and the greatest of no cells have no value
abbrev pub is_nothing : Option Span → Bool
is_nothing None = false
is_nothing (Some source) = nat_eq (span_len source) 0

-- the kernel is the least or the greatest of no cells
abbrev pub has_no_source : Kernel → Option Span → Bool
has_no_source kernel.Fill left = false
has_no_source kernel.Ramp left = false
has_no_source kernel.Copy left = false
has_no_source kernel.Add left = false
has_no_source kernel.Sub left = false
has_no_source kernel.Scale left = false
has_no_source kernel.Shift left = false
has_no_source kernel.Jacobi2 left = false
has_no_source kernel.Sum left = false
has_no_source kernel.Least left = is_nothing left
has_no_source kernel.Greatest left = is_nothing left

-- what a kernel asks of its operands
abbrev pub kernel_checks : KernelParts → List Check
kernel_checks done =
    check fault.LengthMismatch (has_wrong_length done.kernel done.dst done.left done.right) ∷ check fault.BadShift (has_bad_shift done.kernel done.value)
    ∷ check fault.EmptySource (has_no_source done.kernel done.left) ∷ []

-- the form of an operation: what its kernel asks, and four cells a status
abbrev pub form_checks : Op → List Check
form_checks operation =
    given [] kernel_checks (kernel_parts operation)
    ++ by_parts [] (λ posted. check fault.StatusLength (differs 4 posted.status) ∷ [])
    (λ waited. check fault.StatusLength (differs (4 * length waited.handles) waited.status) ∷ []) operation

-- the tests of an operation behind others of its body. One test is of the statement's handles
abbrev pub op_checks : List Access → List Op → Check → Op → List Check
op_checks accesses earlier handles operation =
    check fault.NotDeclared (not (list_all (is_declared accesses) (writes accesses operation ++ reads accesses operation)))
    ∷ check fault.NotWritable (not (list_all (is_writable accesses) (writes accesses operation)))
    ∷ (form_checks operation ++ handles ∷ check fault.InUse (is_in_use accesses earlier operation) ∷ [])

-- no handle
abbrev pub no_handle : Check
no_handle = check fault.RequestTwice false

-- a name stands twice among these
abbrev pub stands_twice : List (List ℕ) → Bool
stands_twice [] = false
stands_twice (name ∷ names) = list_any (bytes_eq name) names || stands_twice names

-- the handle is posted, and no wait has named it
abbrev pub is_busy : Option Meaning → Bool
is_busy (Some (meaning.Posted n)) = true
is_busy _ = false
