-- The names of a rank and what they mean (this project's).
use Rattle.std.specs.Prelude.{ℕ, ℤ, List, Option, Some, None, Result, Ok, Err, ⊤}
use Rattle.std.specs.Str.{bytes_eq}
use Rattle.std.specs.Map.{lookup}
use Rattle.indexmap.specs.IndexMap.{insert_entry}
use Rattle.rt_base.specs.declared.data.FaultKind.{FaultKind}
use Rattle.rt_base.specs.declared.data.FaultKind.TheVariants as fault
use Rattle.rt_base.specs.declared.data.Handle.{Handle}
use Rattle.rt_base.specs.declared.data.Handle.TheVariants as handle
use Rattle.task_names.specs.declared.meaning.Meaning.{Meaning}
use Rattle.task_names.specs.declared.meaning.Meaning.TheVariants as meaning

-- each known name with its meaning, in the order in which they became known
abbrev pub Names : Type 0
Names = List (List ℕ × Meaning)

-- what a name means, where it means something
abbrev pub meaning_of : Names → List ℕ → Option Meaning
meaning_of names name = lookup (bytes_eq name) names

-- the names after one of them got a meaning
abbrev pub with_meaning : Names → List ℕ → Meaning → Names
with_meaning names name meant = insert_entry bytes_eq names name meant

-- the value of a variable, where one is wanted
abbrev pub as_variable : Option Meaning → Result ℤ FaultKind
as_variable (Some (meaning.Variable value)) = Ok value
as_variable _ = Err fault.UnknownName

-- the number of an array, where one is wanted
abbrev pub as_array : Option Meaning → Result ℕ FaultKind
as_array (Some (meaning.Array number)) = Ok number
as_array _ = Err fault.UnknownName

-- the number of a communicator, where one is wanted
abbrev pub as_communicator : Option Meaning → Result ℕ FaultKind
as_communicator (Some (meaning.Communicator number)) = Ok number
as_communicator _ = Err fault.UnknownName

-- the handle, where one is wanted; one that a wait has named is null (MPI 4.0, 3.7.3)
abbrev pub as_handle : Option Meaning → Result Handle FaultKind
as_handle (Some (meaning.Posted n)) = Ok (handle.Nth n)
as_handle (Some meaning.Idle) = Ok handle.Null
as_handle _ = Err fault.UnknownName

-- a name that may become a variable: it has no meaning, or is one
abbrev pub may_be_set : Option Meaning → Result ⊤ FaultKind
may_be_set None = Ok tt
may_be_set (Some (meaning.Variable value)) = Ok tt
may_be_set _ = Err fault.NameTaken

-- a name that may become a handle: it has no meaning, or is one
abbrev pub may_be_posted : Option Meaning → Result ⊤ FaultKind
may_be_posted None = Ok tt
may_be_posted (Some (meaning.Posted n)) = Ok tt
may_be_posted (Some meaning.Idle) = Ok tt
may_be_posted _ = Err fault.NameTaken

-- a name that may become an array or a communicator: it has no meaning
abbrev pub may_be_made : Option Meaning → Result ⊤ FaultKind
may_be_made None = Ok tt
may_be_made (Some _) = Err fault.NameTaken

-- what names mean now, and what they meant when the open task began
pub record Scoped : Type 0 where
  pub names : Names
  pub before : Names
