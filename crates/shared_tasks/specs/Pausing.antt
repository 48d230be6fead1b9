-- How a task is taken up again.
use Rattle.std.specs.Prelude.{◌≡◌, ℕ, [], slice_get}
use mathlib.Core.List.{IsPrefix}
use Rattle.rt_base.specs.declared.data.Program.{Program}
use Rattle.pass_table.specs.Passes.{PassIs, TableId}
use Rattle.meet_hall.specs.Holders.{HolderIs, StubIs}
use Rattle.shared_tasks.specs.declared.rest.Rest.{Rest}
use Rattle.shared_tasks.specs.declared.rest.Rest.TheVariants.{Waiting, Back}
use Rattle.shared_tasks.specs.Values.{LiveIs}
use Rattle.shared_tasks.specs.Places.{requests_of}

-- a holder of the hall that has issued nothing, with a place for each request of task t, as it comes after the round in which the task parked
pub record IsNext (program : Program) (site : TableId) (t : ℕ) (holder : HolderIs) : Type 0 where
  pub hall : holder.hall ≡ site
  pub places : holder.places ≡ requests_of (slice_get program.tasks.items t)
  pub none_issued : holder.issued ≡ []

-- the same pass, which has seen more
pub record SawMore (old new : PassIs) : Type 0 where
  pub table : new.table ≡ old.table
  pub caller : new.caller ≡ old.caller
  pub steps : new.steps ≡ old.steps
  pub before : IsPrefix old.seen new.seen

-- what is said of the stub where others have not come
abbrev pub IfWaiting : {K H : Type 0} → Rest K H → (StubIs → Type 0) → Type 0
IfWaiting (Waiting stub) Fact = Fact stub
IfWaiting (Back live) Fact = Unit {0}

-- what is said of the task where it is taken up again
abbrev pub IfBack : {K H : Type 0} → Rest K H → (LiveIs → Type 0) → Type 0
IfBack (Waiting stub) Fact = Unit {0}
IfBack (Back live) Fact = Fact live
