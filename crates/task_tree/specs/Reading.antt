-- Reading with the first fault that is met, and what a function of the code says of it.
use Rattle.std.specs.Prelude.{◌≡◌, Result, Ok, Err}
use Rattle.rt_base.specs.declared.data.FaultKind.{FaultKind}
use Rattle.task_tree.specs.declared.refusal.LineRefusal.{LineRefusal}
use Rattle.task_tree.specs.declared.refusal.LineRefusal.TheVariants as refusal

-- what is read goes on to the next step, and the first fault decides
infixl 10 ◌>>=◌
-- what comes next, where nothing was refused
abbrev pub ◌>>=◌ : {A B : Type 0} → Result A FaultKind → (A → Result B FaultKind) → Result B FaultKind
(Ok x) >>= f = f x
(Err e) >>= f = Err e

-- a refusal for want of memory says nothing of the reading, and a fault is its fault
abbrev pub Fails : {Y : Type 0} → LineRefusal → Result Y FaultKind → Type 0
Fails refusal.Memory reading = Unit {0}
Fails (refusal.Fault kind) reading = reading ≡ Err kind

-- what a function returned, seen by view, is what the reading gives, unless memory ran out
abbrev pub Gives : {X Y : Type 0} → (X → Y) → Result X LineRefusal → Result Y FaultKind → Type 0
Gives view (Ok x) reading = reading ≡ Ok (view x)
Gives view (Err e) reading = Fails e reading
