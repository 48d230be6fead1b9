-- Unrolling with the first fault or limit that is met, and what a function of the code says of it.
use Rattle.std.specs.Prelude.{◌≡◌, ℕ, Result, Ok, Err}
use Rattle.rt_base.specs.declared.data.FaultKind.{FaultKind}
use Rattle.task_unroll.specs.declared.refusal.ExpandRefusal.{ExpandRefusal}
use Rattle.task_unroll.specs.declared.refusal.ExpandRefusal.TheVariants as refusal

-- what one statement leaves goes on to the next, and the first fault or limit decides
infixl 10 ◌>>=◌
-- what comes next, where nothing was refused
abbrev pub ◌>>=◌ : {A B E : Type 0} → Result A E → (A → Result B E) → Result B E
(Ok x) >>= f = f x
(Err e) >>= f = Err e

-- a fault stands at the line of its statement
abbrev pub at : {A : Type 0} → ℕ → Result A FaultKind → Result A ExpandRefusal
at line (Ok x) = Ok x
at line (Err kind) = Err (refusal.Fault line kind)

-- a refusal for want of memory says nothing of the unrolling, and every other one is its own
abbrev pub Fails : {Y : Type 0} → ExpandRefusal → Result Y ExpandRefusal → Type 0
Fails refusal.Memory due = Unit {0}
Fails (refusal.Fault line kind) due = due ≡ Err (refusal.Fault line kind)
Fails (refusal.Limit which) due = due ≡ Err (refusal.Limit which)

-- what a function returned, seen by view, is what is due, unless memory ran out
abbrev pub Gives : {X Y : Type 0} → (X → Y) → Result X ExpandRefusal → Result Y ExpandRefusal → Type 0
Gives view (Ok x) due = due ≡ Ok (view x)
Gives view (Err e) due = Fails e due
