-- Faults at a line, through a chain.
use Rattle.std.proofs.Common.{◌≡◌, ℕ, List, [], ◌∷◌, ◌++◌, Result, Ok, Err, refl, ap, append_assoc}
use Rattle.rt_base.specs.declared.data.FaultKind.{FaultKind}
use Rattle.task_unroll.specs.declared.refusal.ExpandRefusal.{ExpandRefusal}
use Rattle.task_unroll.specs.declared.refusal.ExpandRefusal.TheVariants as refusal
use Rattle.task_unroll.specs.Unrolling.{◌>>=◌, at, Fails}

-- what stops the first part stops the chain
pub stopped : {A B : Type 0} (line : ℕ) (c : Result A FaultKind) (f : A → Result B FaultKind) (e : ExpandRefusal) → Fails e (at line c)
    → Fails e (at line (c >>= f))
stopped line c f refusal.Memory fails = tt
stopped line (Ok x) f (refusal.Fault other kind) fails = absurd (cc)
stopped line (Err found) f (refusal.Fault other kind) fails = cc
stopped line (Ok x) f (refusal.Limit which) fails = absurd (cc)
stopped line (Err found) f (refusal.Limit which) fails = absurd (cc)

-- the value of the first part goes on
pub went_on : {A B : Type 0} (line : ℕ) (c : Result A FaultKind) (f : A → Result B FaultKind) (x : A) → at line c ≡ Ok x → (c >>= f) ≡ f x
went_on line (Ok y) f x is = cc
went_on line (Err kind) f x is = absurd (cc)
