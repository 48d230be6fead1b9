-- What the newest frame does to an operand, and what all of them do.
use Rattle.std.proofs.Common.{◌≡◌, ℕ, true, false, List, [], ◌∷◌, refl, arith}
use Rattle.task_tree.specs.declared.frames.Frame.{Frame}
use Rattle.task_tree.specs.declared.frames.Frame.TheVariants as frame
use Rattle.task_tree.specs.Term.{Term}
use Rattle.task_tree.specs.Expressions.{reduce}
use Rattle.task_tree.specs.Frames.{takes, taken}

-- where the newest frame takes nothing, nothing changes
pub no_more : (k : ℕ) (v : Term × ℕ) (s : List Frame) → takes k s ≡ false → reduce k v s ≡ (v, s)
no_more k v [] h = refl
no_more k v (frame.Open ∷ s) h = refl
no_more k v (frame.Neg ∷ s) h = grind arith
no_more k v (frame.Left op left depth ∷ s) h = rw h refl

-- where it takes the operand, the others go on with what it makes
pub one_more : (k : ℕ) (v : Term × ℕ) (newest : Frame) (s : List Frame) → takes k (newest ∷ s) ≡ true → reduce k v (newest ∷ s) ≡ reduce k (taken v newest) s
one_more k v frame.Open s h = grind arith
one_more k v frame.Neg s h = refl
one_more k v (frame.Left op left depth) s h = rw h refl
