-- Reducing by levels: what nothing takes, and what is taken in two goes.
use Rattle.std.proofs.Common.{◌≡◌, ℕ, ◌+◌, ◌≤◌, min, max, nat_le, Bool, true, false, not, cond, List, [], ◌∷◌, refl, arith}
use Rattle.std.proofs.lemmas.Bool.Decides.{nat_tests}
use Rattle.task_tree.specs.declared.operator.BinOp.{BinOp}
use Rattle.task_tree.specs.declared.operator.BinOp.TheVariants as binary
use Rattle.task_tree.specs.declared.frames.Frame.{Frame}
use Rattle.task_tree.specs.declared.frames.Frame.TheVariants as frame
use Rattle.task_tree.specs.Term.{Term}
use Rattle.task_tree.specs.Grammar.{level}
use Rattle.task_tree.specs.Expressions.{reduce, is_held, negated, joined, deeper}

-- no frame at the front takes an operand of this level before all of it was read
abbrev pub below : ℕ → List Frame → Bool
below k [] = true
below k (frame.Open ∷ s) = true
below k (frame.Neg ∷ s) = nat_le 3 k
below k (frame.Left op left depth ∷ s) = not (nat_le k (level op))

pub level_bound : (op : BinOp) → level op ≤ 2
level_bound binary.Add = omega arith
level_bound binary.Sub = omega arith
level_bound binary.Mul = omega arith
level_bound binary.Div = omega arith
level_bound binary.Rem = omega arith
level_bound binary.Eq = omega arith
level_bound binary.Ne = omega arith
level_bound binary.Lt = omega arith
level_bound binary.Le = omega arith
level_bound binary.Gt = omega arith
level_bound binary.Ge = omega arith

pub above_itself : (k : ℕ) → not (nat_le (k + 1) k) ≡ true
above_itself k = grind (arith, nat_tests)

pub at_itself : (k : ℕ) → nat_le k k ≡ true
at_itself k = grind (arith, nat_tests)

-- what is below a level is below each higher one
pub below_more : (j k : ℕ) (s : List Frame) → j ≤ k → below j s ≡ true → below k s ≡ true
below_more j k [] h b = refl
below_more j k (frame.Open ∷ s) h b = refl
below_more j k (frame.Neg ∷ s) h b = grind (arith, nat_tests)
below_more j k (frame.Left op left depth ∷ s) h b = grind (arith, nat_tests)

-- every frame is below a unit
pub below_unit : (s : List Frame) → below 3 s ≡ true
below_unit [] = refl
below_unit (frame.Open ∷ s) = refl
below_unit (frame.Neg ∷ s) = refl
below_unit (frame.Left op left depth ∷ s) = let b = level_bound op in grind (arith, nat_tests)

-- an operand that no frame takes stays
pub takes_nothing : (k : ℕ) (v : Term × ℕ) (s : List Frame) → k ≤ 2 → below k s ≡ true → reduce k v s ≡ (v, s)
takes_nothing k v [] h b = refl
takes_nothing k v (frame.Open ∷ s) h b = refl
takes_nothing k v (frame.Neg ∷ s) h b = grind (arith, nat_tests)
takes_nothing k v (frame.Left op left depth ∷ s) h b = grind (arith, nat_tests)

-- where frames are below a level, none of that level is held
pub holds_nothing : (k : ℕ) (s : List Frame) → below k s ≡ true → is_held k s ≡ false
holds_nothing k [] b = refl
holds_nothing k (frame.Open ∷ s) b = refl
holds_nothing k (frame.Neg ∷ s) b = refl
holds_nothing k (frame.Left op left depth ∷ s) b = grind (arith, nat_tests)

-- what frames take of a level, they take of a lower one too, and go on
pub again : (k j : ℕ) (v : Term × ℕ) (s : List Frame) → k ≤ j → reduce k v s ≡ reduce k (reduce j v s).0 (reduce j v s).1
again k j v [] h = refl
again k j v (frame.Open ∷ s) h = refl
again k j v (frame.Neg ∷ s) h = again k j (negated v) s h
again k j v (frame.Left op left depth ∷ s) h =
    elim (nat_le j (level op)) as (λ b. nat_le j (level op) ≡ b
    → reduce k v (frame.Left op left depth ∷ s) ≡ reduce k (cond b (reduce j (joined op left depth v) s) (
      v,
      frame.Left op left depth ∷ s,
    )).0 (cond b (reduce j (joined op left depth v) s) (v, frame.Left op left depth ∷ s)).1)
    [ true ↦ (λ e. let f : nat_le k (level op) ≡ true = grind (arith, nat_tests) in rw f (again k j (joined op left depth v) s h)) | false ↦ (λ e. refl) ] refl

-- one more of a capped depth
pub deeper_cap : (d : ℕ) → deeper (min d 65) ≡ min (d + 1) 65
deeper_cap d = omega arith

pub max_cap : (c d : ℕ) → max (min c 65) (min d 65) ≡ min (max c d) 65
max_cap c d = omega arith
