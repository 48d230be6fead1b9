-- How the newest of the open frames takes an operand. No public clause cites this module.
use Rattle.std.specs.Prelude.{ℕ, nat_le, Bool, true, false, List, [], ◌∷◌}
use Rattle.task_tree.specs.declared.frames.Frame.{Frame}
use Rattle.task_tree.specs.declared.frames.Frame.TheVariants as frame
use Rattle.task_tree.specs.Term.{Term}
use Rattle.task_tree.specs.Grammar.{level}
use Rattle.task_tree.specs.Expressions.{negated, joined}

-- the newest frame takes an operand before an operator of this level
abbrev pub takes : ℕ → List Frame → Bool
takes k [] = false
takes k (frame.Open ∷ s) = false
takes k (frame.Neg ∷ s) = true
takes k (frame.Left op left depth ∷ s) = nat_le k (level op)

-- the operand that the newest frame makes of this one
abbrev pub taken : Term × ℕ → Frame → Term × ℕ
taken v frame.Open = v
taken v frame.Neg = negated v
taken v (frame.Left op left depth) = joined op left depth v
