-- Reading an expression in one pass over the tokens (this project's): an operand where one was just read, and the frames that are open, the newest first.
use Rattle.std.specs.Prelude.{ℕ, ◌+◌, min, max, nat_le, Bool, false, cond, List, [], ◌∷◌, Option, Some, None, Result, Ok, Err}
use Rattle.rt_base.specs.declared.data.FaultKind.{FaultKind}
use Rattle.rt_base.specs.declared.data.FaultKind.TheVariants as fault
use Rattle.task_tree.specs.declared.operator.BinOp.{BinOp}
use Rattle.task_tree.specs.declared.key.Key.TheVariants as key
use Rattle.task_tree.specs.declared.sign.Sign.{Sign}
use Rattle.task_tree.specs.declared.sign.Sign.TheVariants as sign
use Rattle.task_tree.specs.declared.token.Token.{Token}
use Rattle.task_tree.specs.declared.token.Token.TheVariants as token
use Rattle.task_tree.specs.declared.frames.Frame.{Frame}
use Rattle.task_tree.specs.declared.frames.Frame.TheVariants as frame
use Rattle.task_tree.specs.declared.steps.Step.{Step}
use Rattle.task_tree.specs.declared.steps.Step.TheVariants as step
use Rattle.task_tree.specs.Term.{Term, Term as term}
use Rattle.task_tree.specs.Grammar.{operator, level, left_level}
use Rattle.task_tree.specs.Reading.{◌>>=◌}

-- one bracket or minus sign more: 65 stands for every depth above 64
abbrev pub deeper : ℕ → ℕ
deeper depth = min (depth + 1) 65

-- the operand, a tree with its depth, under a minus sign
abbrev pub negated : Term × ℕ → Term × ℕ
negated v = (term.Neg v.0, deeper v.1)

-- in brackets
abbrev pub bracketed : Term × ℕ → Term × ℕ
bracketed v = (v.0, deeper v.1)

-- to the right of an operator
abbrev pub joined : BinOp → Term → ℕ → Term × ℕ → Term × ℕ
joined op left depth v = (term.Two op left v.0, max depth v.1)

-- minus signs, and operators of this level or above, take the operand, up to the innermost bracket
abbrev pub reduce : ℕ → Term × ℕ → List Frame → (Term × ℕ) × List Frame
reduce k v [] = (v, [])
reduce k v (frame.Open ∷ s) = (v, frame.Open ∷ s)
reduce k v (frame.Neg ∷ s) = reduce k (negated v) s
reduce k v (frame.Left op left depth ∷ s) = cond (nat_le k (level op)) (reduce k (joined op left depth v) s) (v, frame.Left op left depth ∷ s)

-- an operator of this level or above still stands at the front
abbrev pub is_held : ℕ → List Frame → Bool
is_held k [] = false
is_held k (frame.Open ∷ s) = false
is_held k (frame.Neg ∷ s) = false
is_held k (frame.Left op left depth ∷ s) = nat_le k (level op)

-- the state that goes on: an operand where one was just read, and the open frames
abbrev pub going : Option (Term × ℕ) → List Frame → Result (Step × List Frame) FaultKind
going operand s = Ok (step.GoOn operand, s)

-- where an operand is due, only the first token of one may stand
abbrev pub begun : List Frame → Token → Result (Step × List Frame) FaultKind
begun s (token.Number n) = going (Some (term.Number n, 0)) s
begun s (token.Name name) = going (Some (term.Var name, 0)) s
begun s (token.Key key.Rank) = going (Some (term.Rank, 0)) s
begun s (token.Key key.Size) = going (Some (term.Size, 0)) s
begun s (token.Sign sign.Minus) = going None (frame.Neg ∷ s)
begun s (token.Sign sign.OpenRound) = going None (frame.Open ∷ s)
begun s other = Err fault.Shape

-- an operator stands behind an operand that has taken all that binds tighter. Comparisons don't chain
abbrev pub pushed : BinOp → (Term × ℕ) × List Frame → Result (Step × List Frame) FaultKind
pushed op x = cond (is_held (level op) x.1) (Err fault.Shape) (going None (frame.Left op x.0.0 x.0.1 ∷ x.1))

-- the end of the expression, where no bracket is open
abbrev pub whole : (Term × ℕ) × List Frame → Result (Term × ℕ) FaultKind
whole (v, []) = Ok v
whole (v, frame ∷ s) = Err fault.Shape

-- an operand ends its bracket, or where none is open the expression
abbrev pub closed : (Term × ℕ) × List Frame → Result (Step × List Frame) FaultKind
closed (v, []) = Ok (step.Over v, [])
closed (v, frame.Open ∷ s) = going (Some (bracketed v)) s
closed (v, other ∷ s) = Err fault.Shape

-- what comes behind an operand ends the expression
abbrev pub over : Term × ℕ → List Frame → Result (Step × List Frame) FaultKind
over v s = whole (reduce 0 v s) >>= λ w. Ok (step.Over w, [])

-- what a sign does behind an operand, given the operator that it is
abbrev pub at_sign : Term × ℕ → List Frame → Sign → Option BinOp → Result (Step × List Frame) FaultKind
at_sign v s x (Some op) = pushed op (reduce (left_level op) v s)
at_sign v s sign.CloseRound None = closed (reduce 0 v s)
at_sign v s other None = over v s

-- what a token does behind an operand
abbrev pub followed : Term × ℕ → List Frame → Token → Result (Step × List Frame) FaultKind
followed v s (token.Sign x) = at_sign v s x (operator x)
followed v s (token.Number n) = over v s
followed v s (token.Name name) = over v s
followed v s (token.Key k) = over v s

-- what a token does, given the operand where one was just read
abbrev pub step_at : Option (Term × ℕ) → List Frame → Token → Result (Step × List Frame) FaultKind
step_at None s t = begun s t
step_at (Some v) s t = followed v s t

-- the expression that the tokens end
abbrev pub ended : Option (Term × ℕ) → List Frame → Result (Term × ℕ) FaultKind
ended None s = Err fault.Shape
ended (Some v) s = whole (reduce 0 v s)

-- all tokens, up to the one that ends the expression
abbrev pub run : Option (Term × ℕ) → List Frame → List Token → Result ((Term × ℕ) × List Token) FaultKind
run operand s [] = ended operand s >>= λ v. Ok (v, [])
run operand s (t ∷ ts) = step_at operand s t >>= λ x. elim x.0 [ step.GoOn next ↦ run next x.1 ts | step.Over v ↦ Ok (v, t ∷ ts) ]

-- the expression with its depth, and the tokens behind it
unfoldable pub expr_at : List Token → Result ((Term × ℕ) × List Token) FaultKind
expr_at tokens = run None [] tokens
