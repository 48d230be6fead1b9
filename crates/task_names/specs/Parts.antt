-- How an expression is evaluated from its parts. No public clause cites this module.
use Rattle.std.specs.Prelude.{◌≡◌, ℕ, ◌+◌, ◌-◌, ◌≤◌, ℤ, neg_ℤ, Bool, true, false, List, [], ◌∷◌, Result, Ok, Err, ⊤}
use Rattle.rt_base.specs.declared.data.FaultKind.{FaultKind}
use Rattle.task_tree.specs.declared.operator.BinOp.{BinOp}
use Rattle.task_tree.specs.Term.{Term, Term as term}
use Rattle.task_tree.specs.Reading.{◌>>=◌, Fails}
use Rattle.task_tree.specs.declared.refusal.LineRefusal.{LineRefusal}
use Rattle.task_names.specs.Values.{Scene, fitting, computed, value}
use Rattle.task_names.specs.declared.todo.Todo.{Todo}
use Rattle.task_names.specs.declared.todo.Todo.TheVariants as todo

-- a node with an operator or a minus sign
abbrev pub is_inner : Term → Bool
is_inner (term.Number n) = false
is_inner (term.Var name) = false
is_inner term.Rank = false
is_inner term.Size = false
is_inner (term.Neg e) = true
is_inner (term.Two op left right) = true

-- the value under a minus sign
abbrev pub under_minus : Result ℤ FaultKind → Result ℤ FaultKind
under_minus inner = inner >>= λ x. fitting (neg_ℤ x)

-- the value of two sides with an operator between them
abbrev pub joined : BinOp → Result ℤ FaultKind → Result ℤ FaultKind → Result ℤ FaultKind
joined op left right = left >>= λ x. right >>= λ y. computed op x y

-- one value more, or its fault
abbrev pub put_on : Result ℤ FaultKind → List ℤ → Result (List ℤ) FaultKind
put_on x values = x >>= λ n. Ok (n ∷ values)

-- the newest value under a minus sign. Where it is missing, anything
abbrev pub turned : List ℤ → Result (List ℤ) FaultKind
turned [] = Ok []
turned (x ∷ values) = put_on (fitting (neg_ℤ x)) values

-- the operator between the two newest values. Where they are missing, anything
abbrev pub applied : BinOp → List ℤ → Result (List ℤ) FaultKind
applied op [] = Ok []
applied op (y ∷ []) = Ok []
applied op (y ∷ x ∷ values) = put_on (computed op x y) values

-- the values in the end, from what is left to do and the values so far, each with the newest first
abbrev pub after : Scene → List Todo → List ℤ → Result (List ℤ) FaultKind
after scene [] values = Ok values
after scene (todo.Value e ∷ more) values = put_on (value scene e.now) values >>= after scene more
after scene (todo.Negate ∷ more) values = turned values >>= after scene more
after scene (todo.Apply op ∷ more) values = applied op values >>= after scene more

-- one more thing was done, and the values in the end stay as they were. A fault is theirs
abbrev pub GivesRest : {Y : Type 0} → Result ⊤ LineRefusal → Result Y FaultKind → Result Y FaultKind → Type 0
GivesRest (Ok done) before now = before ≡ now
GivesRest (Err refusal) before now = Fails refusal before

-- each part finds its operands among so many values, and one value stands in the end
abbrev pub Fits : List Todo → ℕ → Type 0
Fits [] n = n ≡ 1
Fits (todo.Value e ∷ more) n = Fits more (n + 1)
Fits (todo.Negate ∷ more) n = (1 ≤ n) × Fits more n
Fits (todo.Apply op ∷ more) n = (2 ≤ n) × Fits more (n - 1)

-- how much a tree leaves to do: one for each leaf, two for each other node
abbrev pub size_of : Term → ℕ
size_of (term.Number n) = 1
size_of (term.Var name) = 1
size_of term.Rank = 1
size_of term.Size = 1
size_of (term.Neg e) = size_of e + 2
size_of (term.Two op left right) = size_of left + size_of right + 2

-- how much is left to do: each tree, and one for each operator
abbrev pub left_of : List Todo → ℕ
left_of [] = 0
left_of (todo.Value e ∷ more) = size_of e.now + left_of more
left_of (todo.Negate ∷ more) = 1 + left_of more
left_of (todo.Apply op ∷ more) = 1 + left_of more
