-- How large the tree of an expression is.
use Rattle.std.specs.Prelude.{ℕ, ◌+◌, ◌*◌}
use Rattle.task_tree.specs.Term.{Term, Term as term}

-- the inner nodes of a tree
abbrev pub weight : Term → ℕ
weight (term.Number n) = 0
weight (term.Var name) = 0
weight term.Rank = 0
weight term.Size = 0
weight (term.Neg e) = weight e + 1
weight (term.Two op l r) = weight l + weight r + 1

-- what is left to do until a tree is let go: each turn on the left side of a node is paid by that side
abbrev pub work : Term → ℕ
work (term.Number n) = 0
work (term.Var name) = 0
work term.Rank = 0
work term.Size = 0
work (term.Neg e) = work e + 1
work (term.Two op l r) = 2 * work l + work r + 1
