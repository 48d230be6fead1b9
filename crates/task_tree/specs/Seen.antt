-- What contracts see of an expression.
use Rattle.task_tree.specs.declared.expr.Node.{Node}
use Rattle.task_tree.specs.declared.expr.Node.TheVariants as node
use Rattle.task_tree.specs.Term.{Term, Term as term}

-- the tree of an expression, from its topmost node
abbrev pub seen : Node → Term
seen (node.Number n) = term.Number n
seen (node.Var name) = term.Var name
seen node.Rank = term.Rank
seen node.Size = term.Size
seen (node.Neg e) = term.Neg e.value
seen (node.Two op l r) = term.Two op l.value r.value
