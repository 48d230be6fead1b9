-- The tree of an expression (this project's).
use Rattle.std.specs.Prelude.{ℕ, ℤ, List}
use Rattle.task_tree.specs.declared.operator.BinOp.{BinOp}

-- a number, a variable, `rank`, `size`, a minus sign before an operand, an operator between two (docs/LANGUAGE.md, Expressions)
pub data Term : Type 0 where
  Number : ℤ → Term
  Var : List ℕ → Term
  Rank : Term
  Size : Term
  Neg : Term → Term
  Two : BinOp → Term → Term → Term
