-- A code of the trees of expressions: the list of their parts, each operator behind its operands.
use Rattle.std.specs.Prelude.{◌≡◌, refl, ℕ, zero, suc, ℤ, pos, List, [], ◌∷◌}
use Rattle.std.proofs.Common.{ap, ◌∙◌}
use Rattle.std.specs.Coded.{Coded, code_by, coded×, coded_ℕ, coded_ℤ, coded_list}
use Rattle.task_tree.specs.declared.operator.BinOp.{BinOp}
use Rattle.task_tree.specs.declared.operator.BinOp.TheVariants as binary
use Rattle.task_tree.specs.contracts.operator.BinOp as op
use Rattle.task_tree.specs.Term.{Term, Term as term}

-- a part of an expression: a leaf, a minus sign before an operand, or an operator between two
pub data Part : Type 0 where
  Number : ℤ → Part
  Var : List ℕ → Part
  Rank : Part
  Size : Part
  Neg : Part
  Two : BinOp → Part

-- the number of a form, and behind it all that a part may hold: a number, a name, an operator
abbrev pub Cell : Type 0
Cell = ℕ × (ℤ × (List ℕ × BinOp))

-- the form of a part with what it holds; what it doesn't hold is any value
abbrev pub cell : Part → Cell
cell (Number n) = (0, (n, ([], binary.Add)))
cell (Var name) = (1, (pos 0, (name, binary.Add)))
cell Rank = (2, (pos 0, ([], binary.Add)))
cell Size = (3, (pos 0, ([], binary.Add)))
cell Neg = (4, (pos 0, ([], binary.Add)))
cell (Two o) = (5, (pos 0, ([], o)))

-- the part of this form that holds these
abbrev pub part : Cell → Part
part (zero, (n, (name, o))) = Number n
part (suc zero, (n, (name, o))) = Var name
part (suc (suc zero), (n, (name, o))) = Rank
part (suc (suc (suc zero)), (n, (name, o))) = Size
part (suc (suc (suc (suc zero))), (n, (name, o))) = Neg
part (suc (suc (suc (suc (suc k)))), (n, (name, o))) = Two o

-- each part comes back from its form
abbrev pub part_cell : (p : Part) → part (cell p) ≡ p
part_cell (Number n) = refl
part_cell (Var name) = refl
part_cell Rank = refl
part_cell Size = refl
part_cell Neg = refl
part_cell (Two o) = refl

-- the code of parts
abbrev pub part_code : Coded Part
part_code = code_by Cell (coded× coded_ℕ (coded× coded_ℤ (coded× (coded_list coded_ℕ) op.the_row.coded))) cell part part_cell

-- the parts of a tree, before others
abbrev pub put : Term → List Part → List Part
put (term.Number n) rest = Number n ∷ rest
put (term.Var name) rest = Var name ∷ rest
put term.Rank rest = Rank ∷ rest
put term.Size rest = Size ∷ rest
put (term.Neg e) rest = put e (Neg ∷ rest)
put (term.Two o l r) rest = put l (put r (Two o ∷ rest))

-- the parts of a tree
abbrev pub parts : Term → List Part
parts e = put e []

-- a minus sign before the newest tree of a stack
abbrev pub negated : List Term → List Term
negated [] = []
negated (e ∷ stack) = term.Neg e ∷ stack

-- an operator between the two newest trees of a stack
abbrev pub joined : BinOp → List Term → List Term
joined o [] = []
joined o (r ∷ []) = []
joined o (r ∷ l ∷ stack) = term.Two o l r ∷ stack

-- the trees that parts leave on a stack
abbrev pub taken : List Part → List Term → List Term
taken [] stack = stack
taken (Number n ∷ rest) stack = taken rest (term.Number n ∷ stack)
taken (Var name ∷ rest) stack = taken rest (term.Var name ∷ stack)
taken (Rank ∷ rest) stack = taken rest (term.Rank ∷ stack)
taken (Size ∷ rest) stack = taken rest (term.Size ∷ stack)
taken (Neg ∷ rest) stack = taken rest (negated stack)
taken (Two o ∷ rest) stack = taken rest (joined o stack)

-- the newest tree of a stack, and where there is none, anything
abbrev pub first : List Term → Term
first [] = term.Rank
first (e ∷ stack) = e

-- the tree of these parts
abbrev pub whole : List Part → Term
whole all = first (taken all [])

-- the parts of a tree leave this tree on a stack
abbrev pub taken_put : (e : Term) (rest : List Part) (stack : List Term) → taken (put e rest) stack ≡ taken rest (e ∷ stack)
taken_put (term.Number n) rest stack = refl
taken_put (term.Var name) rest stack = refl
taken_put term.Rank rest stack = refl
taken_put term.Size rest stack = refl
taken_put (term.Neg e) rest stack = taken_put e (Neg ∷ rest) stack
taken_put (term.Two o l r) rest stack = taken_put l (put r (Two o ∷ rest)) stack ∙ taken_put r (Two o ∷ rest) (l ∷ stack)

-- each tree comes back from its parts
abbrev pub whole_parts : (e : Term) → whole (parts e) ≡ e
whole_parts e = ap first (taken_put e [] [])

-- the code of trees
abbrev pub term_code : Coded Term
term_code = code_by (List Part) (coded_list part_code) parts whole whole_parts
