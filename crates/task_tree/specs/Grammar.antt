-- The grammar of expressions (this project's).
use Rattle.std.specs.Prelude.{◌≡◌, ℕ, ◌+◌, max, Bool, true, false, not, is_some, List, [], ◌∷◌, ◌++◌, Option, Some, None, ℤ}
use Rattle.task_tree.specs.declared.operator.BinOp.{BinOp}
use Rattle.task_tree.specs.declared.operator.BinOp.TheVariants as binary
use Rattle.task_tree.specs.declared.key.Key.TheVariants as key
use Rattle.task_tree.specs.declared.sign.Sign.{Sign}
use Rattle.task_tree.specs.declared.sign.Sign.TheVariants as sign
use Rattle.task_tree.specs.declared.token.Token.{Token}
use Rattle.task_tree.specs.declared.token.Token.TheVariants as token
use Rattle.task_tree.specs.Term.{Term, Term as term}

-- the operator that a sign between two operands is
abbrev pub operator : Sign → Option BinOp
operator sign.Plus = Some binary.Add
operator sign.Minus = Some binary.Sub
operator sign.Times = Some binary.Mul
operator sign.Over = Some binary.Div
operator sign.Rest = Some binary.Rem
operator sign.Same = Some binary.Eq
operator sign.Differs = Some binary.Ne
operator sign.Below = Some binary.Lt
operator sign.AtMost = Some binary.Le
operator sign.Above = Some binary.Gt
operator sign.AtLeast = Some binary.Ge
operator sign.OpenRound = None
operator sign.CloseRound = None
operator sign.OpenSquare = None
operator sign.CloseSquare = None
operator sign.Comma = None
operator sign.Set = None
operator sign.Dots = None

-- the token is an operator sign
abbrev pub is_operator : Token → Bool
is_operator (token.Sign s) = is_some (operator s)
is_operator (token.Name w) = false
is_operator (token.Key k) = false
is_operator (token.Number n) = false

-- nothing that goes on with an expression stands here: no token, or none that is an operator sign
abbrev pub ends : List Token → Bool
ends [] = true
ends (t ∷ rest) = not (is_operator t)

-- how tightly an operator binds: a comparison at level 0, a sum at 1, a product at 2. A unit, which has no operator of its own, is at level 3
abbrev pub level : BinOp → ℕ
level binary.Add = 1
level binary.Sub = 1
level binary.Mul = 2
level binary.Div = 2
level binary.Rem = 2
level binary.Eq = 0
level binary.Ne = 0
level binary.Lt = 0
level binary.Le = 0
level binary.Gt = 0
level binary.Ge = 0

-- the level of what stands to the left of an operator: sums and products group to the left, and comparisons don't chain
abbrev pub left_level : BinOp → ℕ
left_level op = max 1 (level op)

-- the tokens are an expression of this level, in which so many brackets and unary minus signs are open at the deepest place
pub data Is : ℕ → ℕ → List Token → Term → Type 0 where
  number : {n : ℤ} → Is 3 0 (token.Number n ∷ []) (term.Number n)
  name : {w : List ℕ} → Is 3 0 (token.Name w ∷ []) (term.Var w)
  rank : Is 3 0 (token.Key key.Rank ∷ []) term.Rank
  size : Is 3 0 (token.Key key.Size ∷ []) term.Size
  brackets : {d : ℕ} {ts : List Token} {e : Term} → Is 0 d ts e → Is 3 (d + 1) (token.Sign sign.OpenRound ∷ (ts ++ token.Sign sign.CloseRound ∷ [])) e
  minus : {d : ℕ} {ts : List Token} {e : Term} → Is 3 d ts e → Is 3 (d + 1) (token.Sign sign.Minus ∷ ts) (term.Neg e)
  two : {c d : ℕ} {xs ys : List Token} {l r : Term} {op : BinOp} (s : Sign) → operator s ≡ Some op → Is (left_level op) c xs l → Is (level op + 1) d ys r
      → Is (level op) (max c d) (xs ++ token.Sign s ∷ ys) (term.Two op l r)
  up : {k d : ℕ} {ts : List Token} {e : Term} → Is (k + 1) d ts e → Is k d ts e
