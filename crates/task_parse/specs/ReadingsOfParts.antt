-- Reading the parts of a statement: each reading takes its part from the front, and leaves the rest.
use Rattle.std.specs.Prelude.{ℕ, max, List, ◌∷◌, Result, Ok, Err}
use Rattle.rt_base.specs.declared.data.FaultKind.{FaultKind}
use Rattle.rt_base.specs.declared.data.FaultKind.TheVariants as fault
use Rattle.task_tree.specs.declared.sign.Sign.TheVariants as sign
use Rattle.task_tree.specs.declared.token.Token.{Token}
use Rattle.task_tree.specs.declared.token.Token.TheVariants as token
use Rattle.task_tree.specs.declared.tree.SpanText.{SpanText}
use Rattle.task_tree.specs.Term.{Term}
use Rattle.task_tree.specs.Reading.{◌>>=◌}
use Rattle.task_tree.specs.Expressions.{expr_at}
use Rattle.task_parse.specs.declared.part.Rest.{Rest}

-- the tokens that are left, and the depth so far
abbrev pub Left : Type 0
Left = List Token × ℕ

-- what contracts see of the tokens that are left
abbrev pub left : Rest → Left
left rest = (rest.tokens.now, rest.depth)

-- NAME
unfoldable pub name_at : Left → Result (List ℕ × Left) FaultKind
name_at (token.Name name ∷ tokens, depth) = Ok (name, (tokens, depth))
name_at _ = Err fault.Shape

-- the sign `,`
unfoldable pub comma_at : Left → Result Left FaultKind
comma_at (token.Sign sign.Comma ∷ tokens, depth) = Ok (tokens, depth)
comma_at _ = Err fault.Shape

-- the sign `..`
unfoldable pub dots_at : Left → Result Left FaultKind
dots_at (token.Sign sign.Dots ∷ tokens, depth) = Ok (tokens, depth)
dots_at _ = Err fault.Shape

-- the sign `=`
unfoldable pub set_at : Left → Result Left FaultKind
set_at (token.Sign sign.Set ∷ tokens, depth) = Ok (tokens, depth)
set_at _ = Err fault.Shape

-- the sign `[`
unfoldable pub open_at : Left → Result Left FaultKind
open_at (token.Sign sign.OpenSquare ∷ tokens, depth) = Ok (tokens, depth)
open_at _ = Err fault.Shape

-- the sign `]`
unfoldable pub close_at : Left → Result Left FaultKind
close_at (token.Sign sign.CloseSquare ∷ tokens, depth) = Ok (tokens, depth)
close_at _ = Err fault.Shape

-- an expression. The depth is the greatest of those that were read
unfoldable pub value_at : Left → Result (Term × Left) FaultKind
value_at x = do
  value ← expr_at x.0
  Ok (value.0.0, (value.1, max x.1 value.0.1))

-- NAME [ expr .. expr ]
unfoldable pub span_at : Left → Result (SpanText × Left) FaultKind
span_at x = do
  array ← name_at x
  start ← open_at array.1
  from ← value_at start
  dots ← dots_at from.1
  to ← value_at dots
  rest ← close_at to.1
  Ok (record { array = array.0; from = from.0; to = to.0 }, rest)
