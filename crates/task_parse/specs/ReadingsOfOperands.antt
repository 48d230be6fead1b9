-- Reading the operands of calls, waits and kernels from the front of the tokens.
use Rattle.std.specs.Prelude.{ℕ, zero, suc, List, [], ◌∷◌, ◌++◌, Option, Some, None, Result, Ok, Err, if◌then◌else◌}
use Rattle.rt_base.specs.Operations.{blocks, is_receive}
use Rattle.rt_base.specs.declared.data.FaultKind.{FaultKind}
use Rattle.rt_base.specs.declared.data.FaultKind.TheVariants as fault
use Rattle.rt_base.specs.declared.data.How.{How}
use Rattle.task_tree.specs.declared.key.Key.TheVariants as key
use Rattle.task_tree.specs.declared.sign.Sign.TheVariants as sign
use Rattle.task_tree.specs.declared.token.Token.{Token}
use Rattle.task_tree.specs.declared.token.Token.TheVariants as token
use Rattle.task_tree.specs.declared.tree.SpanText.{SpanText}
use Rattle.task_tree.specs.declared.tree.PeerText.{PeerText}
use Rattle.task_tree.specs.declared.tree.PeerText.TheVariants as peer
use Rattle.task_tree.specs.declared.tree.TagText.{TagText}
use Rattle.task_tree.specs.declared.tree.TagText.TheVariants as tag
use Rattle.task_tree.specs.Term.{Term}
use Rattle.task_tree.specs.Reading.{◌>>=◌}
use Rattle.task_parse.specs.ReadingsOfParts.{Left, name_at, comma_at, value_at, span_at}
use Rattle.task_parse.specs.Statements.{has_status}

-- the handle of a call that doesn't block, and the comma behind it
unfoldable pub named_handle : Left → Result (Option (List ℕ) × Left) FaultKind
named_handle x = do
  name ← name_at x
  rest ← comma_at name.1
  Ok (Some name.0, rest)

-- the handle and its comma, where the call doesn't block
abbrev pub handle_at : How → Left → Result (Option (List ℕ) × Left) FaultKind
handle_at call x = if blocks call then Ok (None, x) else named_handle x

-- an expression, `null`, and in a receive `any`
unfoldable pub peer_at : How → Left → Result (PeerText × Left) FaultKind
peer_at call (token.Key key.Null ∷ tokens, depth) = Ok (peer.Null, (tokens, depth))
peer_at call (token.Key key.Any ∷ tokens, depth) = if is_receive call then Ok (peer.Any, (tokens, depth)) else Err fault.Shape
peer_at call x = value_at x >>= λ value. Ok (peer.At value.0, value.1)

-- an expression, and in a receive `any`
unfoldable pub tag_at : How → Left → Result (TagText × Left) FaultKind
tag_at call (token.Key key.Any ∷ tokens, depth) = if is_receive call then Ok (tag.Any, (tokens, depth)) else Err fault.Shape
tag_at call x = value_at x >>= λ value. Ok (tag.At value.0, value.1)

-- [ on NAME ]
unfoldable pub on_at : Left → Result (Option (List ℕ) × Left) FaultKind
on_at (token.Key key.On ∷ tokens, depth) = name_at (tokens, depth) >>= λ name. Ok (Some name.0, name.1)
on_at x = Ok (None, x)

-- [ status SPAN ]
unfoldable pub status_at : Left → Result (Option SpanText × Left) FaultKind
status_at (token.Key key.Status ∷ tokens, depth) = span_at (tokens, depth) >>= λ span. Ok (Some span.0, span.1)
status_at x = Ok (None, x)

-- [ status SPAN ], where the call may have one
abbrev pub own_status_at : How → Left → Result (Option SpanText × Left) FaultKind
own_status_at call x = if has_status call then status_at x else Ok (None, x)

-- a comma and a name at the front
abbrev pub comma_name : List Token → Option (List ℕ × List Token)
comma_name (token.Sign sign.Comma ∷ token.Name name ∷ tokens) = Some (name, tokens)
comma_name _ = None

-- the names so far, with all that stand behind a comma each
unfoldable pub names_behind : List (List ℕ) → List Token → List (List ℕ) × List Token
names_behind names (token.Sign sign.Comma ∷ token.Name name ∷ tokens) = names_behind (names ++ name ∷ []) tokens
names_behind names tokens = (names, tokens)

-- NAME { , NAME }
unfoldable pub names_at : Left → Result (List (List ℕ) × Left) FaultKind
names_at x = do
  first ← name_at x
  let names = names_behind (first.0 ∷ []) first.1.0 in Ok (names.0, (names.1, first.1.1))

-- a span, and the comma before it
unfoldable pub next_span : Left → Result (SpanText × Left) FaultKind
next_span x = comma_at x >>= span_at

-- a value, and the comma before it
unfoldable pub next_value : Left → Result (Term × Left) FaultKind
next_value x = comma_at x >>= value_at

-- the items so far, with so many more
unfoldable pub more_of : {T : Type 0} → (Left → Result (T × Left) FaultKind) → List T → ℕ → Left → Result (List T × Left) FaultKind
more_of next items zero x = Ok (items, x)
more_of next items (suc more) x = next x >>= λ item. more_of next (items ++ item.0 ∷ []) more item.1
