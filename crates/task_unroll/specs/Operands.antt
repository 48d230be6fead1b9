-- The operands of a statement: their names and values, from left to right (this project's).
use Rattle.std.specs.Prelude.{ℕ, ◌≡◌, ℤ, pos, negsuc, ◌&&◌, nat_le, nat_lt, Bool, true, false, List, [], ◌∷◌, slice_index_or, Option, Some, None}
use Rattle.std.specs.Prelude.{Result, Ok, Err, if◌then◌else◌}
use Rattle.rt_base.specs.declared.data.FaultKind.{FaultKind}
use Rattle.rt_base.specs.declared.data.FaultKind.TheVariants as fault
use Rattle.rt_base.specs.declared.data.Span.{Span}
use Rattle.rt_base.specs.declared.data.Peer.{Peer}
use Rattle.rt_base.specs.declared.data.Peer.TheVariants as peer
use Rattle.rt_base.specs.declared.data.TagSel.{TagSel}
use Rattle.rt_base.specs.declared.data.TagSel.TheVariants as tag
use Rattle.rt_base.specs.declared.data.Handle.{Handle}
use Rattle.task_tree.specs.declared.tree.SpanText.{SpanText}
use Rattle.task_tree.specs.declared.tree.PeerText.{PeerText}
use Rattle.task_tree.specs.declared.tree.PeerText.TheVariants as peer_text
use Rattle.task_tree.specs.declared.tree.TagText.{TagText}
use Rattle.task_tree.specs.declared.tree.TagText.TheVariants as tag_text
use Rattle.task_tree.specs.Term.{Term}
use Rattle.task_unroll.specs.Unrolling.{◌>>=◌}
use Rattle.task_names.specs.Scopes.{meaning_of, as_array, as_communicator, as_handle}
use Rattle.task_names.specs.Values.{Scene, value}
use Rattle.task_unroll.specs.declared.chosen.PeerValue.{PeerValue}
use Rattle.task_unroll.specs.declared.chosen.PeerValue.TheVariants as whom
use Rattle.task_unroll.specs.declared.chosen.TagValue.{TagValue}
use Rattle.task_unroll.specs.declared.chosen.TagValue.TheVariants as chosen
use Rattle.task_unroll.specs.States.{State, scene}

-- the bounds of a span meet 0 <= from <= to <= length of the array
unfoldable pub bounded : ℕ → ℕ → ℤ → ℤ → Result Span FaultKind
bounded array len (pos from) (pos to) = if nat_le from to && nat_le to len then Ok (record { array = array; from = from; to = to }) else Err fault.BadSpan
bounded array len from to = Err fault.BadSpan

-- the cells of a span: its array, its two bounds, and then whether they are in order
unfoldable pub span_of : State → SpanText → Result Span FaultKind
span_of s text = do
  array ← as_array (meaning_of s.names text.array)
  from ← value (scene s) text.from
  to ← value (scene s) text.to
  bounded array (slice_index_or s.lens array 0) from to

-- the cells of each span, in order
abbrev pub spans_of : State → List SpanText → Result (List Span) FaultKind
spans_of s [] = Ok []
spans_of s (text ∷ texts) = span_of s text >>= λ span. spans_of s texts >>= λ spans. Ok (span ∷ spans)

-- the value of each expression, in order
abbrev pub values_of : State → List Term → Result (List ℤ) FaultKind
values_of s [] = Ok []
values_of s (e ∷ es) = value (scene s) e >>= λ x. values_of s es >>= λ xs. Ok (x ∷ xs)

-- a span that may be left out
abbrev pub span_or_none : State → Option SpanText → Result (Option Span) FaultKind
span_or_none s None = Ok None
span_or_none s (Some text) = span_of s text >>= λ span. Ok (Some span)

-- the communicator behind `on`, and world where there is none (MPI 4.0, 7.2)
abbrev pub communicator_of : State → Option (List ℕ) → Result ℕ FaultKind
communicator_of s None = Ok 0
communicator_of s (Some name) = as_communicator (meaning_of s.names name)

-- the handles that a wait names, in order
abbrev pub handles_of : State → List (List ℕ) → Result (List Handle) FaultKind
handles_of s [] = Ok []
handles_of s (name ∷ names) = as_handle (meaning_of s.names name) >>= λ handle. handles_of s names >>= λ handles. Ok (handle ∷ handles)

-- the value of a peer
abbrev pub peer_value : State → PeerText → Result PeerValue FaultKind
peer_value s (peer_text.At e) = value (scene s) e >>= λ x. Ok (whom.Number x)
peer_value s peer_text.Any = Ok whom.Any
peer_value s peer_text.Null = Ok whom.Null

-- the value of a tag
abbrev pub tag_value : State → TagText → Result TagValue FaultKind
tag_value s (tag_text.At e) = value (scene s) e >>= λ x. Ok (chosen.Number x)
tag_value s tag_text.Any = Ok chosen.Any

-- a rank is from 0 to size - 1 (MPI 4.0, 3.2.3)
abbrev pub peer_of : ℕ → PeerValue → Result Peer FaultKind
peer_of size (whom.Number (pos number)) = if nat_lt number size then Ok (peer.Rank number) else Err fault.BadRank
peer_of size (whom.Number (negsuc number)) = Err fault.BadRank
peer_of size whom.Any = Ok peer.Any
peer_of size whom.Null = Ok peer.Null

-- a tag is from 0 to 32,767 (MPI 4.0, 3.2.3: the greatest tag is at least that)
abbrev pub tag_of : TagValue → Result TagSel FaultKind
tag_of (chosen.Number (pos number)) = if nat_le number 32767 then Ok (tag.Tag number) else Err fault.BadTag
tag_of (chosen.Number (negsuc number)) = Err fault.BadTag
tag_of chosen.Any = Ok tag.Any
