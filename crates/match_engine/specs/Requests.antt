-- Which requests of a program are sends, and which are receives.
use Rattle.std.specs.Prelude.{◌≡◌, ℕ, true, false, Option, option_and_then}
use Rattle.std.specs.Option.{MatchOption}
use Rattle.rt_base.specs.declared.data.ReqNo.{ReqNo}
use Rattle.rt_base.specs.declared.data.Span.{Span}
use Rattle.rt_base.specs.declared.data.Op.{Op}
use Rattle.rt_base.specs.declared.data.Program.{Program}
use Rattle.rt_base.specs.Spans.{span_len}
use Rattle.rt_base.specs.Operations.{PostingParts, posting_of, posting_parts, is_receive}

-- the operation is a posting of which this holds
abbrev pub Posts : (PostingParts → Type 0) → Option Op → Type 0
Posts Fact operation = MatchOption (option_and_then posting_parts operation) ⊥ Fact

-- the operation sends so many cells (MPI 4.0, 3.2.1, 3.4 and 3.7.2)
abbrev pub Sends : ℕ → Option Op → Type 0
Sends count operation = Posts (λ parts. (is_receive parts.how ≡ false) × (count ≡ span_len parts.span)) operation

-- the operation receives (MPI 4.0, 3.2.4 and 3.7.2)
abbrev pub Receives : Option Op → Type 0
Receives operation = Posts (λ parts. is_receive parts.how ≡ true) operation

-- the operation is a posting with this span
abbrev pub HasSpan : Option Op → Span → Type 0
HasSpan operation span = Posts (λ parts. parts.span ≡ span) operation

-- the request of the program is a send of so many cells
abbrev pub IsSend : Program → ReqNo → ℕ → Type 0
IsSend program req count = Sends count (posting_of program req)

-- the request of the program is a receive
abbrev pub IsReceive : Program → ReqNo → Type 0
IsReceive program req = Receives (posting_of program req)
