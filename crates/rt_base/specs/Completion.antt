-- When a request is complete, what a receive stores, and the status.
use Rattle.std.specs.Prelude.{ℕ, Bool, true, false, ◌||◌, ◌&&◌, not, nat_le, nat_lt, min, length, List, [], ◌∷◌, take, find, ℤ, pos, negsuc, Option}
use Rattle.std.specs.Prelude.{Some, None, is_some, if◌then◌else◌}
use Rattle.std.specs.List.{list_any}
use Rattle.rt_base.specs.declared.data.ReqNo.{ReqNo}
use Rattle.rt_base.specs.declared.data.Span.{Span}
use Rattle.rt_base.specs.declared.data.Peer.{Peer}
use Rattle.rt_base.specs.declared.data.Peer.TheVariants as peer
use Rattle.rt_base.specs.declared.data.How.{How}
use Rattle.rt_base.specs.declared.data.Op.{Op}
use Rattle.rt_base.specs.declared.data.Status.{Status}
use Rattle.rt_base.specs.declared.data.Program.{Program}
use Rattle.rt_base.specs.Spans.{span_len}
use Rattle.rt_base.specs.Operations.{posting_of, is_standard, is_receive, by_parts_of}
use Rattle.rt_base.specs.Matching.{Message, same_request}
use Rattle.rt_base.specs.Exchange.{Exchange, Match}

-- the request takes part in the match
abbrev pub is_party : ReqNo → Match → Bool
is_party req found = same_request found.message.request req || same_request found.receive.request req

-- the match in which the request takes part, where there is one
abbrev pub match_with : List Match → ReqNo → Option Match
match_with matches req = find (is_party req) matches

-- it is to or from the null process (MPI 4.0, 3.11)
abbrev pub is_null : Peer → Bool
is_null (peer.Rank rank) = false
is_null peer.Any = false
is_null peer.Null = true

-- complete as it is posted: to or from the null process, or a standard send of at most as many cells as the eager limit
-- (MPI 4.0, 3.4 leaves it to the library when a standard send completes; the limit is this project's)
abbrev pub completes_at_once : ℕ → How → Span → Peer → Bool
completes_at_once eager how span whom = is_null whom || (is_standard how && nat_le (span_len span) eager)

-- whether a posting is complete before it is matched: an eager send, or one to or from no process (MPI 4.0, 3.4 and 3.10)
abbrev pub completes_alone : ℕ → Option Op → Bool
completes_alone eager operation = by_parts_of false (λ posted. completes_at_once eager posted.how posted.span posted.peer) (λ waited. false) operation

-- the request was posted
abbrev pub is_posted : Exchange → ReqNo → Bool
is_posted exchange req = list_any (same_request req) exchange.posted

-- a posted request is complete when it was matched or completes by itself (MPI 4.0, 3.4 and 3.7.3)
unfoldable pub is_complete : Program → Exchange → ReqNo → Bool
is_complete program exchange req =
    is_posted exchange req && (is_some (match_with exchange.matches req) || completes_alone program.eager (posting_of program req))

-- what a receive into the span stores: the cells that fit (MPI 4.0, 3.2.4, truncation; storing those that fit is this project's)
abbrev pub stored_cells : Span → Message → List ℤ
stored_cells span message = take (span_len span) message.cells

-- the empty status: of the null request (MPI 4.0, 3.7.3), and here of every send, of whose status MPI says nothing
-- (any source, any tag and no error as -1, -1 and 0 are this project's)
abbrev pub empty_status : Status
empty_status = record { source = negsuc 0; tag = negsuc 0; count = 0; error = 0 }

-- the status of a receive from the null process: the null process, any tag, no cell (MPI 4.0, 3.11; -2 and -1 are this project's)
abbrev pub null_status : Status
null_status = record { source = negsuc 1; tag = negsuc 0; count = 0; error = 0 }

-- the status of a receive that took this message: its source and tag, and how many cells were stored (MPI 4.0, 3.2.5;
-- error 1 of a message that was cut, and 0 of every other, are this project's)
abbrev pub message_status : Span → Message → Status
message_status span message = record {
  source = pos message.source;
  tag = pos message.tag;
  count = min (span_len span) (length message.cells);
  error = if nat_lt (span_len span) (length message.cells) then 1 else 0;
}

-- the status of a receive: that of its message, of no process, or the empty one (MPI 4.0, 3.2.5, 3.7.3 and 3.10)
abbrev pub receive_status : Span → Peer → Option Match → Status
receive_status span whom None = if is_null whom then null_status else empty_status
receive_status span whom (Some found) = message_status span found.message

-- the cells that a receive stores
abbrev pub receive_cells : Span → Option Match → List ℤ
receive_cells span None = []
receive_cells span (Some found) = stored_cells span found.message

-- the status of an operation by its match: of a send it is the empty one
abbrev pub status_by : Option Match → Option Op → Status
status_by found operation =
    by_parts_of empty_status (λ posted. if is_receive posted.how then receive_status posted.span posted.peer found else empty_status) (λ waited. empty_status)
    operation

-- the cells that an operation stores by its match
abbrev pub cells_by : Option Match → Option Op → List ℤ
cells_by found operation =
    by_parts_of [] (λ posted. if is_receive posted.how then receive_cells posted.span found else []) (λ waited. []) operation

-- the status of a complete request (MPI 4.0, 3.2.5, 3.7.3 and 3.11)
unfoldable pub request_status : Program → Exchange → ReqNo → Status
request_status program exchange req = status_by (match_with exchange.matches req) (posting_of program req)

-- the cells that a complete request stores: those of a matched receive, and none of any other
unfoldable pub request_cells : Program → Exchange → ReqNo → List ℤ
request_cells program exchange req = cells_by (match_with exchange.matches req) (posting_of program req)
