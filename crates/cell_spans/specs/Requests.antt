-- What the table of a body keeps of its requests. No public clause cites this module.
use Rattle.std.specs.Prelude.{◌≡◌, ℕ, zero, suc, ◌+◌, Bool, true, not, ◌&&◌, ◌||◌, List, [], ◌∷◌, ◌++◌, if◌then◌else◌}
use Rattle.std.specs.List.{list_any}
use Rattle.rt_base.specs.declared.data.Span.{Span}
use Rattle.rt_base.specs.declared.data.Op.{Op}
use Rattle.rt_base.specs.declared.data.Handle.{Handle}
use Rattle.rt_base.specs.declared.data.Handle.TheVariants as handle
use Rattle.rt_base.specs.Operations.{PostingParts, blocks, is_receive, posting_parts, given}
use Rattle.rt_base.specs.InUse.{completes, names_request, posts, bound_statuses}
use Rattle.cell_spans.specs.Marks.{AreMarks}
use Rattle.cell_spans.specs.declared.in_use.Request.{Request}
use Rattle.cell_spans.specs.declared.in_use.SpansInUse.{SpansInUse}

-- what is kept of a request whose posting stands before these operations
abbrev pub request_posted : ℕ → PostingParts → List Op → Request
request_posted n posted later = record {
  span = posted.span;
  receives = is_receive posted.how;
  used = not (blocks posted.how || list_any (completes n) later);
  named = blocks posted.how || list_any (names_request n) later;
}

-- of the request of an operation, where it posts one
abbrev pub request_of : ℕ → Op → List Op → List Request
request_of n operation later = given [] (λ posted. request_posted n posted later ∷ []) (posting_parts operation)

-- and of all requests of these operations, the first of which posts the nth
abbrev pub requests_of : ℕ → List Op → List Request
requests_of n [] = []
requests_of n (operation ∷ more) = request_of n operation more ++ requests_of (n + posts operation) more

-- the spans in use of requests that pass the test
abbrev pub spans_of : (Request → Bool) → List Request → List Span
spans_of test [] = []
spans_of test (request ∷ requests) = if request.used && test request then request.span ∷ spans_of test requests else spans_of test requests

-- the request is of a receive
abbrev pub is_receiving : Request → Bool
is_receiving request = request.receives

-- the request is of a send
abbrev pub is_sending : Request → Bool
is_sending request = not request.receives

-- a wait, or one that only binds, names the request
abbrev pub noted : Bool → Request → Request
noted later request = record request { used = request.used && later; named = true }

-- the nth request is named, and no other
abbrev pub noted_at : Bool → ℕ → List Request → List Request
noted_at later n [] = []
noted_at later zero (request ∷ requests) = noted later request ∷ requests
noted_at later (suc n) (request ∷ requests) = request ∷ noted_at later n requests

-- the request of a handle is named; a null handle names none
abbrev pub noted_by : Bool → Handle → List Request → List Request
noted_by later handle.Null requests = requests
noted_by later (handle.Nth n) requests = noted_at later n requests

-- the requests of all these handles are named
abbrev pub noted_by_all : Bool → List Handle → List Request → List Request
noted_by_all later [] requests = requests
noted_by_all later (first ∷ handles) requests = noted_by_all later handles (noted_by later first requests)

-- the numbers of the requests that nothing waited for or named
abbrev pub unnamed : ℕ → List Request → List ℕ
unnamed n [] = []
unnamed n (request ∷ requests) = (if request.named then [] else n ∷ []) ++ unnamed (n + 1) requests

-- the bags have the spans in use of the requests, and these status spans
pub record HasSpans (table : SpansInUse) (statuses : List Span) : Type 0 where
  pub received : AreMarks table.received.begins table.received.ends (statuses ++ spans_of is_receiving table.requests.items)
  pub sent : AreMarks table.sent.begins table.sent.ends (spans_of is_sending table.requests.items)

-- the table stands behind these operations
pub record Holds (table : SpansInUse) (earlier : List Op) : Type 0 where
  pub requests : table.requests.items ≡ requests_of 0 earlier
  pub spans : HasSpans table (bound_statuses earlier)
