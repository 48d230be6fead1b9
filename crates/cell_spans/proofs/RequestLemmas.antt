-- What the table of requests tells of the operations.
use Rattle.std.proofs.Common.{◌≡◌, ◌∙◌, ℕ, zero, suc, ◌+◌, ◌<◌, ◌≤◌, cond, Bool, true, false, not, ◌&&◌, ◌||◌, List, [], ◌∷◌, ◌++◌, Option, Some}
use Rattle.std.proofs.Common.{None, is_some, length, count_by, slice_index_or, slice_set, refl, sym, ap, append-nil, subst, arith, ⊎_elim}
use Rattle.std.proofs.Common.{if◌then◌else◌}
use Rattle.std.specs.List.{list_any}
use Rattle.std.proofs.lemmas.Bool.{cases_Bool, ne_eqb, eq-eqb}
use Rattle.std.proofs.lemmas.Grind.{common_steps}
use Rattle.std.proofs.lemmas.List.Sums.{sum_by-append, sum_by_push, sum_by-set}
use Rattle.rt_base.specs.declared.data.Span.{Span}
use Rattle.rt_base.specs.Listing.{Listing}
use Rattle.rt_base.specs.declared.data.How.{How}
use Rattle.rt_base.specs.declared.data.Handle.{Handle}
use Rattle.rt_base.specs.declared.data.Handle.TheVariants as handle
use Rattle.rt_base.specs.declared.data.Op.{Op}
use Rattle.rt_base.specs.declared.data.Op.TheVariants as op
use Rattle.rt_base.specs.Operations.{PostingParts, posting_parts, given, blocks, is_receive, is_posting, postings}
use Rattle.rt_base.specs.InUse.{is_nth, completes, names_request, left_after, used_after, bound_status, bound_statuses}
use Rattle.cell_spans.specs.declared.in_use.Request.{Request}
use Rattle.cell_spans.specs.Marks.{AreMarks}
use Rattle.cell_spans.specs.Requests.{request_posted, request_of, requests_of, spans_of, is_receiving, is_sending, noted, noted_at, noted_by_all}
use Rattle.cell_spans.specs.Requests.{unnamed, HasSpans, Holds}
use Rattle.cell_spans.specs.declared.in_use.SpansInUse.{SpansInUse}
use Rattle.cell_spans.proofs.CoveringLemmas.{any_push}
use Rattle.cell_spans.proofs.CountLemmas.{count_first, count_yes, count_no}
use Rattle.cell_spans.proofs.MarkLemmas.{marks_same}

-- the spans in use are those of the requests that are in use
one_used : (b r c : Bool) (span : Span) (spans : List Span)
    → (if b || (not r || c) then [] else span ∷ []) ++ spans ≡ (if not (b || c) && r then span ∷ spans else spans)
one_used true r c span spans = refl
one_used false true true span spans = refl
one_used false true false span spans = refl
one_used false false true span spans = refl
one_used false false false span spans = refl

-- the requests, where the first operation posts this or nothing
abbrev request_with : ℕ → List Op → Option PostingParts → List Request
request_with n later parts = given [] (λ posted. request_posted n posted later ∷ []) parts

abbrev requests_with : ℕ → List Op → Option PostingParts → List Request
requests_with n more parts = request_with n more parts ++ requests_of (n + (if is_some parts then 1 else 0)) more

-- the same of the requests that are left, and of the spans in use
abbrev left_with : ℕ → List Op → Option PostingParts → List ℕ
left_with n more parts =
    given [] (λ posted. if blocks posted.how || list_any (names_request n) more then [] else n ∷ []) parts ++ left_after
    (n + (if is_some parts then 1 else 0)) more

abbrev used_with : (How → Bool) → ℕ → List Op → Option PostingParts → List Span
used_with test n more parts =
    given [] (λ posted. if blocks posted.how || (not (test posted.how) || list_any (completes n) more) then [] else posted.span ∷ []) parts
    ++ used_after test (n + (if is_some parts then 1 else 0)) more

pub received_is : (n : ℕ) (ops : List Op) → used_after is_receive n ops ≡ spans_of is_receiving (requests_of n ops)
unfolding used_after
received_is n [] = refl
received_is n (operation ∷ more) = by (posting_parts operation) (λ m. received_is m more)
  where
    by : (parts : Option PostingParts) → ((m : ℕ) → used_after is_receive m more ≡ spans_of is_receiving (requests_of m more))
        → used_with is_receive n more parts ≡ spans_of is_receiving (requests_with n more parts)
    by None behind = behind (n + 0)
    by (Some posted) behind =
        one_used (blocks posted.how) (is_receive posted.how) (list_any (completes n) more) posted.span (used_after is_receive (n + 1) more)
        ∙ ap (λ spans. if not (blocks posted.how || list_any (completes n) more) && is_receive posted.how then posted.span ∷ spans else spans) (behind (n + 1))

pub sent_is : (n : ℕ) (ops : List Op) → used_after (λ how. not (is_receive how)) n ops ≡ spans_of is_sending (requests_of n ops)
unfolding used_after
sent_is n [] = refl
sent_is n (operation ∷ more) = by (posting_parts operation) (λ m. sent_is m more)
  where
    by : (parts : Option PostingParts) → ((m : ℕ) → used_after (λ how. not (is_receive how)) m more ≡ spans_of is_sending (requests_of m more))
        → used_with (λ how. not (is_receive how)) n more parts ≡ spans_of is_sending (requests_with n more parts)
    by None behind = behind (n + 0)
    by (Some posted) behind =
        one_used (blocks posted.how) (not (is_receive posted.how)) (list_any (completes n) more) posted.span
        (used_after (λ how. not (is_receive how)) (n + 1) more)
        ∙ ap (λ spans. if not (blocks posted.how || list_any (completes n) more) && not (is_receive posted.how) then posted.span ∷ spans else spans)
        (behind (n + 1))

-- the requests that are left are those that nothing named
pub left_is : (n m : ℕ) (ops : List Op) → m ≡ n → left_after m ops ≡ unnamed n (requests_of m ops)
unfolding left_after
left_is n m [] same = refl
left_is n m (operation ∷ more) same = by (posting_parts operation) (λ k l equal. left_is k l more equal)
  where
    by : (parts : Option PostingParts) → ((k l : ℕ) → l ≡ k → left_after l more ≡ unnamed k (requests_of l more))
        → left_with m more parts ≡ unnamed n (requests_with m more parts)
    by None behind = behind n (m + 0) (omega (arith, same))
    by (Some posted) behind =
        rw same (ap (λ rest. (if blocks posted.how || list_any (names_request n) more then [] else n ∷ []) ++ rest) (behind (n + 1) (n + 1) refl))

-- there are as many requests as postings
pub count_is : (n : ℕ) (ops : List Op) → length (requests_of n ops) ≡ postings ops
count_is n [] = refl
count_is n (operation ∷ more) = by (posting_parts operation) refl (λ m. count_is m more)
  where
    by : (parts : Option PostingParts) → posting_parts operation ≡ parts → ((m : ℕ) → length (requests_of m more) ≡ postings more)
        → length (requests_with n more parts) ≡ postings (operation ∷ more)
    by None is behind = behind (n + 0) ∙ sym (count_no is_posting operation more (ap is_some is))
    by (Some posted) is behind =
        let rest : length (requests_of (n + 1) more) ≡ postings more = behind (n + 1) in
        omega (arith, rest, count_yes is_posting operation more (ap is_some is))

-- one more operation: what it completes and names of the requests before it, by their numbers
abbrev pub touched : (ℕ → Bool) → (ℕ → Bool) → ℕ → List Request → List Request
touched frees names n [] = []
touched frees names n (request ∷ requests) =
    record request { used = request.used && not (frees n); named = request.named || names n } ∷ touched frees names (n + 1) requests

used_more : (b c x : Bool) → not (b || (x || c)) ≡ (not (b || c) && not x)
used_more true c x = refl
used_more false true true = refl
used_more false false true = refl
used_more false true false = refl
used_more false false false = refl

named_more : (b c x : Bool) → (b || (x || c)) ≡ ((b || c) || x)
named_more true c x = refl
named_more false true true = refl
named_more false false true = refl
named_more false true false = refl
named_more false false false = refl

pub appended : (n m : ℕ) (ops : List Op) (a : Op) → m ≡ n
    → requests_of m (ops ++ a ∷ []) ≡ touched (λ k. completes k a) (λ k. names_request k a) n (requests_of m ops) ++ request_of 0 a []
appended n m [] a same = by (posting_parts a)
  where
    by : (parts : Option PostingParts) → requests_with m [] parts ≡ request_with 0 [] parts
    by None = refl
    by (Some posted) = refl
appended n m (operation ∷ more) a same = by (posting_parts operation) (λ k l equal. appended k l more a equal)
  where
    by : (parts : Option PostingParts)
        → ((k l : ℕ) → l ≡ k → requests_of l (more ++ a ∷ [])
        ≡ touched (λ i. completes i a) (λ i. names_request i a) k (requests_of l more) ++ request_of 0 a [])
        → requests_with m (more ++ a ∷ []) parts ≡ touched (λ k. completes k a) (λ k. names_request k a) n (requests_with m more parts) ++ request_of 0 a []
    by None behind = behind n (m + 0) (omega (arith, same))
    by (Some posted) behind =
        rw (
          same,
          any_push (completes n) more a,
          any_push (names_request n) more a,
          used_more (blocks posted.how) (list_any (completes n) more) (completes n a),
          named_more (blocks posted.how) (list_any (names_request n) more) (names_request n a),
          behind (n + 1) (n + 1) refl,
        ) refl

pub and_true : (b : Bool) → (b && true) ≡ b
and_true true = refl
and_true false = refl

pub or_false : (b : Bool) → (b || false) ≡ b
or_false true = refl
or_false false = refl

-- a wait that names no request changes none
pub untouched_requests : (frees names : ℕ → Bool) (n : ℕ) (requests : List Request) → ((k : ℕ) → frees k ≡ false) → ((k : ℕ) → names k ≡ false)
    → touched frees names n requests ≡ requests
untouched_requests frees names n [] no_frees no_names = refl
untouched_requests frees names n (request ∷ requests) no_frees no_names =
    rw (no_frees n, no_names n, and_true request.used, or_false request.named, untouched_requests frees names (n + 1) requests no_frees no_names) refl

-- what a wait frees and names, by the handles that it has
abbrev pub frees_by : Bool → List Handle → ℕ → Bool
frees_by later handles k = not later && list_any (is_nth k) handles

abbrev pub names_by : List Handle → ℕ → Bool
names_by handles k = list_any (is_nth k) handles

past : (later : Bool) (k n : ℕ) (handles : List Handle) (requests : List Request) → k < n
    → touched (frees_by later (handle.Nth k ∷ handles)) (names_by (handle.Nth k ∷ handles)) n requests
    ≡ touched (frees_by later handles) (names_by handles) n requests
past later k n handles [] below = refl
past later k n handles (request ∷ requests) below = rw (ne_eqb k n (λ same. omega arith), past later k (n + 1) handles requests (omega arith)) refl

used_first : (u later x : Bool) → (u && not (not later && (true || x))) ≡ ((u && later) && not (not later && x))
used_first true true x = refl
used_first true false true = refl
used_first true false false = refl
used_first false later x = refl

named_first : (m : Bool) → (m || true) ≡ true
named_first true = refl
named_first false = refl

one_handle : (later : Bool) (k n m : ℕ) (handles : List Handle) (requests : List Request) → k ≡ n + m
    → touched (frees_by later (handle.Nth k ∷ handles)) (names_by (handle.Nth k ∷ handles)) n requests
    ≡ touched (frees_by later handles) (names_by handles) n (noted_at later m requests)
one_handle later k n m handles [] same = refl
one_handle later k n zero handles (request ∷ requests) same =
    rw (
      eq-eqb k n (omega arith),
      used_first request.used later (list_any (is_nth n) handles),
      named_first request.named,
      past later k (n + 1) handles requests (omega arith),
    ) refl
one_handle later k n (suc m) handles (request ∷ requests) same =
    rw (ne_eqb k n (λ at. omega arith), one_handle later k (n + 1) m handles requests (omega arith)) refl

pub all_handles : (later : Bool) (handles : List Handle) (requests : List Request)
    → touched (frees_by later handles) (names_by handles) 0 requests ≡ noted_by_all later handles requests
all_handles later [] requests = untouched_requests (frees_by later []) (names_by []) 0 requests (λ k. nothing later) (λ k. refl)
  where
    nothing : (l : Bool) → (not l && false) ≡ false
    nothing true = refl
    nothing false = refl
all_handles later (handle.Null ∷ handles) requests = all_handles later handles requests
all_handles later (handle.Nth k ∷ handles) requests = one_handle later k 0 k handles requests (omega arith)
    ∙ all_handles later handles (noted_at later k requests)

-- the table's place in the list that a wait changes
pub noted_is : (later : Bool) (n : ℕ) (requests : List Request) (d : Request) → n < length requests
    → noted_at later n requests ≡ slice_set requests n (noted later (slice_index_or requests n d))
noted_is later n [] d inside = absurd (omega arith)
noted_is later zero (request ∷ requests) d inside = refl
noted_is later (suc n) (request ∷ requests) d inside = ap (λ rest. request ∷ rest) (noted_is later n requests d (omega arith))

pub noted_none : (later : Bool) (n : ℕ) (requests : List Request) → length requests ≤ n → noted_at later n requests ≡ requests
noted_none later n [] past = refl
noted_none later zero (request ∷ requests) past = absurd (omega arith)
noted_none later (suc n) (request ∷ requests) past = ap (λ rest. request ∷ rest) (noted_none later n requests (omega arith))

-- spans in use, counted over the requests
abbrev pub weighs : (Span → Bool) → (Request → Bool) → Request → Bool
weighs q test request = (request.used && test request) && q request.span

weighed : (q : Span → Bool) (test : Request → Bool) (requests : List Request) → count_by q (spans_of test requests) ≡ count_by (weighs q test) requests
weighed q test [] = refl
weighed q test (request ∷ requests) =
    ⊎_elim (λ (yes : (request.used && test request) ≡ true). omega (
      arith,
      weighed q test requests,
      count_first (weighs q test) request requests,
      with_it yes,
      ap {B = ℕ} (λ b. cond (b && q request.span) 1 0) yes,
    ))
    (λ (not_it : (request.used && test request) ≡ false). omega (
      arith,
      weighed q test requests,
      count_first (weighs q test) request requests,
      without_it not_it,
      ap {B = ℕ} (λ b. cond (b && q request.span) 1 0) not_it,
    ))
    (cases_Bool (request.used && test request))
  where
    with_it : (request.used && test request) ≡ true
        → count_by q (spans_of test (request ∷ requests)) ≡ cond (q request.span) 1 0 + count_by q (spans_of test requests)
    with_it e = ap (λ b. count_by q (if b then request.span ∷ spans_of test requests else spans_of test requests)) e
        ∙ count_first q request.span (spans_of test requests)

    without_it : (request.used && test request) ≡ false → count_by q (spans_of test (request ∷ requests)) ≡ count_by q (spans_of test requests)
    without_it e = ap (λ b. count_by q (if b then request.span ∷ spans_of test requests else spans_of test requests)) e

-- a span in front, where the request is in use
in_front : (b : Bool) (q : Span → Bool) (span : Span) (spans : List Span)
    → count_by q (if b then span ∷ spans else spans) ≡ cond (b && q span) 1 0 + count_by q spans
in_front true q span spans = count_first q span spans
in_front false q span spans = omega arith

-- a bag after its request was added
pub pushed : (test : Request → Bool) (requests : List Request) (request : Request) (statuses : List Span) (begins ends : List ℕ)
    → AreMarks begins ends (if request.used && test request then request.span ∷ (statuses ++ spans_of test requests) else (statuses ++ spans_of test requests))
    → AreMarks begins ends (statuses ++ spans_of test (requests ++ request ∷ []))
pushed test requests request statuses begins ends = marks_same begins ends _ _ (λ q.
    omega (
      arith,
      in_front (request.used && test request) q request.span (statuses ++ spans_of test requests),
      sum_by-append (λ s. cond (q s) 1 0) statuses (spans_of test requests),
      sum_by-append (λ s. cond (q s) 1 0) statuses (spans_of test (requests ++ request ∷ [])),
      weighed q test requests,
      weighed q test (requests ++ request ∷ []),
      sum_by_push (λ r. cond (weighs q test r) 1 0) requests request,
    ))

-- a bag before its request is freed, and one whose request is named alone
pub freed : (test : Request → Bool) (requests : List Request) (n : ℕ) (request changed : Request) (statuses : List Span) (begins ends : List ℕ)
    → n < length requests → request ≡ slice_index_or requests n request → changed.used ≡ false
    → AreMarks begins ends (statuses ++ spans_of test requests)
    → AreMarks begins ends (if request.used && test request then request.span ∷ (statuses ++ spans_of test (slice_set requests n changed)) else
    (statuses ++ spans_of test (slice_set requests n changed)))
freed test requests n request changed statuses begins ends inside is free = marks_same begins ends _ _ (λ q.
    omega (
      arith,
      in_front (request.used && test request) q request.span (statuses ++ spans_of test (slice_set requests n changed)),
      sum_by-append (λ s. cond (q s) 1 0) statuses (spans_of test requests),
      sum_by-append (λ s. cond (q s) 1 0) statuses (spans_of test (slice_set requests n changed)),
      weighed q test requests,
      weighed q test (slice_set requests n changed),
      sum_by-set (λ r. cond (weighs q test r) 1 0) requests n changed request inside,
      ap {B = ℕ} (λ r. cond (weighs q test r) 1 0) is,
      ap {B = ℕ} (λ b. cond ((b && test changed) && q changed.span) 1 0) free,
    ))

pub named_alone : (test : Request → Bool) (requests : List Request) (n : ℕ) (request changed : Request) (statuses : List Span) (begins ends : List ℕ)
    → n < length requests → request ≡ slice_index_or requests n request → (changed.used && test changed) ≡ (request.used && test request)
    → changed.span ≡ request.span
    → AreMarks begins ends (statuses ++ spans_of test requests)
    → AreMarks begins ends (statuses ++ spans_of test (slice_set requests n changed))
named_alone test requests n request changed statuses begins ends inside is same same_span = marks_same begins ends _ _ (λ q.
    omega (
      arith,
      sum_by-append (λ s. cond (q s) 1 0) statuses (spans_of test requests),
      sum_by-append (λ s. cond (q s) 1 0) statuses (spans_of test (slice_set requests n changed)),
      weighed q test requests,
      weighed q test (slice_set requests n changed),
      sum_by-set (λ r. cond (weighs q test r) 1 0) requests n changed request inside,
      ap {B = ℕ} (λ r. cond (weighs q test r) 1 0) is,
      ap {B = ℕ} (λ b. cond (b && q changed.span) 1 0) same,
      ap {B = ℕ} (λ s. cond ((request.used && test request) && q s) 1 0) same_span,
    ))

-- the order of the two kinds of spans doesn't matter
pub any_append : {X : Type 0} (test : X → Bool) (xs ys : List X) → list_any test (xs ++ ys) ≡ (list_any test xs || list_any test ys)
any_append test [] ys = refl
any_append test (x ∷ xs) ys = ap (λ b. test x || b) (any_append test xs ys) ∙ sym (or_assoc (test x) (list_any test xs) (list_any test ys))
  where
    or_assoc : (a b c : Bool) → ((a || b) || c) ≡ (a || (b || c))
    or_assoc true b c = refl
    or_assoc false b c = refl

pub any_either_way : {X : Type 0} (test : X → Bool) (xs ys : List X) → list_any test (xs ++ ys) ≡ list_any test (ys ++ xs)
any_either_way test xs ys = any_append test xs ys ∙ swap (list_any test xs) (list_any test ys) ∙ sym (any_append test ys xs)
  where
    swap : (a b : Bool) → (a || b) ≡ (b || a)
    swap true true = refl
    swap true false = refl
    swap false true = refl
    swap false false = refl

pub and_false : (b : Bool) → (b && false) ≡ false
and_false true = refl
and_false false = refl

-- the bags don't tell in which order their spans came
pub status_last : (span : Span) (statuses spans : List Span) (begins ends : List ℕ) → AreMarks begins ends (span ∷ (statuses ++ spans))
    → AreMarks begins ends ((statuses ++ span ∷ []) ++ spans)
status_last span statuses spans begins ends = marks_same begins ends _ _ (λ q.
    omega (
      arith,
      count_first q span (statuses ++ spans),
      sum_by-append (λ s. cond (q s) 1 0) statuses spans,
      sum_by-append (λ s. cond (q s) 1 0) (statuses ++ span ∷ []) spans,
      sum_by_push (λ s. cond (q s) 1 0) statuses span,
    ))

assoc : (xs ys zs : List Span) → xs ++ (ys ++ zs) ≡ (xs ++ ys) ++ zs
assoc xs ys zs = grind (arith, common_steps)

-- the status spans that one more operation binds
pub bound_more : (ops : List Op) (a : Op) → bound_statuses (ops ++ a ∷ []) ≡ bound_statuses ops ++ bound_statuses (a ∷ [])
bound_more [] a = refl
bound_more (operation ∷ more) a = ap (λ rest. bound_status operation ++ rest) (bound_more more a)
    ∙ assoc (bound_status operation) (bound_statuses more) (bound_statuses (a ∷ []))

-- a table that has noted one more operation stands behind it
pub holds_after : (table after : SpansInUse) (earlier : List Op) (a : Op) → Holds table earlier
    → after.requests.items ≡ touched (λ k. completes k a) (λ k. names_request k a) 0 table.requests.items ++ request_of 0 a []
    → HasSpans after (bound_statuses earlier ++ bound_statuses (a ∷ [])) → Holds after (earlier ++ a ∷ [])
holds_after table after earlier a holds are spans = record {
  requests = are ∙ ap (λ requests. touched (λ k. completes k a) (λ k. names_request k a) 0 requests ++ request_of 0 a []) holds.requests
      ∙ sym (appended 0 0 earlier a refl);
  spans = subst (HasSpans after) (sym (bound_more earlier a)) spans;
}

-- where the operation names nothing, the requests stay, with what it posts behind them
pub nothing_named : (a : Op) (requests : List Request) → ((k : ℕ) → completes k a ≡ false) → ((k : ℕ) → names_request k a ≡ false)
    → requests ++ request_of 0 a [] ≡ touched (λ k. completes k a) (λ k. names_request k a) 0 requests ++ request_of 0 a []
nothing_named a requests no_frees no_names =
    ap (λ rest. rest ++ request_of 0 a []) (sym (untouched_requests (λ k. completes k a) (λ k. names_request k a) 0 requests no_frees no_names))

pub is_posted : (how : How) (span : Span) (receives waits waits_too : Bool) → receives ≡ is_receive how → waits ≡ blocks how → waits_too ≡ blocks how
    → ◌≡◌ {A = Request} (record { span = span; receives = receives; used = not waits; named = waits_too })
    (record { span = span; receives = is_receive how; used = not (blocks how || false); named = blocks how || false })
is_posted how span receives waits waits_too receives_is waits_is waits_too_is = rw (receives_is, waits_is, waits_too_is, or_false (blocks how)) refl

-- a wait changes the requests as its handles do
pub waited : (later : Bool) (handles : Listing Handle) (status : Option Span) (requests : List Request)
    → noted_by_all later handles.items requests
    ≡ touched (λ k. completes k (op.Await later handles status)) (λ k. names_request k (op.Await later handles status)) 0 requests ++ []
waited later handles status requests = sym (append-nil _ ∙ all_handles later handles.items requests)
