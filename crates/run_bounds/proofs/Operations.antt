-- What well-formed programs and their operations give: what they post, name, declare and count.
use Rattle.std.proofs.Common.{◌≡◌, ℕ, zero, suc, ◌+◌, ◌<◌, ◌≤◌, Bool, true, false, ◌||◌, cond, List, [], ◌∷◌, length, take, drop, filter, slice_get, Some}
use Rattle.std.proofs.Common.{None, Option, refl, sym, ap, ◌∙◌, subst, inl, inr, arith, IsSome, IfSome, ◌*◌, get_or, map, Contains, eqb, eqb-true}
use Rattle.std.specs.Prelude.{ℤ, option_and_then, count_by, sum_by}
use Rattle.std.specs.List.{list_any, IsDistinct, AllByRecursion}
use Rattle.std.proofs.lemmas.Option.{slice_get_within, get_or_from_slice_get}
use Rattle.std.proofs.lemmas.List.Sums.{sum_by-cons, length-filter, count_by-le-length, get_or-le-sum_by}
use Rattle.rt_base.specs.declared.data.ReqNo.{ReqNo}
use Rattle.rt_base.specs.declared.data.Span.{Span}
use Rattle.rt_base.specs.declared.data.Peer.{Peer}
use Rattle.rt_base.specs.declared.data.TagSel.{TagSel}
use Rattle.rt_base.specs.declared.data.How.{How}
use Rattle.rt_base.specs.declared.data.Op.{Op}
use Rattle.rt_base.specs.declared.data.Op.TheVariants as op
use Rattle.rt_base.specs.declared.data.Phase.TheVariants as phase
use Rattle.rt_base.specs.declared.data.TaskDef.{TaskDef}
use Rattle.rt_base.specs.declared.data.Program.{Program}
use Rattle.rt_base.specs.Spans.{span_len}
use Rattle.rt_base.specs.Operations.{request, is_local, is_receive, is_posting, posting_of, nth_at, named_requests, postings}
use Rattle.rt_base.specs.Matching.{same_request}
use Rattle.rt_base.specs.Exchange.{Exchange, post}
use Rattle.rt_base.specs.WellFormed.{WellFormed, IsTask, IsOperation, IsPostingOf, IsDeclared, OfSpan, MayWrite, names_of}
use Rattle.task_local.specs.Local.{advanced, stop, run_front, stop_at}
use Rattle.rt_base.specs.declared.data.How.TheVariants as how
use Rattle.task_machine.specs.Machine.{open_count}
use Rattle.std.proofs.lemmas.Bool.{false_from_ne_true, or_cases, or_right}
use Rattle.task_machine.proofs.Items.{same_some}
use Rattle.task_machine.proofs.Stops.{drop_at}
use Rattle.rt_base.specs.Listing.{Listing}
use Rattle.rt_base.specs.declared.data.Handle.{Handle}
use Rattle.std.proofs.lemmas.List.{length-map}
use Rattle.std.proofs.lemmas.List.Elements.{Contains-append_cases}
use Rattle.std.proofs.lemmas.Map.Steps.{length-le_from_distinct_below}
use Rattle.rt_base.specs.declared.data.Handle.TheVariants as handle
use Rattle.rt_base.specs.InUse.{left_by, left_after, posts}
use Rattle.rt_base.proofs.SameRequest.{same_from_eq}
use Rattle.tidy_runs.specs.Tidy.{AreOf, IsBoundBy}
use Rattle.tidy_runs.proofs.Bodies.{contains_cases, nothing_in}
use Rattle.run_bounds.proofs.Few.{one_of_sum}

one_left : (n m : ℕ) (b : Bool) → Contains (cond b [] (m ∷ [])) n → m ≡ n
one_left n m true has = absurd (nothing_in n has)
one_left n m false has = elim (contains_cases m [] n has) [ inl same ↦ same | inr more ↦ absurd (nothing_in n more) ]

-- only a posting leaves its request
left_here : (m n : ℕ) (x : Op) (more : List Op) → Contains (left_by m x more) n → (m ≡ n) × (posts x ≡ 1)
left_here m n (op.Compute kind dst left right value step) more has = absurd (nothing_in n has)
left_here m n (op.Post how span peer tag comm status) more has = (one_left n m _ has, refl)
left_here m n (op.Await later handles status) more has = absurd (nothing_in n has)

posts_once : (x : Op) (more : List Op) → postings (x ∷ more) ≡ posts x + postings more
posts_once x more = sum_by-cons (λ (y : Op). cond (is_posting y) 1 0) x more

-- what these operations leave, they posted
pub left_below : (m n : ℕ) (ops : List Op) → Contains (left_after m ops) n → n < m + postings ops
unfolding left_after
left_below m n [] has = absurd (nothing_in n has)
left_below m n (x ∷ more) has = elim (Contains-append_cases (left_by m x more) (left_after (m + posts x) more) n has) [
  | inl here ↦ let one = left_here m n x more here in omega (arith, one.0, one.1, posts_once x more)
  | inr later ↦ omega (arith, left_below (m + posts x) n more later, posts_once x more)
]

-- each posting of a body is found by its number
found_within : (ops : List Op) (n : ℕ) → n < length ops → IsSome (slice_get ops n)
found_within [] n below = absurd (omega (arith, below))
found_within (y ∷ ops) zero below = refl
found_within (y ∷ ops) (suc n) below = found_within ops n (omega arith)

pub posting_exists : (p : Program) (t n : ℕ) (def : TaskDef) → slice_get p.tasks.items t ≡ Some def → n < postings def.body.items
    → IsSome (posting_of p (request t n))
posting_exists p t n def is_def below =
    subst (λ (o : Option TaskDef). IsSome (option_and_then (λ (task : TaskDef). slice_get (filter is_posting task.body.items) n) o)) (sym is_def)
    (found_within (filter is_posting def.body.items) n (omega (arith, length-filter is_posting def.body.items)))

-- the handles of a wait are counted in 32 bits
pub few_handles : (p : Program) (t k : ℕ) (def : TaskDef) (later : Bool) (handles : Listing Handle) (status : Option Span) → WellFormed p
    → slice_get p.tasks.items t ≡ Some def → slice_get def.body.items k ≡ Some (op.Await later handles status) → length handles.items ≤ 1048576
few_handles p t k def later handles status well is_def here =
    let x : Op = op.Await later handles status in
    let one : length handles.items ≡ names_of (get_or def.body.items k x) = ap names_of (sym (get_or_from_slice_get def.body.items k x x here)) in
    let own = get_or-le-sum_by names_of def.body.items k x (slice_get_within def.body.items k x here) in
    let all = one_of_sum (λ (d : TaskDef). sum_by names_of d.body.items) p.tasks.items t def is_def in
    let limit : sum_by (λ (d : TaskDef). sum_by names_of d.body.items) p.tasks.items ≤ 1048576 = well.handles in
    omega arith

-- no more requests are named than there are handles, and no more of them are incomplete
named_few : (t : ℕ) (handles : List Handle) → length (named_requests t handles) ≤ length handles
named_few t [] = omega arith
named_few t (handle.Null ∷ handles) = omega (arith, named_few t handles)
named_few t (handle.Nth n ∷ handles) = omega (arith, named_few t handles)

pub open_few : (p : Program) (x : Exchange) (reqs : List ReqNo) → open_count p x reqs ≤ length reqs
unfolding open_count
open_few p x reqs = count_by-le-length _ reqs

pub named_open_few : (p : Program) (x : Exchange) (t : ℕ) (handles : List Handle) → open_count p x (named_requests t handles) ≤ length handles
named_open_few p x t handles = omega (arith, open_few p x (named_requests t handles), named_few t handles)

-- how often the nth request of a task stands in a list of its requests
own_request : (t : ℕ) (req : ReqNo) → req.task.0 ≡ t → request t req.nth ≡ req
own_request t req own = ap (λ (u : ℕ). request u req.nth) (sym own)

neither : (q r : ReqNo) (reqs : List ReqNo) → same_request q r ≡ true → count_by (same_request q) (r ∷ reqs) ≤ 1 → count_by (same_request q) reqs ≡ 0
neither q r reqs same few =
    let whole = sum_by-cons (λ (z : ReqNo). cond (same_request q z) 1 0) r reqs in
    let one : ◌≡◌ {A = ℕ} (cond (same_request q r) 1 0) 1 = ap {B = ℕ} (λ b. cond b 1 0) same in
    omega arith

fewer : (q r : ReqNo) (reqs : List ReqNo) → count_by (same_request q) (r ∷ reqs) ≤ 1 → count_by (same_request q) reqs ≤ 1
fewer q r reqs few =
    let whole = sum_by-cons (λ (z : ReqNo). cond (same_request q z) 1 0) r reqs in
    omega arith

-- a request that stands nowhere in a list of requests of its task has none of their numbers
apart : (t : ℕ) (q : ReqNo) (reqs : List ReqNo) → q.task.0 ≡ t → AreOf t reqs → count_by (same_request q) reqs ≡ 0
    → AllByRecursion (λ m. eqb q.nth m ≡ false) (map (λ (r : ReqNo). r.nth) reqs)
apart t q [] own owns none = tt
apart t q (r ∷ reqs) own owns none =
    let whole = sum_by-cons (λ (z : ReqNo). cond (same_request q z) 1 0) r reqs in (
      false_from_ne_true (eqb q.nth r.nth) (λ same.
          let one : q ≡ r = sym (own_request t q own) ∙ ap (request t) (eqb-true q.nth r.nth same) ∙ own_request t r owns.0 in
          let counts : ◌≡◌ {A = ℕ} (cond (same_request q r) 1 0) 1 = ap {B = ℕ} (λ b. cond b 1 0) (same_from_eq q r one) in
          absurd (omega arith)),
      apart t q reqs own owns.1 (omega arith),
    )

each_once : (t : ℕ) (reqs : List ReqNo) → AreOf t reqs → ((q : ReqNo) → count_by (same_request q) reqs ≤ 1)
    → IsDistinct eqb (map (λ (r : ReqNo). r.nth) reqs)
unfolding IsDistinct
each_once t [] owns once = tt
each_once t (r ∷ reqs) owns once = (
  apart t r reqs owns.0 owns.1 (neither r r reqs (same_from_eq r r refl) (once r)),
  each_once t reqs owns.1 (λ q. fewer q r reqs (once q)),
)

number_in : (t n : ℕ) (reqs : List ReqNo) → AreOf t reqs → list_any (eqb n) (map (λ (r : ReqNo). r.nth) reqs) ≡ true
    → list_any (same_request (request t n)) reqs ≡ true
number_in t n [] owns has = has
number_in t n (r ∷ reqs) owns has = elim (or_cases (eqb n r.nth) (list_any (eqb n) (map (λ (q : ReqNo). q.nth) reqs)) has) [
  | inl same ↦
      let one : request t n ≡ r = ap (request t) (eqb-true n r.nth same) ∙ own_request t r owns.0 in
      ap (λ (b : Bool). b || list_any (same_request (request t n)) reqs) (same_from_eq (request t n) r one)
  | inr later ↦ or_right (same_request (request t n) r) (list_any (same_request (request t n)) reqs) (number_in t n reqs owns.1 later)
]

-- a task has bound no more requests than its operations post
pub few_bound : (t : ℕ) (front : List Op) (bound : List ReqNo) → IsBoundBy t front bound → length bound ≤ postings front
few_bound t front bound b =
    let ns : List ℕ = map (λ (r : ReqNo). r.nth) bound in
    let few = length-le_from_distinct_below ns (postings front) (each_once t bound b.own b.once) (λ n has. b.posted n (number_in t n bound b.own has)) in
    omega (arith, few, length-map bound (λ (r : ReqNo). r.nth))

-- ---- operations of a well-formed program

one_count : (n : ℕ) → 1 + n ≡ suc n
one_count n = omega arith

none_count : (n : ℕ) → 0 + n ≡ n
none_count n = omega arith

first_kept : (y : Op) (ops : List Op) (x : Op) (keeps : Bool) → is_posting y ≡ keeps → keeps ≡ true → y ≡ x → slice_get (filter is_posting (y ∷ ops)) 0 ≡ Some x
first_kept y ops x keeps is passes same =
    ap (λ (b : Bool). slice_get (cond b (y ∷ filter is_posting ops) (filter is_posting ops)) 0) (is ∙ passes) ∙ ap Some same

kept_after_first : (y : Op) (ops : List Op) (k : ℕ) (x : Op) (keeps : Bool) → is_posting y ≡ keeps
    → slice_get (filter is_posting ops) (count_by is_posting (take k ops)) ≡ Some x
    → slice_get (filter is_posting (y ∷ ops)) (count_by is_posting (y ∷ take k ops)) ≡ Some x
kept_after_first y ops k x true is found =
    let n = count_by is_posting (take k ops) in
    let count : count_by is_posting (y ∷ take k ops) ≡ suc n = sum_by-cons (λ (z : Op). cond (is_posting z) 1 0) y (take k ops)
    ∙ ap (λ (b : Bool). cond b 1 0 + n) is ∙ one_count n in
    ap (λ (b : Bool). slice_get (cond b (y ∷ filter is_posting ops) (filter is_posting ops)) (count_by is_posting (y ∷ take k ops))) is
    ∙ ap (slice_get (y ∷ filter is_posting ops)) count ∙ found
kept_after_first y ops k x false is found =
    let n = count_by is_posting (take k ops) in
    let count : count_by is_posting (y ∷ take k ops) ≡ n = sum_by-cons (λ (z : Op). cond (is_posting z) 1 0) y (take k ops)
    ∙ ap (λ (b : Bool). cond b 1 0 + n) is ∙ none_count n in
    ap (λ (b : Bool). slice_get (cond b (y ∷ filter is_posting ops) (filter is_posting ops)) (count_by is_posting (y ∷ take k ops))) is
    ∙ ap (slice_get (filter is_posting ops)) count ∙ found

-- the request of operation k is posted by operation k
pub posting_found : (ops : List Op) (k : ℕ) (x : Op) → slice_get ops k ≡ Some x → is_posting x ≡ true
    → slice_get (filter is_posting ops) (count_by is_posting (take k ops)) ≡ Some x
posting_found [] k x here posts = absurd (cc)
posting_found (y ∷ ops) zero x here posts =
    let same : y ≡ x = same_some here in
    first_kept y ops x (is_posting y) refl (ap is_posting same ∙ posts) same
posting_found (y ∷ ops) (suc k) x here posts = kept_after_first y ops k x (is_posting y) refl (posting_found ops k x here posts)

pub posting_is : (p : Program) (t k : ℕ) (def : TaskDef) (x : Op) → slice_get p.tasks.items t ≡ Some def → slice_get def.body.items k ≡ Some x
    → is_posting x ≡ true
    → posting_of p (request t (nth_at def k)) ≡ Some x
posting_is p t k def x is_def is_op posts =
    ap (λ (o : Option TaskDef). option_and_then (λ (task : TaskDef). slice_get (filter is_posting task.body.items) (nth_at def k)) o) is_def
    ∙ posting_found def.body.items k x is_op posts

-- what a send reads is declared
pub send_declares : (p : Program) (def : TaskDef) (how : How) (span : Span) (peer : Peer) (tag : TagSel) (status : Option Span) → is_receive how ≡ false
    → IsPostingOf p def how span peer tag status
    → IsDeclared def.accesses.items span
send_declares p def how.Send span peer tag None sends is = is.0.declared
send_declares p def how.Send span peer tag (Some cells) sends is = absurd is
send_declares p def how.Ssend span peer tag None sends is = is.0.declared
send_declares p def how.Ssend span peer tag (Some cells) sends is = absurd is
send_declares p def how.Recv span peer tag status sends is = absurd (cc)
send_declares p def how.Isend span peer tag None sends is = is.0.declared
send_declares p def how.Isend span peer tag (Some cells) sends is = absurd is
send_declares p def how.Issend span peer tag None sends is = is.0.declared
send_declares p def how.Issend span peer tag (Some cells) sends is = absurd is
send_declares p def how.Irecv span peer tag status sends is = absurd (cc)

-- an operation of a program that may be run
pub operation_is : (p : Program) (t k : ℕ) (def : TaskDef) (x : Op) → WellFormed p → slice_get p.tasks.items t ≡ Some def
    → slice_get def.body.items k ≡ Some x → IsOperation p def x
operation_is p t k def x well is_def is_op =
    let task : IsTask p def = subst (IsTask p) (get_or_from_slice_get p.tasks.items t def def is_def)
    (well.tasks t def (slice_get_within p.tasks.items t def is_def)) in
    subst (IsOperation p def) (get_or_from_slice_get def.body.items k x x is_op) (task.body k x (slice_get_within def.body.items k x is_op))

pub span_declared : (p : Program) (def : TaskDef) (kind : How) (span : Span) (whom : Peer) (selected : TagSel) (status : Option Span)
    → IsPostingOf p def kind span whom selected status → IsDeclared def.accesses.items span
span_declared p def how.Send span whom selected None allowed = allowed.0.declared
span_declared p def how.Send span whom selected (Some cells) allowed = absurd allowed
span_declared p def how.Ssend span whom selected None allowed = allowed.0.declared
span_declared p def how.Ssend span whom selected (Some cells) allowed = absurd allowed
span_declared p def how.Recv span whom selected status allowed = allowed.0.declared
span_declared p def how.Isend span whom selected None allowed = allowed.0.declared
span_declared p def how.Isend span whom selected (Some cells) allowed = absurd allowed
span_declared p def how.Issend span whom selected None allowed = allowed.0.declared
span_declared p def how.Issend span whom selected (Some cells) allowed = absurd allowed
span_declared p def how.Irecv span whom selected None allowed = allowed.declared
span_declared p def how.Irecv span whom selected (Some cells) allowed = absurd allowed

-- a status span stands only at a receive, is declared and has four cells
pub record HasStatus (def : TaskDef) (kind : How) (status : Option Span) : Type 0 where
  pub receive : IsSome status → is_receive kind ≡ true
  pub declared : IfSome status (λ (span : Span). IsDeclared def.accesses.items span × (span_len span ≡ 4))

no_status : (def : TaskDef) (kind : How) → HasStatus def kind None
no_status def kind = record { receive = λ some. absurd (cc); declared = tt }

pub has_status : (p : Program) (def : TaskDef) (kind : How) (span : Span) (whom : Peer) (selected : TagSel) (status : Option Span)
    → IsPostingOf p def kind span whom selected status → HasStatus def kind status
has_status p def how.Send span whom selected None allowed = no_status def how.Send
has_status p def how.Send span whom selected (Some cells) allowed = absurd allowed
has_status p def how.Ssend span whom selected None allowed = no_status def how.Ssend
has_status p def how.Ssend span whom selected (Some cells) allowed = absurd allowed
has_status p def how.Recv span whom selected None allowed = no_status def how.Recv
has_status p def how.Recv span whom selected (Some cells) allowed = record { receive = λ some. refl; declared = (allowed.1.0.declared, allowed.1.1) }
has_status p def how.Isend span whom selected None allowed = no_status def how.Isend
has_status p def how.Isend span whom selected (Some cells) allowed = absurd allowed
has_status p def how.Issend span whom selected None allowed = no_status def how.Issend
has_status p def how.Issend span whom selected (Some cells) allowed = absurd allowed
has_status p def how.Irecv span whom selected None allowed = no_status def how.Irecv
has_status p def how.Irecv span whom selected (Some cells) allowed = absurd allowed

-- ---- before a call

pub stop_here : (k : ℕ) (x : Op) (ops : List Op) → is_local x ≡ false → stop_at k (x ∷ ops) ≡ phase.At k
stop_here k (op.Compute kind dst left right value step) ops other = absurd (cc)
stop_here k (op.Post how span peer tag comm status) ops other = refl
stop_here k (op.Await later handles status) ops other = refl

drop_here : (ops : List Op) (k : ℕ) (x : Op) → slice_get ops k ≡ Some x → drop k ops ≡ x ∷ drop (k + 1) ops
drop_here ops k x here = drop_at ops k x (slice_get_within ops k x here) (sym (get_or_from_slice_get ops k x x here))

-- before a call no local operation is next
pub stop_at_call : (def : TaskDef) (k : ℕ) (x : Op) → slice_get def.body.items k ≡ Some x → is_local x ≡ false → stop def k ≡ phase.At k
unfolding stop
stop_at_call def k x here other = ap (stop_at k) (drop_here def.body.items k x here) ∙ stop_here k x (drop (k + 1) def.body.items) other

not_run : (def : TaskDef) (x : Op) (ops : List Op) (copy : List ℤ) → is_local x ≡ false → run_front def (x ∷ ops) copy ≡ copy
not_run def (op.Compute kind dst left right value step) ops copy other = absurd (cc)
not_run def (op.Post how span peer tag comm status) ops copy other = refl
not_run def (op.Await later handles status) ops copy other = refl

pub advanced_at_call : (def : TaskDef) (k : ℕ) (x : Op) (copy : List ℤ) → slice_get def.body.items k ≡ Some x → is_local x ≡ false → advanced def k copy ≡ copy
unfolding advanced
advanced_at_call def k x copy here other =
    ap (λ (ops : List Op). run_front def ops copy) (drop_here def.body.items k x here) ∙ not_run def x (drop (k + 1) def.body.items) copy other
