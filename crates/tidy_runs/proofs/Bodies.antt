-- What a front of a body posts, leaves, binds and opens, from one operation to the next.
use Rattle.std.proofs.Common.{◌≡◌, ◌≢◌, ℕ, zero, suc, ◌+◌, ◌<◌, ◌≤◌, Bool, true, false, ◌||◌, cond, ◌⊎◌, List, [], ◌∷◌, ◌++◌, length, take, drop, get_or}
use Rattle.std.proofs.Common.{slice_get, Contains, All, Some, refl, sym, ap, ◌∙◌, subst, inl, inr, arith}
use Rattle.std.specs.Prelude.{count_by, AllPairs, nat_eq}
use Rattle.std.specs.List.{list_any}
use Rattle.std.proofs.lemmas.Bool.{cases_Bool, or_cases, or_left, or_right, false≢true, both_ways, false_from_ne_true}
use Rattle.std.proofs.lemmas.Bool.Decides.{nat_tests}
use Rattle.std.proofs.lemmas.List.{take-append-drop, append-nil}
use Rattle.std.proofs.lemmas.List.Elements.{All-contains, Contains-append_cases, Contains-append_left, Contains-append_right}
use Rattle.std.proofs.lemmas.List.Folds.{list_any-append}
use Rattle.std.proofs.lemmas.List.Sums.{sum_by-cons, sum_by-append}
use Rattle.std.proofs.lemmas.Option.{none-some}
use Rattle.rt_base.specs.declared.data.ReqNo.{ReqNo}
use Rattle.rt_base.specs.declared.data.Handle.{Handle}
use Rattle.rt_base.specs.declared.data.Handle.TheVariants as handle
use Rattle.rt_base.specs.declared.data.Op.{Op}
use Rattle.rt_base.specs.declared.data.Op.TheVariants as op
use Rattle.rt_base.specs.declared.data.TaskDef.{TaskDef}
use Rattle.rt_base.specs.declared.data.Program.{Program}
use Rattle.rt_base.specs.Operations.{request, blocks, is_posting, is_local, postings, named_requests, by_parts}
use Rattle.rt_base.specs.Matching.{same_request}
use Rattle.rt_base.specs.Exchange.{Exchange}
use Rattle.rt_base.specs.Completion.{is_complete}
use Rattle.rt_base.specs.InUse.{is_nth, names_request, posts, left_by, left_after}
use Rattle.rt_base.specs.WellFormed.{IsOpen, NamesOther}
use Rattle.rt_base.proofs.SameRequest.{one_request}
use Rattle.task_local.specs.Local.{stop_at, stop}
use Rattle.task_machine.specs.Machine.{open_ones}
use Rattle.task_machine.specs.Owed.{IsOneOf}
use Rattle.task_machine.proofs.Items.{same_some, either_place}
use Rattle.tidy_runs.specs.Tidy.{called, binds, bindings, AreOf, IsBoundBy}

-- membership, by the first item
contains_later : {X : Type 0} (y : X) (xs : List X) (x : X) → Contains xs x → Contains (y ∷ xs) x
contains_later y xs x has = (suc has.0, omega (arith, has.1), has.2)

contains_by : {X : Type 0} (y : X) (xs : List X) (x : X) (k : ℕ) → k < suc (length xs) → get_or (y ∷ xs) k x ≡ x → (y ≡ x) ⊎ Contains xs x
contains_by y xs x zero below is = inl is
contains_by y xs x (suc k) below is = inr (k, omega (arith, below), is)

pub contains_cases : {X : Type 0} (y : X) (xs : List X) (x : X) → Contains (y ∷ xs) x → (y ≡ x) ⊎ Contains xs x
contains_cases y xs x has = contains_by y xs x has.0 has.1 has.2

pub nothing_in : {X : Type 0} (x : X) → Contains [] x → ⊥
nothing_in x has = absurd (omega (arith, has.1))

neither : (a b : Bool) → (a || b) ≡ false → (a ≡ false) × (b ≡ false)
neither false false e = (refl, refl)
neither false true e = absurd (cc)
neither true b e = absurd (cc)

-- a request that is in one of two lists
pub in_either : (q : ReqNo) (xs ys : List ReqNo) → IsOneOf q (xs ++ ys) → IsOneOf q xs ⊎ IsOneOf q ys
in_either q xs ys has = or_cases (list_any (same_request q) xs) (list_any (same_request q) ys) (sym (list_any-append (same_request q) xs ys) ∙ has)

pub in_left : (q : ReqNo) (xs ys : List ReqNo) → IsOneOf q xs → IsOneOf q (xs ++ ys)
in_left q xs ys has = list_any-append (same_request q) xs ys ∙ or_left (list_any (same_request q) xs) (list_any (same_request q) ys) has

pub in_right : (q : ReqNo) (xs ys : List ReqNo) → IsOneOf q ys → IsOneOf q (xs ++ ys)
in_right q xs ys has = list_any-append (same_request q) xs ys ∙ or_right (list_any (same_request q) xs) (list_any (same_request q) ys) has

-- how often a request stands in a list
abbrev pub times : ReqNo → List ReqNo → ℕ
times q reqs = count_by (same_request q) reqs

pub times-cons : (q r : ReqNo) (reqs : List ReqNo) → times q (r ∷ reqs) ≡ cond (same_request q r) 1 0 + times q reqs
times-cons q r reqs = sum_by-cons (λ (z : ReqNo). cond (same_request q z) 1 0) r reqs

pub times-append : (q : ReqNo) (xs ys : List ReqNo) → times q (xs ++ ys) ≡ times q xs + times q ys
times-append q xs ys = sum_by-append (λ (r : ReqNo). cond (same_request q r) 1 0) xs ys

pub count_one : (b : Bool) → b ≡ true → ◌≡◌ {A = ℕ} (cond b 1 0) 1
count_one true e = refl
count_one false e = absurd (cc)

count_none : (b : Bool) → b ≡ false → ◌≡◌ {A = ℕ} (cond b 1 0) 0
count_none true e = absurd (cc)
count_none false e = refl

-- a request that is in no place of a list stands there no times
pub none_counts : (q : ReqNo) (reqs : List ReqNo) → list_any (same_request q) reqs ≡ false → times q reqs ≡ 0
none_counts q [] none = refl
none_counts q (r ∷ reqs) none =
    let apart = neither (same_request q r) (list_any (same_request q) reqs) none in
    omega (arith, times-cons q r reqs, count_none (same_request q r) apart.0, none_counts q reqs apart.1)

-- the requests of one task
pub own-append : (t : ℕ) (xs ys : List ReqNo) → AreOf t xs → AreOf t ys → AreOf t (xs ++ ys)
own-append t [] ys first second = second
own-append t (x ∷ xs) ys first second = (first.0, own-append t xs ys first.1 second)

pub own_in : (t : ℕ) (reqs : List ReqNo) (q : ReqNo) → AreOf t reqs → IsOneOf q reqs → q.task.0 ≡ t
own_in t [] q own has = absurd (false≢true has)
own_in t (r ∷ reqs) q own has = elim (or_cases (same_request q r) (list_any (same_request q) reqs) has) [
  | inl same ↦ ap (λ (z : ReqNo). z.task.0) (one_request q r same) ∙ own.0
  | inr later ↦ own_in t reqs q own.1 later
]

pub none_of_other : (t : ℕ) (reqs : List ReqNo) (q : ReqNo) → AreOf t reqs → q.task.0 ≢ t → times q reqs ≡ 0
none_of_other t reqs q own other =
    none_counts q reqs (false_from_ne_true (list_any (same_request q) reqs) (λ has. absurd (other (own_in t reqs q own has))))

pub named_own : (t : ℕ) (handles : List Handle) → AreOf t (named_requests t handles)
named_own t [] = tt
named_own t (handle.Null ∷ handles) = named_own t handles
named_own t (handle.Nth n ∷ handles) = (refl, named_own t handles)

-- the incomplete ones of a list
own_by : (t : ℕ) (r : ReqNo) (left : List ReqNo) (b : Bool) → r.task.0 ≡ t → AreOf t left → AreOf t (cond b left (r ∷ left))
own_by t r left true own rest = rest
own_by t r left false own rest = (own, rest)

pub open_own : (p : Program) (x : Exchange) (t : ℕ) (reqs : List ReqNo) → AreOf t reqs → AreOf t (open_ones p x reqs)
open_own p x t [] own = tt
open_own p x t (r ∷ reqs) own = own_by t r (open_ones p x reqs) (is_complete p x r) own.0 (open_own p x t reqs own.1)

fewer_by : (q r : ReqNo) (left : List ReqNo) (n : ℕ) (b : Bool) → times q left ≤ n → times q (cond b left (r ∷ left)) ≤ cond (same_request q r) 1 0 + n
fewer_by q r left n true few = omega (arith, few)
fewer_by q r left n false few = omega (arith, few, times-cons q r left)

pub open_fewer : (p : Program) (x : Exchange) (q : ReqNo) (reqs : List ReqNo) → times q (open_ones p x reqs) ≤ times q reqs
open_fewer p x q [] = omega arith
open_fewer p x q (r ∷ reqs) =
    let rest = fewer_by q r (open_ones p x reqs) (times q reqs) (is_complete p x r) (open_fewer p x q reqs) in
    omega (arith, rest, times-cons q r reqs)

among : (q r : ReqNo) (left reqs : List ReqNo) (b : Bool) → (IsOneOf q left → IsOneOf q reqs) → IsOneOf q (cond b left (r ∷ left)) → IsOneOf q (r ∷ reqs)
among q r left reqs true rest has = or_right (same_request q r) (list_any (same_request q) reqs) (rest has)
among q r left reqs false rest has = elim (or_cases (same_request q r) (list_any (same_request q) left) has) [
  | inl same ↦ or_left (same_request q r) (list_any (same_request q) reqs) same
  | inr later ↦ or_right (same_request q r) (list_any (same_request q) reqs) (rest later)
]

pub open_among : (p : Program) (x : Exchange) (q : ReqNo) (reqs : List ReqNo) → IsOneOf q (open_ones p x reqs) → IsOneOf q reqs
open_among p x q [] has = has
open_among p x q (r ∷ reqs) has = among q r (open_ones p x reqs) reqs (is_complete p x r) (open_among p x q reqs) has

kept : (q r : ReqNo) (left : List ReqNo) (b : Bool) → IsOneOf q left → IsOneOf q (cond b left (r ∷ left))
kept q r left true has = has
kept q r left false has = or_right (same_request q r) (list_any (same_request q) left) has

pub open_has : (p : Program) (x : Exchange) (q : ReqNo) (reqs : List ReqNo) → is_complete p x q ≡ false → IsOneOf q reqs → IsOneOf q (open_ones p x reqs)
open_has p x q [] undone has = has
open_has p x q (r ∷ reqs) undone has = elim (or_cases (same_request q r) (list_any (same_request q) reqs) has) [
  | inl same ↦
      let e : is_complete p x r ≡ false = ap (is_complete p x) (sym (one_request q r same)) ∙ undone in
      ap (λ (b : Bool). list_any (same_request q) (cond b (open_ones p x reqs) (r ∷ open_ones p x reqs))) e
      ∙ or_left (same_request q r) (list_any (same_request q) (open_ones p x reqs)) same
  | inr later ↦ kept q r (open_ones p x reqs) (is_complete p x r) (open_has p x q reqs undone later)
]

-- handles that name others than this request
none_named : (t n : ℕ) (handles : List Handle) → ((i : ℕ) (d : Handle) → i < length handles → NamesOther (handle.Nth n) (get_or handles i d))
    → times (request t n) (named_requests t handles) ≡ 0
none_named t n [] others = refl
none_named t n (handle.Null ∷ handles) others = none_named t n handles (λ i d lt. others (suc i) d (omega arith))
none_named t n (handle.Nth m ∷ handles) others =
    let apart : n ≢ m = others zero (handle.Nth n) (omega arith) in
    let differ = false_from_ne_true (same_request (request t n) (request t m))
    (λ same. apart (ap (λ (r : ReqNo). r.nth) (one_request (request t n) (request t m) same))) in
    let rest = none_named t n handles (λ i d lt. others (suc i) d (omega arith)) in
    omega (arith, times-cons (request t n) (request t m) (named_requests t handles), count_none (same_request (request t n) (request t m)) differ, rest)

-- handles that name different requests name this one at most once
pub named_once : (t : ℕ) (handles : List Handle) (q : ReqNo) → AllPairs NamesOther handles → times q (named_requests t handles) ≤ 1
named_once t [] q apart = omega arith
named_once t (handle.Null ∷ handles) q apart = named_once t handles q (λ i j d below within. apart (suc i) (suc j) d (omega arith) (omega arith))
named_once t (handle.Nth n ∷ handles) q apart =
    let whole = times-cons q (request t n) (named_requests t handles) in
    elim (cases_Bool (same_request q (request t n))) [
      | inl same ↦
          let none = none_named t n handles (λ i d lt. apart zero (suc i) d (omega arith) (omega arith)) in
          let rest : times q (named_requests t handles) ≡ 0 =
          ap (λ (r : ReqNo). times r (named_requests t handles)) (one_request q (request t n) same) ∙ none in
          omega (arith, whole, count_one (same_request q (request t n)) same, rest)
      | inr differ ↦
          let rest = named_once t handles q (λ i j d below within. apart (suc i) (suc j) d (omega arith) (omega arith)) in
          omega (arith, whole, count_none (same_request q (request t n)) differ, rest)
    ]

-- a request that is named is named by a handle
is_itself : (m n : ℕ) → m ≡ n → nat_eq m n ≡ true
is_itself m n e = grind (arith, nat_tests)

pub named_by : (t n : ℕ) (handles : List Handle) → IsOneOf (request t n) (named_requests t handles)
    → Contains handles (handle.Nth n) × (list_any (is_nth n) handles ≡ true)
named_by t n [] has = absurd (false≢true has)
named_by t n (handle.Null ∷ handles) has =
    let rest = named_by t n handles has in (contains_later handle.Null handles (handle.Nth n) rest.0, rest.1)
named_by t n (handle.Nth m ∷ handles) has =
    elim (or_cases (same_request (request t n) (request t m)) (list_any (same_request (request t n)) (named_requests t handles)) has) [
      | inl same ↦
          let e : m ≡ n = ap (λ (r : ReqNo). r.nth) (sym (one_request (request t n) (request t m) same)) in (
            (zero, omega arith, ap handle.Nth e),
            or_left (nat_eq m n) (list_any (is_nth n) handles) (is_itself m n e),
          )
      | inr later ↦
          let rest = named_by t n handles later in (
            contains_later (handle.Nth m) handles (handle.Nth n) rest.0,
            or_right (nat_eq m n) (list_any (is_nth n) handles) rest.1,
          )
    ]

-- only a posting leaves its request
one_left : (n m : ℕ) (b : Bool) → Contains (cond b [] (m ∷ [])) n → (m ≡ n) × (b ≡ false)
one_left n m true has = absurd (nothing_in n has)
one_left n m false has = elim (contains_cases m [] n has) [ inl same ↦ (same, refl) | inr more ↦ absurd (nothing_in n more) ]

left_here : (m n : ℕ) (x : Op) (more : List Op) → Contains (left_by m x more) n → (m ≡ n) × (posts x ≡ 1)
left_here m n (op.Compute kind dst left right value step) more has = absurd (nothing_in n has)
left_here m n (op.Post how span peer tag comm status) more has = ((one_left n m _ has).0, refl)
left_here m n (op.Await later handles status) more has = absurd (nothing_in n has)

posts_once : (x : Op) (more : List Op) → postings (x ∷ more) ≡ posts x + postings more
posts_once (op.Compute kind dst left right value step) more = sum_by-cons (λ (y : Op). cond (is_posting y) 1 0) (op.Compute kind dst left right value step) more
posts_once (op.Post how span peer tag comm status) more = sum_by-cons (λ (y : Op). cond (is_posting y) 1 0) (op.Post how span peer tag comm status) more
posts_once (op.Await later handles status) more = sum_by-cons (λ (y : Op). cond (is_posting y) 1 0) (op.Await later handles status) more

pub postings-push : (front : List Op) (x : Op) → postings (front ++ x ∷ []) ≡ postings front + posts x
postings-push front x =
    let whole = sum_by-append (λ (y : Op). cond (is_posting y) 1 0) front (x ∷ []) in
    let none : postings [] ≡ 0 = refl in
    omega (arith, whole, posts_once x [], none)

-- what these operations leave, they posted
left_below : (m n : ℕ) (ops : List Op) → Contains (left_after m ops) n → n < m + postings ops
unfolding left_after
left_below m n [] has = absurd (nothing_in n has)
left_below m n (x ∷ more) has = elim (Contains-append_cases (left_by m x more) (left_after (m + posts x) more) n has) [
  | inl here ↦ let one = left_here m n x more here in omega (arith, one.0, one.1, posts_once x more)
  | inr later ↦ omega (arith, left_below (m + posts x) n more later, posts_once x more)
]

-- what is left with one operation more was left without it and is not named by it, or it is that operation's own
stays_left : (m n : ℕ) (y : Op) (more : List Op) (x : Op) → Contains (left_by m y (more ++ x ∷ [])) n
    → Contains (left_by m y more) n × (names_request n x ≡ false)
stays_left m n (op.Compute kind dst left right value step) more x has = absurd (nothing_in n has)
stays_left m n (op.Post how span peer tag comm status) more x has =
    let one = one_left n m (blocks how || list_any (names_request m) (more ++ x ∷ [])) has in
    let unnamed = neither (blocks how) (list_any (names_request m) (more ++ x ∷ [])) one.1 in
    let apart = neither (list_any (names_request m) more) (list_any (names_request m) (x ∷ []))
    (sym (list_any-append (names_request m) more (x ∷ [])) ∙ unnamed.1) in
    let still : (blocks how || list_any (names_request m) more) ≡ false =
    ap (λ (b : Bool). b || list_any (names_request m) more) unnamed.0 ∙ apart.0 in (
      subst (λ (b : Bool). Contains (cond b [] (m ∷ [])) n) (sym still) (zero, omega arith, one.0),
      ap (λ (i : ℕ). names_request i x) (sym one.0) ∙ (neither (names_request m x) false apart.1).0,
    )
stays_left m n (op.Await later handles status) more x has = absurd (nothing_in n has)

abbrev Back : ℕ → ℕ → List Op → Op → Type 0
Back m n front x = (Contains (left_after m front) n × (names_request n x ≡ false)) ⊎ Contains (left_by (m + postings front) x []) n

goes_back : (m n : ℕ) (y : Op) (more : List Op) (x : Op) → Back (m + posts y) n more x → Back m n (y ∷ more) x
unfolding left_after
goes_back m n y more x (inl left) = inl (Contains-append_right (left_by m y more) (left_after (m + posts y) more) n left.0, left.1)
goes_back m n y more x (inr here) =
    let e : (m + posts y) + postings more ≡ m + postings (y ∷ more) = omega (arith, posts_once y more) in
    inr (subst (λ (i : ℕ). Contains (left_by i x []) n) e here)

pub left_back : (m n : ℕ) (front : List Op) (x : Op) → Contains (left_after m (front ++ x ∷ [])) n → Back m n front x
unfolding left_after
left_back m n [] x has = elim (Contains-append_cases (left_by m x []) [] n has) [
  | inl here ↦
      let e : m ≡ m + postings [] = omega arith in
      inr (subst (λ (i : ℕ). Contains (left_by i x []) n) e here)
  | inr none ↦ absurd (nothing_in n none)
]
left_back m n (y ∷ more) x has = elim (Contains-append_cases (left_by m y (more ++ x ∷ [])) (left_after (m + posts y) (more ++ x ∷ [])) n has) [
  | inl here ↦
      let both = stays_left m n y more x here in
      inl (Contains-append_left (left_by m y more) (left_after (m + posts y) more) n both.0, both.1)
  | inr later ↦ goes_back m n y more x (left_back (m + posts y) n more x later)
]

-- the operation posts a request and waits for it (MPI 4.0, 3.4)
abbrev pub waits_itself : Op → Bool
waits_itself operation = by_parts false (λ posted. blocks posted.how) (λ waited. false) operation

itself_posts : (x : Op) → waits_itself x ≡ true → posts x ≡ 1
itself_posts (op.Compute kind dst left right value step) is = absurd (false≢true is)
itself_posts (op.Post how span peer tag comm status) is = refl
itself_posts (op.Await later handles status) is = absurd (false≢true is)

itself_leaves_none : (m n : ℕ) (x : Op) (more : List Op) → waits_itself x ≡ true → Contains (left_by m x more) n → ⊥
itself_leaves_none m n (op.Compute kind dst left right value step) more is has = absurd (false≢true is)
itself_leaves_none m n (op.Post how span peer tag comm status) more is has =
    let one = one_left n m (blocks how || list_any (names_request m) more) has in
    absurd (both_ways (blocks how) (neither (blocks how) (list_any (names_request m) more) one.1).0 is)
itself_leaves_none m n (op.Await later handles status) more is has = absurd (false≢true is)

-- an operation behind these comes to the request: it names one that is left, or it posts it and waits for it
abbrev pub ComesTo : List Op → Op → ℕ → Type 0
ComesTo front x n = (Contains (left_after 0 front) n × (names_request n x ≡ true)) ⊎ ((n ≡ postings front) × (waits_itself x ≡ true))

come_posted : (front : List Op) (x : Op) (n : ℕ) → ComesTo front x n → n < postings (front ++ x ∷ [])
come_posted front x n (inl named) = omega (arith, left_below 0 n front named.0, postings-push front x)
come_posted front x n (inr own) = omega (arith, own.0, itself_posts x own.1, postings-push front x)

named_not_left : (front : List Op) (x : Op) (n : ℕ) → Contains (left_after 0 front) n → names_request n x ≡ true → Back 0 n front x → ⊥
named_not_left front x n was names (inl still) = both_ways (names_request n x) still.1 names
named_not_left front x n was names (inr here) = absurd (omega (arith, left_below 0 n front was, (left_here (0 + postings front) n x [] here).0))

own_not_left : (front : List Op) (x : Op) (n : ℕ) → n ≡ postings front → waits_itself x ≡ true → Back 0 n front x → ⊥
own_not_left front x n is waits (inl still) = absurd (omega (arith, is, left_below 0 n front still.0))
own_not_left front x n is waits (inr here) = itself_leaves_none (0 + postings front) n x [] waits here

come_not_left : (front : List Op) (x : Op) (n : ℕ) → ComesTo front x n → Contains (left_after 0 (front ++ x ∷ [])) n → ⊥
come_not_left front x n (inl named) left = named_not_left front x n named.0 named.1 (left_back 0 n front x left)
come_not_left front x n (inr own) left = own_not_left front x n own.0 own.1 (left_back 0 n front x left)

closed_by : (front : List Op) (x : Op) (n : ℕ) → n < postings front → (Contains (left_after 0 front) n → ⊥) → Back 0 n front x → ⊥
closed_by front x n below closed (inl still) = closed still.0
closed_by front x n below closed (inr here) = absurd (omega (arith, below, (left_here (0 + postings front) n x [] here).0))

-- of the requests of task t these operations posted those in the list, leave none of them, and none stands there twice
pub record ClosedBy (t : ℕ) (front : List Op) (reqs : List ReqNo) : Type 0 where
  pub few : (n : ℕ) → times (request t n) reqs ≤ 1
  pub posted : (n : ℕ) → IsOneOf (request t n) reqs → n < postings front
  pub closed : (n : ℕ) → IsOneOf (request t n) reqs → Contains (left_after 0 front) n → ⊥

-- requests of task t to which an operation behind these comes
pub record Adds (t : ℕ) (front : List Op) (x : Op) (new : List ReqNo) : Type 0 where
  pub own : AreOf t new
  pub few : (q : ReqNo) → times q new ≤ 1
  pub comes : (n : ℕ) → IsOneOf (request t n) new → ComesTo front x n

-- over any operation
pub closed_on : (t : ℕ) (front : List Op) (x : Op) (reqs : List ReqNo) → ClosedBy t front reqs → ClosedBy t (front ++ x ∷ []) reqs
closed_on t front x reqs c = record {
  few = c.few;
  posted = λ n has. omega (arith, c.posted n has, postings-push front x);
  closed = λ n has left. closed_by front x n (c.posted n has) (c.closed n has) (left_back 0 n front x left);
}

not_before : (t : ℕ) (front : List Op) (x : Op) (reqs : List ReqNo) (n : ℕ) → ClosedBy t front reqs → ComesTo front x n → IsOneOf (request t n) reqs → ⊥
not_before t front x reqs n c (inl named) has = c.closed n has named.0
not_before t front x reqs n c (inr own) has = absurd (omega (arith, own.0, c.posted n has))

-- over an operation that comes to new ones
pub closed_more : (t : ℕ) (front : List Op) (x : Op) (reqs new : List ReqNo) → ClosedBy t front reqs → Adds t front x new
    → ClosedBy t (front ++ x ∷ []) (reqs ++ new)
closed_more t front x reqs new c adds =
    let on = closed_on t front x reqs c in
    record {
      few = λ n.
          let whole = times-append (request t n) reqs new in
          elim (cases_Bool (list_any (same_request (request t n)) new)) [
            | inl has ↦
                let none = none_counts (request t n) reqs (false_from_ne_true (list_any (same_request (request t n)) reqs)
                (λ before. absurd (not_before t front x reqs n c (adds.comes n has) before))) in
                omega (arith, whole, none, adds.few (request t n))
            | inr none ↦ omega (arith, whole, none_counts (request t n) new none, c.few n)
          ];
      posted = λ n has. elim (in_either (request t n) reqs new has) [
        | inl before ↦ on.posted n before
        | inr comes ↦ come_posted front x n (adds.comes n comes)
      ];
      closed = λ n has left. elim (in_either (request t n) reqs new has) [
        | inl before ↦ on.closed n before left
        | inr comes ↦ come_not_left front x n (adds.comes n comes) left
      ];
    }

-- the requests of another task make no difference
pub closed_aside : (t u : ℕ) (front : List Op) (reqs new : List ReqNo) → t ≢ u → AreOf u new → ClosedBy t front reqs → ClosedBy t front (reqs ++ new)
closed_aside t u front reqs new other own c = record {
  few = λ n. omega (arith, times-append (request t n) reqs new, none_of_other u new (request t n) own other, c.few n);
  posted = λ n has. elim (in_either (request t n) reqs new has) [
    | inl before ↦ c.posted n before
    | inr after ↦ absurd (other (own_in u new (request t n) own after))
  ];
  closed = λ n has left. elim (in_either (request t n) reqs new has) [
    | inl before ↦ c.closed n before left
    | inr after ↦ absurd (other (own_in u new (request t n) own after))
  ];
}

-- what is bound, by its own requests and the rest
pub closed_of : (t : ℕ) (front : List Op) (bound : List ReqNo) → IsBoundBy t front bound → ClosedBy t front bound
closed_of t front bound b = record { few = λ n. b.once (request t n); posted = b.posted; closed = b.closed }

own_request : (t : ℕ) (q : ReqNo) → q.task.0 ≡ t → request t q.nth ≡ q
own_request t q own = ap (λ (u : ℕ). request u q.nth) (sym own)

pub bound_of : (t : ℕ) (front : List Op) (bound : List ReqNo) → AreOf t bound → ClosedBy t front bound → IsBoundBy t front bound
bound_of t front bound own c = record {
  own = own;
  once = λ q. elim (either_place q.task.0 t) [
    | inl same ↦ subst (λ (r : ReqNo). times r bound ≤ 1) (own_request t q same) (c.few q.nth)
    | inr other ↦ omega (arith, none_of_other t bound q own other)
  ];
  posted = c.posted;
  closed = c.closed;
}

-- what a wait comes to
pub wait_adds : (p : Program) (y : Exchange) (t : ℕ) (front : List Op) (x : Op) (handles : List Handle)
    → ((n : ℕ) → names_request n x ≡ list_any (is_nth n) handles) → All (IsOpen front) handles → AllPairs NamesOther handles
    → Adds t front x (open_ones p y (named_requests t handles))
wait_adds p y t front x handles names are_open apart = record {
  own = open_own p y t (named_requests t handles) (named_own t handles);
  few = λ q. omega (arith, open_fewer p y q (named_requests t handles), named_once t handles q apart);
  comes = λ n has.
      let named = named_by t n handles (open_among p y (request t n) (named_requests t handles) has) in
      inl (All-contains (IsOpen front) handles (handle.Nth n) are_open named.0, names n ∙ named.1);
}

-- what a posting that waits for its request comes to
pub post_adds : (p : Program) (y : Exchange) (t : ℕ) (front : List Op) (x : Op) → waits_itself x ≡ true
    → Adds t front x (open_ones p y (request t (postings front) ∷ []))
post_adds p y t front x waits =
    let own = request t (postings front) in
    record {
      own = open_own p y t (own ∷ []) (refl, tt);
      few = λ q. omega (arith, open_fewer p y q (own ∷ []), named_once t (handle.Nth (postings front) ∷ []) q (λ i j d below within. absurd (omega arith)));
      comes = λ n has. elim (or_cases (same_request (request t n) own) false (open_among p y (request t n) (own ∷ []) has)) [
        | inl same ↦ inr (ap (λ (r : ReqNo). r.nth) (one_request (request t n) own same), waits)
        | inr none ↦ absurd (false≢true none)
      ];
    }

-- the operation at a place, and those before it
pub take_at_place : (xs : List Op) (k : ℕ) (x : Op) → slice_get xs k ≡ Some x → take (suc k) xs ≡ take k xs ++ x ∷ []
take_at_place [] k x at = absurd (none-some x at)
take_at_place (y ∷ ys) zero x at = ap (λ z. z ∷ []) (same_some at)
take_at_place (y ∷ ys) (suc k) x at = ap (λ zs. y ∷ zs) (take_at_place ys k x at)

pub suc_is : (k : ℕ) → suc k ≡ k + 1
suc_is k = omega arith

pub take_next : (xs : List Op) (k : ℕ) (x : Op) → slice_get xs k ≡ Some x → take (k + 1) xs ≡ take k xs ++ x ∷ []
take_next xs k x at = ap (λ (n : ℕ). take n xs) (sym (suc_is k)) ∙ take_at_place xs k x at

pub length_at_place : (xs : List Op) (k : ℕ) (x : Op) → slice_get xs k ≡ Some x → length (take k xs) ≡ k
length_at_place [] k x at = absurd (none-some x at)
length_at_place (y ∷ ys) zero x at = refl
length_at_place (y ∷ ys) (suc k) x at = ap suc (length_at_place ys k x at)

dropped : (xs : List Op) (k : ℕ) (x : Op) (ys : List Op) → drop k xs ≡ x ∷ ys → (slice_get xs k ≡ Some x) × (drop (suc k) xs ≡ ys)
dropped [] zero x ys is = absurd (cc)
dropped [] (suc k) x ys is = absurd (cc)
dropped (z ∷ zs) zero x ys is = (ap Some (cc), cc)
dropped (z ∷ zs) (suc k) x ys is = dropped zs k x ys is

-- a fact on fronts that local operations leave alone holds where a task stands after them
pub holds_at : (P : List Op → Type 0) (def : TaskDef) → ((front : List Op) (x : Op) → is_local x ≡ true → P front → P (front ++ x ∷ []))
    → (k : ℕ) (ops : List Op) → drop k def.body.items ≡ ops → P (take k def.body.items) → P (called def (stop_at k ops))
holds_at P def on k [] is holds =
    subst P (sym (append-nil (take k def.body.items)) ∙ ap (λ (zs : List Op). take k def.body.items ++ zs) (sym is) ∙ take-append-drop k def.body.items) holds
holds_at P def on k (op.Compute kind dst left right value step ∷ ops) is holds =
    let x : Op = op.Compute kind dst left right value step in
    let next = dropped def.body.items k x ops is in
    holds_at P def on (k + 1) ops (ap (λ (n : ℕ). drop n def.body.items) (sym (suc_is k)) ∙ next.1)
    (subst P (sym (take_next def.body.items k x next.0)) (on (take k def.body.items) x refl holds))
holds_at P def on k (op.Post how span peer tag comm status ∷ ops) is holds = holds
holds_at P def on k (op.Await later handles status ∷ ops) is holds = holds

pub holds_at_stop : (P : List Op → Type 0) (def : TaskDef) → ((front : List Op) (x : Op) → is_local x ≡ true → P front → P (front ++ x ∷ []))
    → (k : ℕ) → P (take k def.body.items) → P (called def (stop def k))
unfolding stop
holds_at_stop P def on k holds = holds_at P def on k (drop k def.body.items) refl holds

-- those that bind, with one operation more
bindings_by : (b : Bool) (k : ℕ) (xs ys zs : List ℕ) → xs ≡ ys ++ zs → cond b (k ∷ xs) xs ≡ cond b (k ∷ ys) ys ++ zs
bindings_by true k xs ys zs is = ap (λ (ns : List ℕ). k ∷ ns) is
bindings_by false k xs ys zs is = is

pub bindings-push : (k n : ℕ) (front : List Op) (x : Op) → k + length front ≡ n
    → bindings k (front ++ x ∷ []) ≡ bindings k front ++ cond (binds x) (n ∷ []) []
bindings-push k n [] x is = ap (λ (i : ℕ). cond (binds x) (i ∷ []) []) (let e : k ≡ n = omega (arith, is) in e)
bindings-push k n (y ∷ front) x is =
    bindings_by (binds y) k (bindings (k + 1) (front ++ x ∷ [])) (bindings (k + 1) front) (cond (binds x) (n ∷ []) [])
    (bindings-push (k + 1) n front x (omega (arith, is)))
