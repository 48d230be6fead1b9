-- Marks after some requests were marked.
use Rattle.std.proofs.Common.{◌≡◌, ℕ, zero, suc, ◌+◌, ◌<◌, Bool, true, false, ◌&&◌, ◌||◌, ◌==◌, cond, List, [], ◌∷◌, ◌++◌, length, drop, map, filter}
use Rattle.std.proofs.Common.{replicate, slice_get, slice_set, get_or, Option, Some, None, option_map, option_and_then, unwrap_or, IsSome, is_some}
use Rattle.std.proofs.Common.{◌⊎◌, inl, inr, refl, sym, ap, ◌∙◌, subst, arith}
use Rattle.std.specs.List.{list_any}
use Rattle.std.proofs.Math.Bool.{or_assoc, or-false, or-true}
use Rattle.std.proofs.lemmas.List.Sums.{length-filter}
use Rattle.std.proofs.lemmas.List.{map-set, get_or-map, length-map, drop_more}
use Rattle.std.proofs.lemmas.Option.{get_or_from_slice_get, slice_get_within}
use Rattle.std.proofs.lemmas.Bool.{cases_eq, eq-eqb, ne_eqb, false≢true}
use Rattle.rt_base.specs.declared.data.ReqNo.{ReqNo}
use Rattle.rt_base.specs.declared.data.Handle.{Handle}
use Rattle.rt_base.specs.declared.data.Handle.TheVariants as handle
use Rattle.rt_base.specs.declared.data.TaskDef.{TaskDef}
use Rattle.rt_base.specs.declared.data.Program.{Program}
use Rattle.rt_base.specs.Matching.{same_request}
use Rattle.rt_base.specs.Operations.{request, named_requests, is_posting, postings, posting_of}
use Rattle.rt_base.proofs.SameRequest.{same_request-comm}
use Rattle.rt_base.specs.Exchange.{Exchange}
use Rattle.rt_base.specs.Completion.{is_complete}
use Rattle.task_machine.specs.Machine.{open_ones}
use Rattle.task_machine.proofs.Lists.{slice_get-set_same, slice_get-set_other, slice_get-map}
use Rattle.wait_steps.specs.MarkedRows.{unmarked, mark_of, is_marked, marked, marked_all, HaveMarks}

-- a mark in a row, where there is one
abbrev in_row : ℕ → Option (List Bool) → Option Bool
in_row n row = option_and_then (λ (marks : List Bool). slice_get marks n) row

within_row : (n : ℕ) (row : List Bool) (o : Option Bool) → slice_get row n ≡ o → is_some o ≡ true → n < length row
within_row n row None here has = absurd (false≢true has)
within_row n row (Some mark) here has = slice_get_within row n mark here

-- a mark has its row
has_row : (n : ℕ) (o : Option (List Bool)) → is_some (in_row n o) ≡ true → (row : List Bool) × (o ≡ Some row) × (n < length row)
has_row n None has = absurd (false≢true has)
has_row n (Some row) has = (row, refl, within_row n row (slice_get row n) refl has)

in_written_row : (row : List Bool) (n m : ℕ) → n < length row → (n ≡ m) ⊎ (n ≡ m → ⊥)
    → slice_get (slice_set row n true) m ≡ cond (n == m) (Some true) (slice_get row m)
in_written_row row n m within (inl same) =
    ap (λ (k : ℕ). slice_get (slice_set row n true) k) (sym same) ∙ slice_get-set_same row n true within
    ∙ ap (λ (b : Bool). cond b (Some true) (slice_get row m)) (sym (eq-eqb n m same))
in_written_row row n m within (inr other) =
    slice_get-set_other row n m true (λ e. other (sym e)) ∙ ap (λ (b : Bool). cond b (Some true) (slice_get row m)) (sym (ne_eqb n m other))

read_at : (marks : List (List Bool)) (req q : ReqNo) (row : List Bool) → slice_get marks req.task.0 ≡ Some row → req.nth < length row
    → (req.task.0 ≡ q.task.0) ⊎ (req.task.0 ≡ q.task.0 → ⊥)
    → in_row q.nth (slice_get (slice_set marks req.task.0 (slice_set row req.nth true)) q.task.0) ≡ cond (same_request req q) (Some true) (mark_of marks q)
read_at marks req q row here within (inl same) =
    let new = slice_set row req.nth true in
    let own : slice_get row q.nth ≡ mark_of marks q = sym (ap (in_row q.nth) (ap (slice_get marks) (sym same) ∙ here)) in
    ap (λ (t : ℕ). in_row q.nth (slice_get (slice_set marks req.task.0 new) t)) (sym same)
    ∙ ap (in_row q.nth) (slice_get-set_same marks req.task.0 new (slice_get_within marks req.task.0 row here))
    ∙ in_written_row row req.nth q.nth within (cases_eq req.nth q.nth)
    ∙ ap (λ (o : Option Bool). cond (req.nth == q.nth) (Some true) o) own
    ∙ ap (λ (b : Bool). cond (b && (req.nth == q.nth)) (Some true) (mark_of marks q)) (sym (eq-eqb req.task.0 q.task.0 same))
read_at marks req q row here within (inr other) =
    ap (in_row q.nth) (slice_get-set_other marks req.task.0 q.task.0 (slice_set row req.nth true) (λ e. other (sym e)))
    ∙ ap (λ (b : Bool). cond (b && (req.nth == q.nth)) (Some true) (mark_of marks q)) (sym (ne_eqb req.task.0 q.task.0 other))

-- the mark of the request is set, and every other is what it was
pub mark_of-marked : (marks : List (List Bool)) (req q : ReqNo) → IsSome (mark_of marks req)
    → mark_of (marked marks req) q ≡ cond (same_request req q) (Some true) (mark_of marks q)
mark_of-marked marks req q has =
    let found = has_row req.nth (slice_get marks req.task.0) has in
    ap (λ (row : List Bool). in_row q.nth (slice_get (slice_set marks req.task.0 (slice_set row req.nth true)) q.task.0))
    (get_or_from_slice_get marks req.task.0 found.0 [] found.1)
    ∙ read_at marks req q found.0 found.1 found.2 (cases_eq req.task.0 q.task.0)

some_either : (first : Bool) (o : Option Bool) → IsSome o → IsSome (cond first (Some true) o)
some_either true o has = refl
some_either false o has = has

-- what had a mark has one
pub HaveMarks-marked : (marks : List (List Bool)) (req : ReqNo) (reqs : List ReqNo) → IsSome (mark_of marks req) → HaveMarks marks reqs
    → HaveMarks (marked marks req) reqs
HaveMarks-marked marks req [] has have = tt
HaveMarks-marked marks req (q ∷ reqs) has have =
    let first = subst IsSome (sym (mark_of-marked marks req q has)) (some_either (same_request req q) (mark_of marks q) have.0) in
    (first, HaveMarks-marked marks req reqs has have.1)

-- the same after a binding
pub HaveMarks-all : (marks : List (List Bool)) (reqs others : List ReqNo) → HaveMarks marks reqs → HaveMarks marks others
    → HaveMarks (marked_all marks reqs) others
HaveMarks-all marks [] others have too = too
HaveMarks-all marks (req ∷ reqs) others have too =
    HaveMarks-all (marked marks req) reqs others (HaveMarks-marked marks req reqs have.0 have.1) (HaveMarks-marked marks req others have.0 too)

read_either : (first : Bool) (o : Option Bool) → unwrap_or (cond first (Some true) o) false ≡ (unwrap_or o false || first)
read_either true o = sym (or-true (unwrap_or o false))
read_either false o = sym (or-false (unwrap_or o false))

-- exactly those are marked that were marked before or are bound
pub is_marked-all : (marks : List (List Bool)) (reqs : List ReqNo) (q : ReqNo) → HaveMarks marks reqs
    → is_marked (marked_all marks reqs) q ≡ (is_marked marks q || list_any (same_request q) reqs)
is_marked-all marks [] q have = sym (or-false (is_marked marks q))
is_marked-all marks (req ∷ reqs) q have =
    is_marked-all (marked marks req) reqs q (HaveMarks-marked marks req reqs have.0 have.1)
    ∙ ap (λ (o : Option Bool). unwrap_or o false || list_any (same_request q) reqs) (mark_of-marked marks req q have.0)
    ∙ ap (λ (b : Bool). b || list_any (same_request q) reqs) (read_either (same_request req q) (mark_of marks q))
    ∙ ap (λ (b : Bool). (is_marked marks q || b) || list_any (same_request q) reqs) (same_request-comm req q)
    ∙ or_assoc (is_marked marks q) (same_request q req) (list_any (same_request q) reqs)

-- ---- at first

none_in_row : (n m : ℕ) → unwrap_or (slice_get (replicate n false) m) false ≡ false
none_in_row zero m = refl
none_in_row (suc n) zero = refl
none_in_row (suc n) (suc m) = none_in_row n m

none_in : (n : ℕ) (o : Option TaskDef) → unwrap_or (in_row n (option_map (λ (task : TaskDef). replicate (postings task.body.items) false) o)) false ≡ false
none_in n None = refl
none_in n (Some task) = none_in_row (postings task.body.items) n

-- nothing is marked
pub none_marked : (program : Program) (req : ReqNo) → is_marked (unmarked program) req ≡ false
none_marked program req =
    ap (λ (o : Option (List Bool)). unwrap_or (in_row req.nth o) false)
    (slice_get-map (λ (task : TaskDef). replicate (postings task.body.items) false) program.tasks.items req.task.0)
    ∙ none_in req.nth (slice_get program.tasks.items req.task.0)

some_in_row : (n m : ℕ) → m < n → IsSome (slice_get (replicate n false) m)
some_in_row zero m within = absurd (omega arith)
some_in_row (suc n) zero within = refl
some_in_row (suc n) (suc m) within = some_in_row n m (omega arith)

listed_within : {X : Type 0} (xs : List X) (n : ℕ) (o : Option X) → slice_get xs n ≡ o → is_some o ≡ true → n < length xs
listed_within xs n None here has = absurd (false≢true has)
listed_within xs n (Some x) here has = slice_get_within xs n x here

some_in : (n : ℕ) (o : Option TaskDef) → IsSome (option_and_then (λ (task : TaskDef). slice_get (filter is_posting task.body.items) n) o)
    → IsSome (in_row n (option_map (λ (task : TaskDef). replicate (postings task.body.items) false) o))
some_in n None has = has
some_in n (Some task) has =
    let kept = filter is_posting task.body.items in
    some_in_row (postings task.body.items) n
    (omega (arith, listed_within kept n (slice_get kept n) refl has, length-filter is_posting task.body.items))

-- each request of the program has a mark
pub have_marks_first : (program : Program) (req : ReqNo) → IsSome (posting_of program req) → IsSome (mark_of (unmarked program) req)
have_marks_first program req has =
    subst (λ (o : Option (List Bool)). IsSome (in_row req.nth o))
    (sym (slice_get-map (λ (task : TaskDef). replicate (postings task.body.items) false) program.tasks.items req.task.0))
    (some_in req.nth (slice_get program.tasks.items req.task.0) has)

-- ---- handle after handle

-- marked one after another, in two parts
pub marked_all_parts : (marks : List (List Bool)) (front back : List ReqNo) → marked_all marks (front ++ back) ≡ marked_all (marked_all marks front) back
marked_all_parts marks [] back = refl
marked_all_parts marks (req ∷ front) back = marked_all_parts (marked marks req) front back

one_listed : (complete : Bool) (own req : ReqNo) → cond complete [] (own ∷ []) ≡ req ∷ [] → own ≡ req
one_listed true own req is = absurd (omega (arith, ap length is))
one_listed false own req is = ap (λ (reqs : List ReqNo). get_or reqs 0 own) is

-- what is found incomplete for a handle has a mark
pub found_known : (p : Program) (x : Exchange) (t : ℕ) (marks : List (List Bool)) (named : Handle) (req : ReqNo)
    → HaveMarks marks (named_requests t (named ∷ [])) → req ∷ [] ≡ open_ones p x (named_requests t (named ∷ [])) → IsSome (mark_of marks req)
found_known p x t marks handle.Null req have is = absurd (omega (arith, ap length is))
found_known p x t marks (handle.Nth n) req have is =
    subst (λ (own : ReqNo). IsSome (mark_of marks own)) (one_listed (is_complete p x (request t n)) (request t n) req (sym is)) have.0

-- the marks of a first handle's request, and of those of the others
pub known_first : (t : ℕ) (marks : List (List Bool)) (named : Handle) (handles : List Handle) → HaveMarks marks (named_requests t (named ∷ handles))
    → HaveMarks marks (named_requests t (named ∷ []))
known_first t marks handle.Null handles have = tt
known_first t marks (handle.Nth n) handles have = (have.0, tt)

known_rest : (t : ℕ) (marks : List (List Bool)) (named : Handle) (handles : List Handle) → HaveMarks marks (named_requests t (named ∷ handles))
    → HaveMarks marks (named_requests t handles)
known_rest t marks handle.Null handles have = have
known_rest t marks (handle.Nth n) handles have = have.1

known_marked : (complete : Bool) (marks : List (List Bool)) (own : ReqNo) (reqs : List ReqNo) → IsSome (mark_of marks own) → HaveMarks marks reqs
    → HaveMarks (marked_all marks (cond complete [] (own ∷ []))) reqs
known_marked true marks own reqs has have = have
known_marked false marks own reqs has have = HaveMarks-marked marks own reqs has have

-- the same once the first handle's request is bound
pub known_after : (p : Program) (x : Exchange) (t : ℕ) (marks : List (List Bool)) (named : Handle) (handles : List Handle)
    → HaveMarks marks (named_requests t (named ∷ handles))
    → HaveMarks (marked_all marks (open_ones p x (named_requests t (named ∷ [])))) (named_requests t handles)
known_after p x t marks handle.Null handles have = have
known_after p x t marks (handle.Nth n) handles have =
    known_marked (is_complete p x (request t n)) marks (request t n) (named_requests t handles) have.0 have.1

-- ---- the rows in memory

-- a row that is written in place
pub marked_in : {V : Type 0} (view : V → List Bool) (rows : List V) (new row : V) (marks : List (List Bool)) (req : ReqNo) → map view rows ≡ marks
    → IsSome (mark_of marks req) → row ≡ get_or rows req.task.0 row → view new ≡ slice_set (view row) req.nth true
    → map view (slice_set rows req.task.0 new) ≡ marked marks req
marked_in view rows new row marks req same has is written =
    let found = has_row req.nth (slice_get marks req.task.0) has in
    let below : req.task.0 < length rows = omega (
      arith,
      length-map rows view,
      ap (λ (all : List (List Bool)). length all) same,
      slice_get_within marks req.task.0 found.0 found.1,
    ) in
    let read : get_or (map view rows) req.task.0 [] ≡ view row = get_or-map view rows req.task.0 row [] below ∙ ap view (sym is) in
    map-set view rows req.task.0 new
    ∙ ap (λ (changed : List Bool). slice_set (map view rows) req.task.0 changed)
    (written ∙ ap (λ (old : List Bool). slice_set old req.nth true) (sym read))
    ∙ ap (λ (all : List (List Bool)). slice_set all req.task.0 (slice_set (get_or all req.task.0 []) req.nth true)) same

-- ---- the handles that are left

-- the marks of the handles that are left then
pub known_next : (p : Program) (x : Exchange) (t : ℕ) (marks : List (List Bool)) (handles : List Handle) (i : ℕ) → i < length handles
    → HaveMarks marks (named_requests t (drop i handles))
    → HaveMarks (marked_all marks (open_ones p x (named_requests t (get_or handles i handle.Null ∷ [])))) (named_requests t (drop (i + 1) handles))
known_next p x t marks handles i within have =
    known_after p x t marks (get_or handles i handle.Null) (drop (i + 1) handles)
    (subst (λ (some : List Handle). HaveMarks marks (named_requests t some)) (drop_more handles i handle.Null within) have)
