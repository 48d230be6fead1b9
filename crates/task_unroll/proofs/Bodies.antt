-- One more operation at the end of a body: what is left of its requests, and what stands before which operation.
use Rattle.std.proofs.Common.{◌≡◌, ℕ, zero, suc, ◌+◌, ◌<◌, ◌≤◌, Bool, true, false, ◌⊎◌, List, [], ◌∷◌, ◌++◌, length, get_or, Option, Some, None}
use Rattle.std.proofs.Common.{is_some, refl, sym, ap, ◌∙◌, subst, inl, inr, arith}
use Rattle.std.specs.Prelude.{Contains, All, ◌||◌, if◌then◌else◌, count_by}
use Rattle.std.specs.List.{list_any}
use Rattle.std.proofs.lemmas.List.Elements.{Contains-append_left, Contains-append_right, Contains-append_cases}
use Rattle.std.proofs.lemmas.List.Sums.{sum_by-cons, sum_by_push}
use Rattle.rt_base.specs.declared.data.How.{How}
use Rattle.rt_base.specs.declared.data.Span.{Span}
use Rattle.rt_base.specs.declared.data.Peer.{Peer}
use Rattle.rt_base.specs.declared.data.TagSel.{TagSel}
use Rattle.rt_base.specs.declared.data.Op.{Op}
use Rattle.rt_base.specs.declared.data.Op.TheVariants as op
use Rattle.rt_base.specs.Operations.{PostingParts, posting_parts, given, blocks, is_posting, postings}
use Rattle.rt_base.specs.InUse.{names_request, left_by, left_after, posts}
use Rattle.task_unroll.proofs.Cells.{both_false}

pub none_in : {X : Type 0} (x : X) → Contains [] x → ⊥
none_in x c = let below = c.1 in omega (arith, below)

pub first_in : {X : Type 0} (x : X) (xs : List X) → Contains (x ∷ xs) x
first_in x xs = (0, omega arith, refl)

pub only_in : {X : Type 0} (y x : X) → Contains (y ∷ []) x → y ≡ x
only_in y x c = at c.0 c.1 c.2
  where
    at : (k : ℕ) → k < length (y ∷ []) → get_or (y ∷ []) k x ≡ x → y ≡ x
    at zero below is = is
    at (suc k) below is = absurd (omega arith)

-- a request is left where the call doesn't wait and no later operation names it
abbrev left_with : ℕ → List Op → Option PostingParts → List ℕ
left_with n later parts = given [] (λ posted. if blocks posted.how || list_any (names_request n) later then [] else n ∷ []) parts

left_by_in : (n k : ℕ) (p : Op) (later : List Op) → Contains (left_by n p later) k
    → (n ≡ k) × (is_posting p ≡ true) × (list_any (names_request n) later ≡ false)
left_by_in n k p later c = by (posting_parts p) refl c
  where
    open_in : (calls : Bool) (b : Bool) → calls || list_any (names_request n) later ≡ b → Contains (if b then [] else n ∷ []) k
        → (n ≡ k) × (list_any (names_request n) later ≡ false)
    open_in calls true h c = absurd (none_in k c)
    open_in calls false h c = (only_in n k c, (both_false calls (list_any (names_request n) later) h).1)

    by : (parts : Option PostingParts) → posting_parts p ≡ parts → Contains (left_with n later parts) k
        → (n ≡ k) × (is_some (posting_parts p) ≡ true) × (list_any (names_request n) later ≡ false)
    by None is c = absurd (none_in k c)
    by (Some posted) is c =
        let found = open_in (blocks posted.how) (blocks posted.how || list_any (names_request n) later) refl c in
        (found.0, ap (λ (parts : Option PostingParts). is_some parts) is, found.1)

any_append : {X : Type 0} (test : X → Bool) (xs : List X) (y : X) → list_any test xs ≡ false → test y ≡ false → list_any test (xs ++ y ∷ []) ≡ false
any_append test [] y none last = ap (λ (b : Bool). b || false) last
any_append test (x ∷ xs) y none last =
    let both = both_false (test x) (list_any test xs) none in
    ap (λ (b : Bool). b || list_any test (xs ++ y ∷ [])) both.0 ∙ any_append test xs y both.1 last

left_by_stays : (n k : ℕ) (p o : Op) (later : List Op) → names_request k o ≡ false → Contains (left_by n p later) k → Contains (left_by n p (later ++ o ∷ [])) k
left_by_stays n k p o later free c = by (posting_parts p) c
  where
    still_open : (calls : Bool) (b : Bool) → calls || list_any (names_request n) later ≡ b → Contains (if b then [] else n ∷ []) k
        → Contains (if calls || list_any (names_request n) (later ++ o ∷ []) then [] else n ∷ []) k
    still_open calls true h c = absurd (none_in k c)
    still_open calls false h c =
        let both = both_false calls (list_any (names_request n) later) h in
        let same = only_in n k c in
        let none = any_append (names_request n) later o both.1 (subst (λ (m : ℕ). names_request m o ≡ false) (sym same) free) in
        let still : calls || list_any (names_request n) (later ++ o ∷ []) ≡ false =
        ap (λ (b : Bool). b || list_any (names_request n) (later ++ o ∷ [])) both.0 ∙ none in
        subst (λ (b : Bool). Contains (if b then [] else n ∷ []) k) (sym still) c

    by : (parts : Option PostingParts) → Contains (left_with n later parts) k → Contains (left_with n (later ++ o ∷ []) parts) k
    by None c = c
    by (Some posted) c = still_open (blocks posted.how) (blocks posted.how || list_any (names_request n) later) refl c

-- a request that is left stays left, where the next operation doesn't name it
pub left_stays : (n k : ℕ) (body : List Op) (o : Op) → names_request k o ≡ false → Contains (left_after n body) k → Contains (left_after n (body ++ o ∷ [])) k
unfolding left_after
left_stays n k [] o free c = absurd (none_in k c)
left_stays n k (p ∷ more) o free c = elim (Contains-append_cases (left_by n p more) (left_after (n + posts p) more) k c) [
  | inl here ↦ Contains-append_left (left_by n p (more ++ o ∷ [])) (left_after (n + posts p) (more ++ o ∷ [])) k (left_by_stays n k p o more free here)
  | inr there ↦ Contains-append_right (left_by n p (more ++ o ∷ [])) (left_after (n + posts p) (more ++ o ∷ [])) k
      (left_stays (n + posts p) k more o free there)
]

posts_first : (p : Op) (more : List Op) (n : ℕ) → n + posts p + postings more ≡ n + postings (p ∷ more)
posts_first p more n = by (is_posting p) refl
  where
    by : (b : Bool) → is_posting p ≡ b → n + posts p + postings more ≡ n + postings (p ∷ more)
    by true h = let cons = sum_by-cons (λ (x : Op). if is_posting x then 1 else 0) p more in
        let one : posts p ≡ 1 = ap (λ (b : Bool). if b then 1 else 0) h in omega (arith, cons, one)
    by false h = let cons = sum_by-cons (λ (x : Op). if is_posting x then 1 else 0) p more in
        let one : posts p ≡ 0 = ap (λ (b : Bool). if b then 1 else 0) h in omega (arith, cons, one)

-- a request that is left was posted
pub left_below : (n k : ℕ) (body : List Op) → Contains (left_after n body) k → k < n + postings body
unfolding left_after
left_below n k [] c = absurd (none_in k c)
left_below n k (p ∷ more) c = elim (Contains-append_cases (left_by n p more) (left_after (n + posts p) more) k c) [
  | inl here ↦
      let is = left_by_in n k p more here in
      let same = is.0 in
      let one : posts p ≡ 1 = ap (λ (b : Bool). if b then 1 else 0) is.1 in
      let all = posts_first p more n in
      omega (arith, same, one, all)
  | inr there ↦ let all = posts_first p more n in let rest = left_below (n + posts p) k more there in omega (arith, all, rest)
]

-- the request of a call that doesn't wait is left behind the call
pub left_new : (n : ℕ) (body : List Op) (how : How) (span : Span) (whom : Peer) (tag : TagSel) (comm : ℕ) (status : _) → blocks how ≡ false
    → Contains (left_after n (body ++ op.Post how span whom tag comm status ∷ [])) (n + postings body)
unfolding left_after
left_new n [] how span whom tag comm status open_call =
    subst (λ (b : Bool). Contains ((if b || false then [] else n ∷ []) ++ []) (n + postings [])) (sym open_call)
    (subst (λ (m : ℕ). Contains (n ∷ []) m) (zero_more n) (first_in n []))
  where
    zero_more : (n : ℕ) → n ≡ n + 0
    zero_more n = omega arith
left_new n (p ∷ more) how span whom tag comm status open_call =
    let o = op.Post how span whom tag comm status in
    subst (λ (m : ℕ). Contains (left_by n p (more ++ o ∷ []) ++ left_after (n + posts p) (more ++ o ∷ [])) m) (posts_first p more n)
    (Contains-append_right (left_by n p (more ++ o ∷ [])) (left_after (n + posts p) (more ++ o ∷ [])) (n + posts p + postings more)
    (left_new (n + posts p) more how span whom tag comm status open_call))

-- where one operation stands behind a body, each operation is the last or stands in the body
pub last_or_before : (body earlier later : List Op) (o operation : Op) → body ++ o ∷ [] ≡ earlier ++ operation ∷ later
    → ((body ≡ earlier) × (o ≡ operation)) ⊎ ((rest : List Op) × (body ≡ earlier ++ operation ∷ rest))
last_or_before [] [] later o operation is = inl (refl, (cc))
last_or_before [] (e ∷ []) later o operation is = absurd (cc)
last_or_before [] (e ∷ f ∷ earlier) later o operation is = absurd (cc)
last_or_before (p ∷ body) [] later o operation is = inr (body, (cc))
last_or_before (p ∷ body) (e ∷ earlier) later o operation is =
    let first : p ≡ e = (cc) in
    let tail : body ++ o ∷ [] ≡ earlier ++ operation ∷ later = (cc) in
    elim (last_or_before body earlier later o operation tail) [
      | inl last ↦ inl ((cc), last.1)
      | inr before ↦ inr (before.0, (let rest = before.1 in cc))
    ]
