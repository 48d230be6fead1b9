-- How many of some requests are incomplete, before and after a posting.
use Rattle.std.proofs.Common.{◌≡◌, ◌≢◌, ℕ, ◌+◌, ◌≤◌, Bool, true, false, not, ◌||◌, cond, List, [], ◌∷◌, ◌++◌, IsSome, refl, sym, ap, ◌∙◌, inl, inr, arith}
use Rattle.std.specs.Prelude.{count_by}
use Rattle.std.specs.List.{list_any}
use Rattle.std.proofs.lemmas.Bool.{cases_Bool, false_from_ne_true}
use Rattle.std.proofs.lemmas.List.Sums.{sum_by-cons, sum_by-append}
use Rattle.rt_base.specs.declared.data.ReqNo.{ReqNo}
use Rattle.rt_base.specs.declared.data.Program.{Program}
use Rattle.rt_base.specs.Matching.{same_request}
use Rattle.rt_base.specs.Exchange.{Exchange}
use Rattle.rt_base.specs.Completion.{is_complete}
use Rattle.rt_base.proofs.SameRequest.{one_request}
use Rattle.task_machine.specs.Machine.{open_count, open_ones}
use Rattle.tidy_runs.specs.Tidy.{AreOf}
use Rattle.tidy_runs.proofs.Bodies.{own_in}
use Rattle.wait_steps.specs.MarkedRows.{mark_of, HaveMarks}

not_one : (b : Bool) → ◌≡◌ {A = ℕ} (cond (not b) 1 0) (cond b 0 1)
not_one true = refl
not_one false = refl

-- the count over one request more
pub open-cons : (p : Program) (x : Exchange) (req : ReqNo) (reqs : List ReqNo)
    → open_count p x (req ∷ reqs) ≡ cond (is_complete p x req) 0 1 + open_count p x reqs
unfolding open_count
open-cons p x req reqs =
    let whole = sum_by-cons (λ (r : ReqNo). cond (not (is_complete p x r)) 1 0) req reqs in
    let one = not_one (is_complete p x req) in
    omega arith

pub open-append : (p : Program) (x : Exchange) (front back : List ReqNo) → open_count p x (front ++ back) ≡ open_count p x front + open_count p x back
unfolding open_count
open-append p x front back = sum_by-append (λ (r : ReqNo). cond (not (is_complete p x r)) 1 0) front back

pub open-none : (p : Program) (x : Exchange) → open_count p x [] ≡ 0
unfolding open_count
open-none p x = refl

pub open_one : (p : Program) (x : Exchange) (req : ReqNo) → open_count p x (req ∷ []) ≡ cond (is_complete p x req) 0 1
open_one p x req =
    let whole = open-cons p x req [] in
    let none = open-none p x in
    omega arith

again_by : (p : Program) (x : Exchange) (req : ReqNo) (left : List ReqNo) (done : Bool) → is_complete p x req ≡ done
    → open_count p x (cond done left (req ∷ left)) ≡ cond done 0 1 + open_count p x left
again_by p x req left true is = omega arith
again_by p x req left false is =
    let whole = open-cons p x req left in
    let one = ap {B = ℕ} (λ b. cond b 0 1) is in
    omega arith

-- those that are incomplete are all that is counted
pub open_again : (p : Program) (x : Exchange) (reqs : List ReqNo) → open_count p x (open_ones p x reqs) ≡ open_count p x reqs
open_again p x [] = refl
open_again p x (req ∷ reqs) =
    let first = again_by p x req (open_ones p x reqs) (is_complete p x req) refl in
    let whole = open-cons p x req reqs in
    let rest = open_again p x reqs in
    omega arith

have_by : (marks : List (List Bool)) (req : ReqNo) (left : List ReqNo) (done : Bool) → IsSome (mark_of marks req) → HaveMarks marks left
    → HaveMarks marks (cond done left (req ∷ left))
have_by marks req left true has have = have
have_by marks req left false has have = (has, have)

-- where each of these requests has a mark, each incomplete one of them has
pub have_open : (p : Program) (x : Exchange) (marks : List (List Bool)) (reqs : List ReqNo) → HaveMarks marks reqs → HaveMarks marks (open_ones p x reqs)
have_open p x marks [] have = tt
have_open p x marks (req ∷ reqs) have = have_by marks req (open_ones p x reqs) (is_complete p x req) have.0 (have_open p x marks reqs have.1)

-- a request of another task is none of these
pub none_of_others : (t : ℕ) (reqs : List ReqNo) (req : ReqNo) → AreOf t reqs → req.task.0 ≢ t → list_any (same_request req) reqs ≡ false
none_of_others t reqs req own other = false_from_ne_true (list_any (same_request req) reqs) (λ is. other (own_in t reqs req own is))

-- whether a list has one that passes, and how many do
pub any_counts : (f : ReqNo → Bool) (reqs : List ReqNo) → list_any f reqs ≡ true → 1 ≤ count_by f reqs
any_counts f [] any = absurd (cc any)
any_counts f (req ∷ reqs) any =
    let whole = sum_by-cons (λ (r : ReqNo). cond (f r) 1 0) req reqs in
    elim (cases_Bool (f req)) [
      | inl passes ↦ let one = ap {B = ℕ} (λ b. cond b 1 0) passes in omega arith
      | inr fails ↦
          let rest = any_counts f reqs (sym (ap (λ b. b || list_any f reqs) fails) ∙ any) in
          omega arith
    ]

pub none_counts : (f : ReqNo → Bool) (reqs : List ReqNo) → list_any f reqs ≡ false → count_by f reqs ≡ 0
none_counts f [] none = refl
none_counts f (req ∷ reqs) none =
    let whole = sum_by-cons (λ (r : ReqNo). cond (f r) 1 0) req reqs in
    elim (cases_Bool (f req)) [
      | inl passes ↦ absurd (cc (ap (λ b. b || list_any f reqs) passes, none))
      | inr fails ↦
          let rest = none_counts f reqs (sym (ap (λ b. b || list_any f reqs) fails) ∙ none) in
          let zero_here = ap {B = ℕ} (λ b. cond b 1 0) fails in
          omega arith
    ]

-- neither a first request nor another is the one
pub neither_is : (own req : ReqNo) (reqs : List ReqNo) → list_any (same_request own) (req ∷ reqs) ≡ false
    → (same_request own req ≡ false) × (list_any (same_request own) reqs ≡ false)
neither_is own req reqs none = elim (cases_Bool (same_request own req)) [
  | inl same ↦ absurd (cc (same, none))
  | inr differ ↦ (differ, sym (ap (λ b. b || list_any (same_request own) reqs) differ) ∙ none)
]

-- requests but this one are complete in the second exchange exactly where they were in the first
abbrev pub AsBefore : Program → Exchange → Exchange → ReqNo → Type 0
AsBefore p x x' own = (r : ReqNo) → same_request own r ≡ false → is_complete p x' r ≡ is_complete p x r

pub same_open : (p : Program) (x x' : Exchange) (own : ReqNo) (reqs : List ReqNo) → list_any (same_request own) reqs ≡ false → AsBefore p x x' own
    → open_count p x' reqs ≡ open_count p x reqs
same_open p x x' own [] none same = open-none p x' ∙ sym (open-none p x)
same_open p x x' own (req ∷ reqs) none same =
    let apart = neither_is own req reqs none in
    let new = open-cons p x' req reqs in
    let old = open-cons p x req reqs in
    let first = ap {B = ℕ} (λ b. cond b 0 1) (same req apart.0) in
    let rest = same_open p x x' own reqs apart.1 same in
    omega arith

-- the request is complete in the second exchange and was not in the first; the others but one are as they were
pub record Closes (p : Program) (x x' : Exchange) (own other : ReqNo) : Type 0 where
  pub was : is_complete p x other ≡ false
  pub now : is_complete p x' other ≡ true
  pub rest : (r : ReqNo) → same_request own r ≡ false → same_request other r ≡ false → is_complete p x' r ≡ is_complete p x r

pub fewer_open : (p : Program) (x x' : Exchange) (own other : ReqNo) (reqs : List ReqNo) → list_any (same_request own) reqs ≡ false → Closes p x x' own other
    → open_count p x' reqs + count_by (same_request other) reqs ≡ open_count p x reqs
fewer_open p x x' own other [] none closes =
    let old = open-none p x in
    let new = open-none p x' in
    let nothing : count_by (same_request other) [] ≡ 0 = refl in
    omega arith
fewer_open p x x' own other (req ∷ reqs) none closes =
    let apart = neither_is own req reqs none in
    let new = open-cons p x' req reqs in
    let old = open-cons p x req reqs in
    let whole = sum_by-cons (λ (r : ReqNo). cond (same_request other r) 1 0) req reqs in
    let rest = fewer_open p x x' own other reqs apart.1 closes in
    elim (cases_Bool (same_request other req)) [
      | inl same ↦
          let one = ap {B = ℕ} (λ b. cond b 1 0) same in
          let is : req ≡ other = sym (one_request other req same) in
          let now = ap {B = ℕ} (λ b. cond b 0 1) (ap (is_complete p x') is ∙ closes.now) in
          let was = ap {B = ℕ} (λ b. cond b 0 1) (ap (is_complete p x) is ∙ closes.was) in
          omega arith
      | inr differ ↦
          let none_here = ap {B = ℕ} (λ b. cond b 1 0) differ in
          let same = ap {B = ℕ} (λ b. cond b 0 1) (closes.rest req apart.0 differ) in
          omega arith
    ]
