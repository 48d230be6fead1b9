-- A number that counts the incomplete ones of some requests of a task, after a posting: one lemma for what tasks have bound and for what they await.
use Rattle.std.proofs.Common.{◌≡◌, ℕ, ◌+◌, ◌-◌, ◌≤◌, Bool, true, false, not, ◌&&◌, ◌||◌, cond, List, [], ◌∷◌, length, get_or, slice_get, slice_set}
use Rattle.std.proofs.Common.{Option, Some, None, refl, sym, ap, ◌∙◌, subst, inl, inr, arith}
use Rattle.std.specs.Prelude.{ℤ, IfSome, count_by}
use Rattle.std.specs.List.{list_any}
use Rattle.std.proofs.Math.Bool.{and-false, or-false}
use Rattle.std.proofs.lemmas.Bool.{cases_Bool}
use Rattle.std.proofs.lemmas.List.{length-set}
use Rattle.std.proofs.lemmas.Option.{slice_get_within, get_or_from_slice_get}
use Rattle.rt_base.specs.declared.data.ReqNo.{ReqNo}
use Rattle.rt_base.specs.declared.data.Phase.{Phase}
use Rattle.rt_base.specs.declared.data.Phase.TheVariants as phase
use Rattle.rt_base.specs.declared.data.TaskDef.{TaskDef}
use Rattle.rt_base.specs.declared.data.Program.{Program}
use Rattle.rt_base.specs.Operations.{posting_of}
use Rattle.rt_base.specs.Matching.{same_request}
use Rattle.rt_base.specs.Exchange.{Exchange, post, partner}
use Rattle.rt_base.specs.Completion.{is_complete, completes_alone}
use Rattle.rt_base.proofs.SameRequest.{one_request}
use Rattle.rt_base.proofs.Postings.{only_partner}
use Rattle.task_machine.specs.Machine.{awaited_at, open_count}
use Rattle.task_machine.proofs.Lists.{slice_get-set_same, slice_get-set_other}
use Rattle.task_machine.proofs.Items.{either_place}
use Rattle.tidy_runs.specs.Tidy.{AreOf}
use Rattle.tidy_runs.proofs.Bodies.{none_of_other}
use Rattle.wait_steps.specs.MarkedRows.{is_marked}
use Rattle.book_counts.specs.Counted.{waits_at, holds_now, is_returned, completed_now, one_less_for}
use Rattle.book_counts.proofs.Awaiting.{awaits_none}
use Rattle.book_counts.proofs.OpenCounts.{AsBefore, Closes, any_counts, none_counts, same_open, fewer_open, open-none}

-- a posting, and the other request that it completed
pub record Completes (p : Program) (x x' : Exchange) (own : ReqNo) (cells : List ℤ) (found : Option ReqNo) : Type 0 where
  pub after : x' ≡ post p x own cells
  pub partner_is : partner p x own cells ≡ found
  pub was : IfSome found (λ other. is_complete p x other ≡ completes_alone p.eager (posting_of p other))
  pub now : IfSome found (λ other. is_complete p x' other ≡ true)

-- the requests of task u that are counted, and for which this is said of it: each once, and the posting's own is none of them
pub record IsListed (u : ℕ) (own : ReqNo) (said : ReqNo → Bool) (reqs : List ReqNo) : Type 0 where
  pub own_task : AreOf u reqs
  pub once : (req : ReqNo) → count_by (same_request req) reqs ≤ 1
  pub fresh : list_any (same_request own) reqs ≡ false
  pub said_is : (req : ReqNo) → req.task.0 ≡ u → said req ≡ list_any (same_request req) reqs

-- the number of task u: what it has beside, and how many of these are incomplete
abbrev pub IsTally : Program → Exchange → ℕ → ℕ → List ReqNo → List ℕ → Type 0
IsTally p x u base reqs numbers = slice_get numbers u ≡ Some (base + open_count p x reqs)

kept_number : (p : Program) (x x' : Exchange) (own : ReqNo) (u base : ℕ) (reqs : List ReqNo) (numbers : List ℕ) → list_any (same_request own) reqs ≡ false
    → AsBefore p x x' own → IsTally p x u base reqs numbers → IsTally p x' u base reqs numbers
kept_number p x x' own u base reqs numbers fresh same number = number ∙ ap (λ (n : ℕ). Some (base + n)) (sym (same_open p x x' own reqs fresh same))

-- one of them was completed
closed_number : (p : Program) (x x' : Exchange) (own other : ReqNo) (said : ReqNo → Bool) (u base : ℕ) (reqs : List ReqNo) (numbers : List ℕ) (told : Bool)
    → IsListed u own said reqs → Closes p x x' own other → said other ≡ told → IsTally p x u base reqs numbers
    → IsTally p x' u base reqs (one_less_for numbers (cond told (other ∷ []) []))
closed_number p x x' own other said u base reqs numbers true listed closes is number =
    let fewer = fewer_open p x x' own other reqs listed.fresh closes in
    elim (either_place other.task.0 u) [
      | inl same ↦
          let some = any_counts (same_request other) reqs (sym (listed.said_is other same) ∙ is) in
          let most = listed.once other in
          let read : get_or numbers u 0 ≡ base + open_count p x reqs = get_or_from_slice_get numbers u (base + open_count p x reqs) 0 number in
          let less : get_or numbers u 0 - 1 ≡ base + open_count p x' reqs = omega arith in
          ap (λ i. slice_get (slice_set numbers i (get_or numbers i 0 - 1)) u) same
          ∙ slice_get-set_same numbers u (get_or numbers u 0 - 1) (slice_get_within numbers u (base + open_count p x reqs) number) ∙ ap Some less
      | inr apart ↦
          let none : count_by (same_request other) reqs ≡ 0 = none_of_other u reqs other listed.own_task apart in
          let equal : base + open_count p x reqs ≡ base + open_count p x' reqs = omega arith in
          slice_get-set_other numbers other.task.0 u (get_or numbers other.task.0 0 - 1) (λ e. apart (sym e)) ∙ number ∙ ap Some equal
    ]
closed_number p x x' own other said u base reqs numbers false listed closes is number =
    let fewer = fewer_open p x x' own other reqs listed.fresh closes in
    elim (either_place other.task.0 u) [
      | inl same ↦
          let none = none_counts (same_request other) reqs (sym (listed.said_is other same) ∙ is) in
          let equal : base + open_count p x reqs ≡ base + open_count p x' reqs = omega arith in
          number ∙ ap Some equal
      | inr apart ↦
          let none : count_by (same_request other) reqs ≡ 0 = none_of_other u reqs other listed.own_task apart in
          let equal : base + open_count p x reqs ≡ base + open_count p x' reqs = omega arith in
          number ∙ ap Some equal
    ]

-- all but the posting's own request and its partner are as they were
others_same : (p : Program) (x x' : Exchange) (own : ReqNo) (cells : List ℤ) (found : Option ReqNo) → Completes p x x' own cells found → (r : ReqNo)
    → same_request own r ≡ false → IfSome found (λ one. same_request one r ≡ false) → is_complete p x' r ≡ is_complete p x r
others_same p x x' own cells found made r apart differs =
    ap (λ (e : Exchange). is_complete p e r) made.after
    ∙ only_partner p x own r cells apart (subst (λ (o : Option ReqNo). IfSome o (λ one. same_request one r ≡ false)) (sym made.partner_is) differs)

some_after : (p : Program) (x x' : Exchange) (own other : ReqNo) (cells : List ℤ) (said : ReqNo → Bool) (u base : ℕ) (reqs : List ReqNo)
    (numbers : List ℕ) (alone : Bool) → Completes p x x' own cells (Some other) → IsListed u own said reqs → is_complete p x other ≡ alone
    → IsTally p x u base reqs numbers → IsTally p x' u base reqs (one_less_for numbers (cond (not alone && said other) (other ∷ []) []))
some_after p x x' own other cells said u base reqs numbers true made listed was number =
    kept_number p x x' own u base reqs numbers listed.fresh (λ r apart. elim (cases_Bool (same_request other r)) [
      | inl is ↦
          let one : r ≡ other = sym (one_request other r is) in
          ap (is_complete p x') one ∙ made.now ∙ sym was ∙ ap (is_complete p x) (sym one)
      | inr differ ↦ others_same p x x' own cells (Some other) made r apart differ
    ]) number
some_after p x x' own other cells said u base reqs numbers false made listed was number =
    closed_number p x x' own other said u base reqs numbers (said other) listed (record {
      was = was;
      now = made.now;
      rest = λ r apart differ. others_same p x x' own cells (Some other) made r apart differ;
    }) refl number

-- a number of task u after a posting is one less where the posting completed one of those that it counts
pub tally_after : (p : Program) (x x' : Exchange) (own : ReqNo) (cells : List ℤ) (found : Option ReqNo) (said : ReqNo → Bool) (u base : ℕ)
    (reqs : List ReqNo) (numbers : List ℕ) → Completes p x x' own cells found → IsListed u own said reqs → IsTally p x u base reqs numbers
    → IsTally p x' u base reqs (one_less_for numbers (completed_now p said found))
tally_after p x x' own cells None said u base reqs numbers made listed number =
    kept_number p x x' own u base reqs numbers listed.fresh (λ r apart. others_same p x x' own cells None made r apart tt) number
tally_after p x x' own cells (Some other) said u base reqs numbers made listed number =
    some_after p x x' own other cells said u base reqs numbers (completes_alone p.eager (posting_of p other)) made listed made.was number

-- as many numbers as before
pub length-one_less_for : (ws : List ℕ) (reqs : List ReqNo) → length (one_less_for ws reqs) ≡ length ws
length-one_less_for ws [] = refl
length-one_less_for ws (req ∷ reqs) =
    length-one_less_for (slice_set ws req.task.0 (get_or ws req.task.0 0 - 1)) reqs ∙ length-set ws req.task.0 (get_or ws req.task.0 0 - 1)

-- ---- for what a task waits

-- the requests for which a task that stands there waits before its next move
abbrev pub heard : ℕ → Option TaskDef → Phase → List ReqNo → List ReqNo
heard u def phase.Waiting bound = []
heard u def (phase.At k) bound = []
heard u def (phase.In k) bound = awaited_at u def (Some (phase.In k))
heard u def phase.Ended bound = []
heard u def phase.Returned bound = bound
heard u def phase.Released bound = []

-- and for how many things beside
abbrev pub beside : List Bool → ℕ → Phase → ℕ
beside handed u phase.Waiting = cond (get_or handed u false) 0 1
beside handed u (phase.At k) = 0
beside handed u (phase.In k) = 0
beside handed u phase.Ended = 0
beside handed u phase.Returned = 0
beside handed u phase.Released = 1

pub waits_parts : (p : Program) (x : Exchange) (h : List Bool) (u : ℕ) (at : Phase) (bound : List ReqNo)
    → waits_at p x h u at bound ≡ beside h u at + open_count p x (heard u (slice_get p.tasks.items u) at bound)
waits_parts p x h u phase.Waiting bound = let none = open-none p x in omega arith
waits_parts p x h u (phase.At k) bound = let none = open-none p x in omega arith
waits_parts p x h u (phase.In k) bound = omega arith
waits_parts p x h u phase.Ended bound = let none = open-none p x in omega arith
waits_parts p x h u phase.Returned bound = omega arith
waits_parts p x h u phase.Released bound = let none = open-none p x in omega arith

pub heard_own : (u : ℕ) (def : Option TaskDef) (at : Phase) (bound : List ReqNo) → AreOf u (awaited_at u def (Some at)) → AreOf u bound
    → AreOf u (heard u def at bound)
heard_own u def phase.Waiting bound awaited own = tt
heard_own u def (phase.At k) bound awaited own = tt
heard_own u def (phase.In k) bound awaited own = awaited
heard_own u def phase.Ended bound awaited own = tt
heard_own u def phase.Returned bound awaited own = own
heard_own u def phase.Released bound awaited own = tt

pub heard_once : (u : ℕ) (def : Option TaskDef) (at : Phase) (bound : List ReqNo) (req : ReqNo)
    → count_by (same_request req) (awaited_at u def (Some at)) ≤ 1 → count_by (same_request req) bound ≤ 1
    → count_by (same_request req) (heard u def at bound) ≤ 1
heard_once u def phase.Waiting bound req awaited once = omega arith
heard_once u def (phase.At k) bound req awaited once = omega arith
heard_once u def (phase.In k) bound req awaited once = awaited
heard_once u def phase.Ended bound req awaited once = omega arith
heard_once u def phase.Returned bound req awaited once = once
heard_once u def phase.Released bound req awaited once = omega arith

-- where the task is not in an operation and has not returned
out_none : (marked awaits : Bool) → false ≡ awaits → (awaits || (marked && false)) ≡ false
out_none marked awaits none = ap (λ b. b || (marked && false)) (sym none) ∙ and-false marked

held_marked : (marked awaits : Bool) → false ≡ awaits → (awaits || (marked && true)) ≡ marked
held_marked true awaits none = ap (λ b. b || true) (sym none)
held_marked false awaits none = ap (λ b. b || false) (sym none)

-- what the book reads of a request, by where its task stands
holds_at : (req : ReqNo) (def : Option TaskDef) (at : Phase) (bound : List ReqNo) (marked : Bool) → marked ≡ list_any (same_request req) bound
    → (list_any (same_request req) (awaited_at req.task.0 def (Some at)) || (marked && is_returned (Some at)))
    ≡ list_any (same_request req) (heard req.task.0 def at bound)
holds_at req def phase.Waiting bound marked is = out_none marked _ (awaits_none req def phase.Waiting refl)
holds_at req def (phase.At k) bound marked is = out_none marked _ (awaits_none req def (phase.At k) refl)
holds_at req def (phase.In k) bound marked is =
    let awaits : Bool = list_any (same_request req) (awaited_at req.task.0 def (Some (phase.In k))) in
    ap (λ b. awaits || b) (and-false marked) ∙ or-false awaits
holds_at req def phase.Ended bound marked is = out_none marked _ (awaits_none req def phase.Ended refl)
holds_at req def phase.Returned bound marked is = held_marked marked _ (awaits_none req def phase.Returned refl) ∙ is
holds_at req def phase.Released bound marked is = out_none marked _ (awaits_none req def phase.Released refl)

pub holds_is : (p : Program) (phs : List Phase) (marks : List (List Bool)) (u : ℕ) (at : Phase) (bound : List ReqNo) (req : ReqNo) → slice_get phs u ≡ Some at
    → is_marked marks req ≡ list_any (same_request req) bound → req.task.0 ≡ u
    → holds_now p phs marks req ≡ list_any (same_request req) (heard u (slice_get p.tasks.items u) at bound)
holds_is p phs marks u at bound req here marked same =
    let def : Option TaskDef = slice_get p.tasks.items req.task.0 in
    let read : slice_get phs req.task.0 ≡ Some at = ap (slice_get phs) same ∙ here in
    ap (λ (q : Option Phase). list_any (same_request req) (awaited_at req.task.0 def q) || (is_marked marks req && is_returned q)) read
    ∙ holds_at req def at bound (is_marked marks req) marked
    ∙ ap (λ (i : ℕ). list_any (same_request req) (heard i (slice_get p.tasks.items i) at bound)) same
