-- Which holders belong to which task, as the hall is new.
use Rattle.std.proofs.Common.{◌≡◌, ℕ, zero, suc, ◌+◌, ◌*◌, ◌<◌, ◌≤◌, false, List, [], ◌∷◌, ◌++◌, length, map, replicate, slice_get}
use Rattle.std.proofs.Common.{slice_index, Option, Some, None}
use Rattle.std.proofs.Common.{option_map, refl, sym, ap, ◌∙◌, subst, arith, length-append}
use Rattle.std.specs.Prelude.{IsSome, option_and_then}
use mathlib.Core.Logic.{dite}
use native.Mathlib.Decide.{ℕ_discrete}
use Rattle.std.proofs.lemmas.List.{length-map}
use Rattle.std.proofs.lemmas.List.Sums.{sum_by-cons}
use Rattle.std.specs.Prelude.{sum_by}
use Rattle.std.proofs.lemmas.Option.{slice_get_within}
use Rattle.rt_base.specs.declared.data.TaskDef.{TaskDef}
use Rattle.rt_base.specs.declared.data.Program.{Program}
use Rattle.rt_base.specs.Operations.{postings}
use Rattle.rt_base.specs.State.{State}
use Rattle.rt_base.specs.WellFormed.{WellFormed}
use Rattle.task_machine.proofs.Items.{same_some}
use Rattle.task_machine.proofs.Lists.{slice_get-map}
use Rattle.pass_table.specs.Passes.{TableId, PassIs}
use Rattle.meet_hall.specs.declared.view.Desk.{Desk}
use Rattle.meet_hall.specs.Holders.{HolderIs, TicketIs, desk, first_desks}
use Rattle.meet_hall.specs.Plan.{start_of}
use Rattle.meet_hall.specs.Views.{first_desk}
use Rattle.shared_lists.specs.Deeds.{state_seen, is_offered}
use Rattle.listed_book.specs.Listed.{BookIs}
use Rattle.shared_tasks.specs.Places.{IsHolder, requests_of}
use Rattle.shared_tasks.specs.Owing.{no_tickets, no_tickets_for, KeepsTickets}
use Rattle.shared_tasks.proofs.Owed.{none_owed}
use Rattle.shared_book.specs.declared.pairs.Pair.{Pair}
use Rattle.shared_book.specs.Parts.{meeting_places, KeepsParts}
use Rattle.shared_book.specs.Computed.{pairs_in, odd_in}
use Rattle.shared_book.specs.Kept.{IsPairOf, IsLying, HasPlaces, KeepsSection}

-- ---- the holders of a new hall, by place

get_front : {X : Type 0} (xs ys : List X) (i : ℕ) → i < length xs → slice_get (xs ++ ys) i ≡ slice_get xs i
get_front [] ys i within = absurd (omega (arith, within))
get_front (x ∷ xs) ys zero within = refl
get_front (x ∷ xs) ys (suc i) within = get_front xs ys i (omega (arith, within))

get_last : {X : Type 0} (xs : List X) (x : X) (i : ℕ) → i ≡ length xs → slice_get (xs ++ x ∷ []) i ≡ Some x
get_last [] x zero is = refl
get_last [] x (suc i) is = absurd (omega (arith, is))
get_last (y ∷ xs) x zero is = absurd (omega (arith, is))
get_last (y ∷ xs) x (suc i) is = get_last xs x i (omega (arith, is))

desks_count : (site : TableId) (plan : List ℕ) (n : ℕ) → length (first_desks site plan n) ≡ n
desks_count site plan zero = refl
desks_count site plan (suc n) =
    let rest = desks_count site plan n in
    omega (arith, rest, length-append (first_desks site plan n) (first_desk site n (start_of plan n) (slice_index plan n) ∷ []))

desk_at : (site : TableId) (plan : List ℕ) (n m : ℕ) → m < n
    → slice_get (first_desks site plan n) m ≡ Some (first_desk site m (start_of plan m) (slice_index plan m))
desk_at site plan zero m within = absurd (omega (arith, within))
desk_at site plan (suc n) m within = dite (ℕ_discrete m n)
    (λ is.
    get_last (first_desks site plan n) (first_desk site n (start_of plan n) (slice_index plan n)) m
    (let count = desks_count site plan n in omega (arith, count, is))
    ∙ ap (λ (k : ℕ). Some (first_desk site k (start_of plan k) (slice_index plan k))) (sym is))
    (λ other.
    let below : m < n = omega (arith, within, other) in
    get_front (first_desks site plan n) (first_desk site n (start_of plan n) (slice_index plan n) ∷ []) m
    (let count = desks_count site plan n in omega (arith, count, below)) ∙ desk_at site plan n m below)

holder_desk : (site : TableId) (plan : List ℕ) (holders : List HolderIs) (m : ℕ) (h : HolderIs) → map desk holders ≡ first_desks site plan (length plan)
    → m < length plan → slice_get holders m ≡ Some h → desk h ≡ first_desk site m (start_of plan m) (slice_index plan m)
holder_desk site plan holders m h new within here =
    let left : slice_get (map desk holders) m ≡ Some (desk h) = slice_get-map desk holders m ∙ ap (option_map desk) here in
    same_some (sym left ∙ (ap (λ (ds : List Desk). slice_get ds m) new ∙ desk_at site plan (length plan) m within))

-- ---- how many places, by meeting

pub plan_count : (tasks : List TaskDef) → length (meeting_places tasks) ≡ 2 * length tasks + 1
plan_count [] = refl
plan_count (task ∷ tasks) = omega (arith, plan_count tasks)

pause_places : (tasks : List TaskDef) (t : ℕ) → t < length tasks → slice_index (meeting_places tasks) (2 * t) ≡ requests_of (slice_get tasks t)
pause_places [] t within = absurd (omega (arith, within))
pause_places (task ∷ tasks) zero within = refl
pause_places (task ∷ tasks) (suc t) within =
    let next : 2 * suc t ≡ suc (suc (2 * t)) = omega arith in
    ap (slice_index (meeting_places (task ∷ tasks))) next ∙ pause_places tasks t (omega (arith, within))

events_places : (tasks : List TaskDef) (t : ℕ) → t < length tasks → slice_index (meeting_places tasks) (2 * t + 1) ≡ requests_of (slice_get tasks t)
events_places [] t within = absurd (omega (arith, within))
events_places (task ∷ tasks) zero within = refl
events_places (task ∷ tasks) (suc t) within =
    let next : 2 * suc t + 1 ≡ suc (suc (2 * t + 1)) = omega arith in
    ap (slice_index (meeting_places (task ∷ tasks))) next ∙ events_places tasks t (omega (arith, within))

-- ---- two by two

record Two (holders : List HolderIs) (t : ℕ) (lies : Option Pair) : Type 0 where
  pair : Pair
  is : lies ≡ Some pair
  pause : slice_get holders (2 * t) ≡ Some pair.pause
  events : slice_get holders (2 * t + 1) ≡ Some pair.events

two_at : (holders : List HolderIs) (t : ℕ) (lies : Option Pair) → slice_get (pairs_in holders) t ≡ Some lies → Two holders t lies
two_at [] t lies here = absurd (cc)
two_at (one ∷ []) t lies here = absurd (cc)
two_at (one ∷ other ∷ holders) zero lies here = record { pair = record { pause = one; events = other }; is = sym (same_some here); pause = refl; events = refl }
two_at (one ∷ other ∷ holders) (suc t) lies here =
    let rest = two_at holders t lies here in
    let pauses : 2 * suc t ≡ suc (suc (2 * t)) = omega arith in
    let events_ : 2 * suc t + 1 ≡ suc (suc (2 * t + 1)) = omega arith in
    record {
      pair = rest.pair;
      is = rest.is;
      pause = ap (slice_get (one ∷ other ∷ holders)) pauses ∙ rest.pause;
      events = ap (slice_get (one ∷ other ∷ holders)) events_ ∙ rest.events;
    }

pub pairs_count : (holders : List HolderIs) (n : ℕ) → length holders ≡ 2 * n + 1 → length (pairs_in holders) ≡ n
pairs_count [] n is = absurd (omega (arith, is))
pairs_count (one ∷ []) zero is = refl
pairs_count (one ∷ []) (suc n) is = absurd (omega (arith, is))
pairs_count (one ∷ other ∷ holders) zero is = absurd (omega (arith, is))
pairs_count (one ∷ other ∷ holders) (suc n) is = omega (arith, pairs_count holders n (omega (arith, is)))

pub holders_count : (site : TableId) (tasks : List TaskDef) (holders : List HolderIs)
    → map desk holders ≡ first_desks site (meeting_places tasks) (length (meeting_places tasks)) → length holders ≡ 2 * length tasks + 1
holders_count site tasks holders new =
    let mapped = length-map holders desk in
    let all = ap (λ (ds : List Desk). length ds) new in
    omega (arith, mapped, all, desks_count site (meeting_places tasks) (length (meeting_places tasks)), plan_count tasks)

is_holder : (p : Program) (site : TableId) (t m : ℕ) (h : HolderIs) → m < length (meeting_places p.tasks.items)
    → desk h ≡ first_desk site m (start_of (meeting_places p.tasks.items) m) (slice_index (meeting_places p.tasks.items) m)
    → slice_index (meeting_places p.tasks.items) m ≡ requests_of (slice_get p.tasks.items t) → IsHolder p site t m h
is_holder p site t m h within is places = record {
  hall = ap (λ (d : Desk). d.hall) is;
  meeting_is = ap (λ (d : Desk). d.meeting) is;
  places = ap (λ (d : Desk). d.places) is ∙ places;
  none_left = ap (λ (d : Desk). d.left) is;
}

pair_of : (p : Program) (site : TableId) (t : ℕ) (holders : List HolderIs) (lies : Option Pair) → t < length p.tasks.items
    → map desk holders ≡ first_desks site (meeting_places p.tasks.items) (length (meeting_places p.tasks.items)) → Two holders t lies → IsLying p site
    t false lies
pair_of p site t holders lies within new two =
    let plan = meeting_places p.tasks.items in
    let count = plan_count p.tasks.items in
    let first = holder_desk site plan holders (2 * t) two.pair.pause new (omega (arith, count, within)) two.pause in
    let second = holder_desk site plan holders (2 * t + 1) two.pair.events new (omega (arith, count, within)) two.events in
    let its : IsPairOf p site t two.pair = record {
      pause = is_holder p site t (2 * t) two.pair.pause (omega (arith, count, within)) first (pause_places p.tasks.items t within);
      events = is_holder p site t (2 * t + 1) two.pair.events (omega (arith, count, within)) second (events_places p.tasks.items t within);
      none_issued = (ap (λ (d : Desk). d.issued) first, ap (λ (d : Desk). d.issued) second);
    } in
    subst (IsLying p site t false) (sym two.is) its

-- ---- the first state of the lock

none_in_row : (n m : ℕ) → m < n → IsSome (slice_get (replicate {A = Option TicketIs} n None) m)
none_in_row zero m within = absurd (omega (arith, within))
none_in_row (suc n) zero within = refl
none_in_row (suc n) (suc m) within = none_in_row n m (omega (arith, within))

place_by : (n : ℕ) (o : Option TaskDef) → n < requests_of o
    → IsSome (option_and_then (λ (row : List (Option TicketIs)). slice_get row n) (option_map no_tickets_for o))
place_by n None within = absurd (omega (arith, within))
place_by n (Some task) within = none_in_row (postings task.body.items) n within

first_places : (p : Program) → HasPlaces p (no_tickets p)
first_places p req within =
    subst (λ (o : Option (List (Option TicketIs))). IsSome (option_and_then (λ (row : List (Option TicketIs)). slice_get row req.nth) o))
    (sym (slice_get-map no_tickets_for p.tasks.items req.task.0)) (place_by req.nth (slice_get p.tasks.items req.task.0) within)

pub first_section : (p : Program) (w : ℕ) (table site : TableId) (own : TableId) (book : BookIs) (rows : List (List (Option TicketIs))) (pollers : List PassIs)
    (pairs : List (Option Pair)) (room : ℕ) (places : List ℕ) (holders : List HolderIs) → KeepsParts own book rows pollers pairs room places
    → book.program ≡ p → book.workers ≡ w → book.table ≡ table
    → map desk holders ≡ first_desks site (meeting_places p.tasks.items) (length (meeting_places p.tasks.items))
    → KeepsSection p w table site book rows (pairs_in holders)
first_section p w table site own book rows pollers pairs room places holders parts same_p same_w same_t new =
    let empty : rows ≡ no_tickets p = parts.tickets ∙ ap no_tickets same_p in
    let count = pairs_count holders (length p.tasks.items) (holders_count site p.tasks.items holders new) in
    record {
      well_formed = subst WellFormed same_p parts.well_formed;
      program_is = same_p;
      workers_is = same_w;
      table_is = same_t;
      places = subst (HasPlaces p) (sym empty) (first_places p);
      tickets =
          subst (λ (s : State). KeepsTickets p site s rows)
          (sym (ap (λ (q : Program). state_seen q book.seen) same_p ∙ ap (state_seen p) parts.first)) (none_owed p site rows);
      counted = count;
      lying = λ t lies here.
          subst (λ (seen : List (ℕ × ℕ)). IsLying p site t (is_offered t seen) lies) (sym parts.first)
          (pair_of p site t holders lies (let within = slice_get_within (pairs_in holders) t lies here in omega (arith, within, count)) new
          (two_at holders t lies here));
    }

-- ---- one holder more

pub odd_none : (holders : List HolderIs) (h : HolderIs) → odd_in holders ≡ None
    → (pairs_in (holders ++ h ∷ []) ≡ pairs_in holders) × (odd_in (holders ++ h ∷ []) ≡ Some h)
odd_none [] h none = (refl, refl)
odd_none (one ∷ []) h none = absurd (cc)
odd_none (one ∷ other ∷ holders) h none =
    let rest = odd_none holders h none in
    (ap (λ (ps : List (Option Pair)). Some (record { pause = one; events = other }) ∷ ps) rest.0, rest.1)

pub odd_some : (holders : List HolderIs) (a h : HolderIs) → odd_in holders ≡ Some a
    → (pairs_in (holders ++ h ∷ []) ≡ pairs_in holders ++ Some (record { pause = a; events = h }) ∷ []) × (odd_in (holders ++ h ∷ []) ≡ None)
odd_some [] a h some = absurd (cc)
odd_some (one ∷ []) a h some = (ap (λ (z : HolderIs). Some (record { pause = z; events = h }) ∷ []) (same_some some), refl)
odd_some (one ∷ other ∷ holders) a h some =
    let rest = odd_some holders a h some in
    (ap (λ (ps : List (Option Pair)). Some (record { pause = one; events = other }) ∷ ps) rest.0, rest.1)

-- where one is left
pub odd_count : (holders : List HolderIs) (a : HolderIs) → odd_in holders ≡ Some a → length holders ≡ 2 * length (pairs_in holders) + 1
odd_count [] a some = absurd (cc)
odd_count (one ∷ []) a some = refl
odd_count (one ∷ other ∷ holders) a some = omega (arith, odd_count holders a some)

-- ---- how many places, in all

pub some_place : (tasks : List TaskDef) → 0 < length (meeting_places tasks)
some_place [] = omega arith
some_place (task ∷ tasks) = omega arith

pub few_at : (tasks : List TaskDef) (most_ : ℕ) → sum_by (λ (task : TaskDef). postings task.body.items) tasks ≤ most_ → (m : ℕ)
    → m < length (meeting_places tasks) → slice_index (meeting_places tasks) m ≤ most_
few_at [] most_ few zero within = omega arith
few_at [] most_ few (suc m) within = absurd (omega (arith, within))
few_at (task ∷ tasks) most_ few zero within =
    let all = sum_by-cons (λ (t : TaskDef). postings t.body.items) task tasks in omega (arith, few, all)
few_at (task ∷ tasks) most_ few (suc zero) within =
    let all = sum_by-cons (λ (t : TaskDef). postings t.body.items) task tasks in omega (arith, few, all)
few_at (task ∷ tasks) most_ few (suc (suc m)) within =
    let all = sum_by-cons (λ (t : TaskDef). postings t.body.items) task tasks in
    few_at tasks most_ (omega (arith, few, all)) m (omega (arith, within))
