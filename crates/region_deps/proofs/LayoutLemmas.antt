-- How the graph is laid out: the place of each source among the links, the counts, and the tasks that nothing holds.
use Rattle.std.proofs.Common.{◌≡◌, ℕ, zero, suc, ◌+◌, ◌<◌, ◌≤◌, ◌==◌, Bool, true, false, not, ◌&&◌, cond, List, ◌++◌, length, get_or, set, take}
use Rattle.std.proofs.Common.{replicate, refl, ap, sym, ◌∙◌, subst, inl, inr, arith}
use Rattle.std.specs.List.{All, count_by}
use Rattle.std.specs.List.Sorted.{IsNonDecreasingBy}
use Rattle.std.proofs.lemmas.List.{length-set, get_or-set_other, get_or-replicate, get_or_past, length-append, length-replicate, length-take}
use Rattle.std.proofs.lemmas.List.{take_all, get_or_read, get_or_default}
use Rattle.std.proofs.lemmas.List.Elements.{All-append, All-weaker}
use Rattle.std.proofs.lemmas.List.Sums.{sum_by-append, sum_by_more, count_by-le-length}
use Rattle.std.proofs.lemmas.Bool.{cases_eq, cases_lt, cases_Bool, eq-eqb, ne_eqb, and_left, false≢true}
use Rattle.std.proofs.lemmas.Grind.{get_or-set_at}
use Rattle.region_deps.specs.declared.graph.Link.{Link}
use Rattle.region_deps.specs.Links.{link, is_gone, is_to, is_between, holds, IsWithin}
use Rattle.region_deps.specs.Queues.{due, is_waited_for, offered, IsQueued, HasRoom, HasPlace, IsPlace, IsGraph}
use Rattle.region_deps.proofs.Counting.{count_same, count_middle}

-- at first no source is gone
pub never_gone : (n source : ℕ) → is_gone (replicate n false) source ≡ false
never_gone n source = elim (cases_lt source n) [
  | inl within ↦ get_or-replicate n source false false within
  | inr past ↦ get_or_past (replicate n false) source false (omega (arith, past, length-replicate n false))
]

leads_on : (leads : Bool) → (leads && not false) ≡ leads
leads_on true = refl
leads_on false = refl

pub counted_at_first : (n task : ℕ) (links : List Link) → count_by (is_to task) links ≡ count_by (holds (replicate n false) task) links
counted_at_first n task links = sym (count_same (holds (replicate n false) task) (is_to task) links
    (λ k d lt. rw (never_gone n (get_or links k d).source) (leads_on ((get_or links k d).task == task))))

-- the graph as it is built
pub built : (links : List Link) (first : List ℕ) (left startable : List ℕ) (sources tasks capacity : ℕ) (gone handed : List Bool) →
    gone ≡ replicate sources false → handed ≡ replicate tasks false → tasks < 4294967296 → All (IsWithin sources tasks) links →
    length first ≡ sources + 1 → ((source : ℕ) → source < sources → HasPlace links first source) →
    length left ≡ tasks → ((task : ℕ) → task < tasks → get_or left task 1 ≡ count_by (is_to task) links) →
    IsQueued left (replicate (length left) false) startable → HasRoom left startable capacity → IsGraph links first gone handed left startable capacity
built links first left startable sources tasks capacity gone handed all_there none_handed few ends places place many counted queued room =
    let sources_are : length gone ≡ sources = ap length all_there ∙ length-replicate sources false in
    let tasks_are : length handed ≡ tasks = ap length none_handed ∙ length-replicate tasks false in
    record {
      ends = subst (λ n. All (IsWithin n (length handed)) links) (sym sources_are) (subst (λ n. All (IsWithin sources n) links) (sym tasks_are) ends);
      places = omega (arith, places, sources_are);
      place = λ s lt. place s (omega (arith, lt, sources_are));
      counted = λ task lt. counted task (omega (arith, lt, many)) ∙ counted_at_first sources task links
          ∙ ap (λ (l : List Bool). count_by (holds l task) links) (sym all_there);
      queued = subst (λ l. IsQueued left l startable) (ap (λ (n : ℕ). replicate n false) many ∙ sym none_handed) queued;
      room = room;
      numbered = omega (arith, few, tasks_are);
    }

place_order : (links : List Link) (source from to : ℕ) → IsPlace links source from → IsPlace links (source + 1) to → from ≤ to
place_order links source from to first second = elim (cases_lt to from) [
  | inl before ↦ let d = link 0 0 in absurd (omega (arith, first.below to d before, second.above to d (omega arith) (omega (arith, first.within))))
  | inr order ↦ order
]

pub built_read : (links links' links'' : List Link) (first left left' startable : List ℕ) (sources tasks capacity : ℕ) (gone handed : List Bool) →
    links' ≡ links → links'' ≡ links → left' ≡ left →
    gone ≡ replicate sources false → handed ≡ replicate tasks false → tasks < 4294967296 → All (IsWithin sources tasks) links →
    length first ≡ sources + 1 → ((source : ℕ) → source < sources → HasPlace links' first source) →
    length left ≡ tasks → ((task : ℕ) → task < tasks → get_or left task 1 ≡ count_by (is_to task) links'') →
    IsQueued left' (replicate (length left') false) startable → HasRoom left' startable capacity → IsGraph links first gone handed left startable capacity
built_read links links' links'' first left left' startable sources tasks capacity gone handed first_of counted_of idle_of all_there none_handed few ends
    places place many counted queued room =
    built links first left startable sources tasks capacity gone handed all_there none_handed few ends places
    (λ s lt. subst (λ l. HasPlace l first s) first_of (place s lt)) many
    (λ task lt. counted task lt ∙ ap (λ (l : List Link). count_by (is_to task) l) counted_of)
    (subst (λ l. IsQueued l (replicate (length l) false) startable) idle_of queued)
    (subst (λ l. HasRoom l startable capacity) idle_of room)

-- from the two places, the place of a source
pub place_from_ends : (links : List Link) (first : List ℕ) (source : ℕ) → IsNonDecreasingBy (λ (l : Link). l.source) links →
    IsPlace links source (get_or first source 0) → IsPlace links (source + 1) (get_or first (source + 1) 0) → HasPlace links first source
place_from_ends links first source sorted from to =
    let order : get_or first source 0 ≤ get_or first (source + 1) 0 = place_order links source (get_or first source 0) (get_or first (source + 1) 0) from to in
    record {
      order = order;
      inside = to.within;
      parts = λ task. count_middle (is_to task) (is_between source task) links (get_or first source 0) (get_or first (source + 1) 0) order to.within
          (λ k d lt. and_left ((get_or links k d).source == source) ((get_or links k d).task == task)
          (ne_eqb (get_or links k d).source source (λ e. absurd (omega (arith, from.below k d lt, e)))))
          (λ k d le lt. and_left ((get_or links k d).source == source) ((get_or links k d).task == task)
          (ne_eqb (get_or links k d).source source (λ e. absurd (omega (arith, to.above k d le lt, e)))))
          (λ k d le lt. let same : ((get_or links k d).source == source) ≡ true =
          eq-eqb (get_or links k d).source source (omega (arith, from.above k d le (omega (arith, to.within)), to.below k d lt)) in rw same refl);
    }

-- each task has the count of its links so far
pub record IsCounted (links : List Link) (i tasks : ℕ) (left : List ℕ) : Type 0 where
  pub long : length left ≡ tasks
  pub counted : (task : ℕ) → task < tasks → get_or left task 1 ≡ count_by (is_to task) (take i links)

pub counted_more : (links : List Link) (i tasks : ℕ) (left : List ℕ) (d : Link) (now : ℕ) → i < length links → (get_or links i d).task < tasks
    → IsCounted links i tasks left →
    now ≡ get_or left (get_or links i d).task now → IsCounted links (i + 1) tasks (set left (get_or links i d).task (now + 1))
counted_more links i tasks left d now within exists c is =
    let here : ℕ = (get_or links i d).task in
    let inside : here < length left = omega (arith, exists, c.long) in
    let read : now ≡ get_or left here 1 = get_or_read left here now inside is 1 in
    record {
      long = length-set left here (now + 1) ∙ c.long;
      counted = λ task lt.
          let more = sum_by_more (λ k. cond (is_to task k) 1 0) links i d within in
          elim (cases_eq task here) [
            | inl same ↦
                let set_here = get_or-set_at left here task (now + 1) 1 same inside in
                omega (
                  arith,
                  set_here,
                  more,
                  c.counted task lt,
                  ap (λ (t : ℕ). get_or left t 1) same,
                  read,
                  ap {B = ℕ} (λ (b : Bool). cond b 1 0) (eq-eqb here task (sym same)),
                )
            | inr other ↦
                let kept = get_or-set_other left here task (now + 1) 1 other in
                omega (arith, kept, more, c.counted task lt, ap {B = ℕ} (λ (b : Bool). cond b 1 0) (ne_eqb here task (λ e. other (sym e))))
          ];
    }

-- a count so far is no longer than the list so far
pub counted_within : (links : List Link) (i tasks : ℕ) (left : List ℕ) (d : Link) (now : ℕ) → i < length links → (get_or links i d).task < tasks
    → IsCounted links i tasks left →
    now ≡ get_or left (get_or links i d).task now → now ≤ i
counted_within links i tasks left d now within exists c is =
    let here : ℕ = (get_or links i d).task in
    let read : now ≡ get_or left here 1 = get_or_read left here now (omega (arith, exists, c.long)) is 1 in
    omega (arith, read, c.counted here exists, count_by-le-length (is_to here) (take i links), length-take i links)

-- the tasks so far that nothing holds are in the list, each once
pub record IsIdle (left : List ℕ) (i : ℕ) (startable : List ℕ) : Type 0 where
  pub each : (task : ℕ) → task < i → count_by (λ x. x == task) startable ≡ due (get_or left task 1) false
  pub later : (task : ℕ) → i ≤ task → count_by (λ x. x == task) startable ≡ 0
  pub within : All (λ x. x < i) startable
  pub many : length startable + count_by is_waited_for (take i left) ≡ i

count_offered : (task i left : ℕ) → count_by (λ x. x == task) (offered i left) ≡ cond (i == task) (due left false) 0
count_offered task i zero = omega arith
count_offered task i (suc left) = elim (cases_Bool (i == task)) [ inl is ↦ rw is refl | inr isnt ↦ rw isnt refl ]

length_offered : (i left : ℕ) → length (offered i left) + cond (is_waited_for left) 1 0 ≡ 1
length_offered i zero = refl
length_offered i (suc left) = refl

within_offered : (i left : ℕ) → All (λ x. x < i + 1) (offered i left)
within_offered i zero = λ k d lt. elim (cases_eq k 0) [ inl first ↦ rw first (omega arith) | inr other ↦ absurd (omega (arith, lt, other)) ]
within_offered i (suc left) = λ k d lt. absurd (omega (arith, lt))

pub idle_more : (left : List ℕ) (i : ℕ) (startable startable' : List ℕ) (here : ℕ) → i < length left → here ≡ get_or left i 0 → IsIdle left i startable →
    startable' ≡ startable ++ offered i here → IsIdle left (i + 1) startable'
idle_more left i startable startable' here within is idle e =
    let read : here ≡ get_or left i 1 = is ∙ get_or_default left i 0 1 within in
    let counts : (task : ℕ) → count_by (λ x. x == task) startable' ≡ count_by (λ x. x == task) startable + cond (i == task) (due here false) 0 =
    λ task. ap (λ (l : List ℕ). count_by (λ x. x == task) l) e ∙ sum_by-append (λ x. cond (x == task) 1 0) startable (offered i here) ∙
    ap (λ (n : ℕ). count_by (λ x. x == task) startable + n) (count_offered task i here) in
    record {
      each = λ task lt. elim (cases_eq task i) [
        | inl same ↦ omega (
          arith,
          counts task,
          ap {B = ℕ} (λ (b : Bool). cond b (due here false) 0) (eq-eqb i task (sym same)),
          idle.later task (omega (arith, same)),
          ap (λ (n : ℕ). due n false) (read ∙ sym (ap (λ (t : ℕ). get_or left t 1) same)),
        )
        | inr other ↦ omega (
          arith,
          counts task,
          ap {B = ℕ} (λ (b : Bool). cond b (due here false) 0) (ne_eqb i task (λ f. other (sym f))),
          idle.each task (omega (arith, lt, other)),
        )
      ];
      later = λ task le. omega (
        arith,
        counts task,
        idle.later task (omega (arith, le)),
        ap {B = ℕ} (λ (b : Bool). cond b (due here false) 0) (ne_eqb i task (λ f. absurd (omega (arith, le, f)))),
      );
      within = subst (All (λ x. x < i + 1)) (sym e) (All-append (λ x. x < i + 1) startable (offered i here)
          (All-weaker (λ x. x < i) (λ x. x < i + 1) (λ x lt. omega (arith, lt)) startable idle.within) (within_offered i here));
      many = omega (
        arith,
        ap length e,
        length-append startable (offered i here),
        length_offered i here,
        idle.many,
        sum_by_more (λ x. cond (is_waited_for x) 1 0) left i 1 within,
        ap {B = ℕ} (λ (n : ℕ). cond (is_waited_for n) 1 0) read,
      );
    }

pub idle_all : (left startable : List ℕ) (i : ℕ) → length left ≤ i → i ≤ length left → IsIdle left i startable
    → IsQueued left (replicate (length left) false) startable
idle_all left startable i le ge idle = record {
  each = λ task lt. rw (get_or-replicate (length left) task false true lt) (idle.each task (omega (arith, lt, le)));
  started = λ task lt is. absurd (false≢true (sym (get_or-replicate (length left) task false true lt) ∙ is));
  within = All-weaker (λ x. x < i) (λ x. x < length left) (λ x lt. omega (arith, lt, ge)) startable idle.within;
  lengths = length-replicate (length left) false;
}

pub idle_room : (left startable : List ℕ) (i capacity : ℕ) → length left ≤ i → i ≤ length left → length left ≤ capacity → IsIdle left i startable
    → HasRoom left startable capacity
idle_room left startable i capacity le ge room idle = omega (arith, idle.many, ap (λ (l : List ℕ). count_by is_waited_for l) (take_all i left le))
