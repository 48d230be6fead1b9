-- What the counts and the list of startable tasks say of the links, and that each move of the graph keeps them.
use Rattle.std.proofs.Common.{◌≡◌, ℕ, zero, suc, ◌+◌, ◌-◌, ◌<◌, ◌≤◌, ◌==◌, Bool, true, false, not, ◌&&◌, cond, List, [], ◌∷◌, ◌++◌, length, get_or}
use Rattle.std.proofs.Common.{set, drop, Some, IsTrue, ◌↔◌, refl, ap, sym, ◌∙◌, subst, inl, inr, arith}
use Rattle.std.specs.List.{All, Contains, count_by, slice_range}
use Rattle.std.proofs.lemmas.List.{length-set, get_or-set_same, get_or-set_other, length_push, length-append, get_or_append_left, drop_all, get_or_read}
use Rattle.std.proofs.lemmas.List.Elements.{All-contains, Contains-push, Contains-get_or}
use Rattle.std.proofs.lemmas.List.Sums.{sum_by_push, sum_by-drop_more, get_or-le-sum_by, count_by-le-length}
use Rattle.std.proofs.lemmas.Bool.{cases_eq, cases_Bool, eq-eqb, eqb-true, ne_eqb, and_from, and_left, and_right, not_from_true, not_from_false}
use Rattle.std.proofs.lemmas.Option.{slice_get-get_or, slice_get_within, get_or_from_slice_get}
use Rattle.std.proofs.lemmas.Grind.{get_or-set_at}
use Rattle.region_deps.specs.declared.graph.Link.{Link}
use Rattle.region_deps.specs.Links.{link, is_gone, is_to, is_between, holds, IsLetIn, IsOpen, IsWithin}
use Rattle.region_deps.specs.Queues.{due, IsQueued, HasRoom, IsGraph}
use Rattle.region_deps.proofs.Counting.{count_none, count_sum}

-- a link from a source that isn't gone holds its task
held_unless_gone : (gone : List Bool) (task source : ℕ) → is_gone gone source ≡ false → holds gone task (link source task) ≡ true
held_unless_gone gone task source there = and_from _ _ (eq-eqb task task refl) (not_from_false _ there)

-- where no link holds the task, every source of one is gone
pub let_in_from_count : (gone : List Bool) (task : ℕ) (links : List Link) → count_by (holds gone task) links ≡ 0 → IsLetIn links (is_gone gone) task
let_in_from_count gone task links none source here =
    let at_most = get_or-le-sum_by (λ l. cond (holds gone task l) 1 0) links here.0 (link source task) here.1 in
    let this = ap {B = ℕ} (λ (l : Link). cond (holds gone task l) 1 0) here.2 in
    elim (cases_Bool (is_gone gone source)) [
      | inl is ↦ is
      | inr there ↦ absurd (omega (arith, at_most, this, none, ap {B = ℕ} (λ (b : Bool). cond b 1 0) (held_unless_gone gone task source there)))
    ]

-- and the other way round
pub count_from_let_in : (gone : List Bool) (task : ℕ) (links : List Link) → IsLetIn links (is_gone gone) task → count_by (holds gone task) links ≡ 0
count_from_let_in gone task links let_in = count_none (holds gone task) links (λ k d lt.
    elim (cases_Bool ((get_or links k d).task == task)) [
      | inl same ↦ and_right _ _ (not_from_true _ (let_in (get_or links k d).source
          (subst (λ u. Contains links (link (get_or links k d).source u)) (eqb-true _ _ same) (Contains-get_or links k d lt))))
      | inr other ↦ and_left _ _ other
    ])

-- a task stands in the list only where nothing holds it and it was not handed out
due_one : (left : ℕ) (handed : Bool) (k : ℕ) → k + 1 ≡ due left handed → (k ≡ 0) × (left ≡ 0) × (handed ≡ false)
due_one zero true k e = absurd (omega (arith, e))
due_one zero false k e = (omega (arith, e), refl, refl)
due_one (suc left) handed k e = absurd (omega (arith, e))

due_open : (left : ℕ) (handed : Bool) → left ≡ 0 → handed ≡ false → due left handed ≡ 1
due_open left handed e f = rw (e, f) refl

due_handed : (left : ℕ) (handed : Bool) → left ≡ 0 → handed ≡ true → due left handed ≡ 0
due_handed left handed e f = rw (e, f) refl

-- what holds of each element of a list holds of each element of its front
All-front : (xs ys : List ℕ) (P : ℕ → Type 0) → All P (xs ++ ys) → All P xs
All-front xs ys P each k d lt = subst P (get_or_append_left xs ys d k lt) (each k d (omega (arith, length-append xs ys)))

-- what taking the last task from the list gives, and leaves
pub record IsTaken (links : List Link) (first : List ℕ) (gone handed : List Bool) (left rest : List ℕ) (capacity task : ℕ) : Type 0 where
  pub open_before : IsOpen (record { links = links; gone = gone; handed = handed }) task
  pub kept : IsGraph links first gone (set handed task true) left rest capacity

pub after_next : (links : List Link) (first : List ℕ) (gone handed : List Bool) (left startable rest : List ℕ) (capacity task : ℕ) →
    IsGraph links first gone handed left startable capacity → startable ≡ rest ++ task ∷ [] → IsTaken links first gone handed left rest capacity task
after_next links first gone handed left startable rest capacity task g e =
    let within : task < length left = All-contains (λ x. x < length left) startable task g.queued.within
    (subst (λ l. Contains l task) (sym e) (Contains-push rest task)) in
    let counts : (u : ℕ) → count_by (λ x. x == u) startable ≡ count_by (λ x. x == u) rest + cond (task == u) 1 0 =
    λ u. ap (λ (l : List ℕ). count_by (λ x. x == u) l) e ∙ sum_by_push (λ x. cond (x == u) 1 0) rest task in
    let one = ap {B = ℕ} (λ (b : Bool). cond b 1 0) (eq-eqb task task refl) in
    let now = due_one (get_or left task 1) (get_or handed task true) (count_by (λ x. x == task) rest)
    (omega (arith, counts task, one, g.queued.each task within)) in
    let long = length-set handed task true in
    let many = ap length e ∙ length_push rest task in
    let handed_in : task < length handed = omega (arith, g.queued.lengths) in
    record {
      open_before = record {
        waits = slice_get-get_or handed task true handed_in ∙ ap Some now.2;
        let_in = let_in_from_count gone task links (sym (g.counted task within) ∙ now.1);
      };
      kept = record {
        ends = subst (λ n. All (IsWithin (length gone) n) links) (sym long) g.ends;
        places = g.places;
        place = g.place;
        counted = g.counted;
        queued = record {
          each = λ u lt. elim (cases_eq u task) [
            | inl same ↦ rw same (now.0 ∙ sym (due_handed _ _ now.1 (get_or-set_same handed task true true handed_in)))
            | inr other ↦ rw (get_or-set_other handed task u true true other)
                (omega (arith, counts u, g.queued.each u lt, ap {B = ℕ} (λ (b : Bool). cond b 1 0) (ne_eqb task u (λ e'. other (sym e')))))
          ];
          started = λ u lt is. elim (cases_eq u task) [
            | inl same ↦ ap (λ v. get_or left v 1) same ∙ now.1
            | inr other ↦ g.queued.started u lt (sym (get_or-set_other handed task u true true other) ∙ is)
          ];
          within = All-front rest (task ∷ []) (λ x. x < length left) (subst (All (λ x. x < length left)) e g.queued.within);
          lengths = long ∙ g.queued.lengths;
        };
        room = omega (arith, g.room, many);
        numbered = omega (arith, g.numbered, long);
      };
    }

-- where the list is empty, no task is open
pub none_open : (links : List Link) (first : List ℕ) (gone handed : List Bool) (left startable : List ℕ) (capacity : ℕ) →
    IsGraph links first gone handed left startable capacity → length startable ≡ 0 → (task : ℕ)
    → ¬ IsOpen (record { links = links; gone = gone; handed = handed }) task
none_open links first gone handed left startable capacity g empty task ready =
    let there = slice_get_within handed task false ready.waits in
    let within : task < length left = omega (arith, there, g.queued.lengths) in
    let free = g.counted task within ∙ count_from_let_in gone task links ready.let_in in
    let at_most = count_by-le-length (λ x. x == task) startable in
    absurd (omega (arith, g.queued.each task within, due_open _ _ free (get_or_from_slice_get handed task false true ready.waits), at_most, empty))

-- the last element of a list, and what stands before it
last_split : (x : ℕ) (xs : List ℕ) → (rest : List ℕ) × (last : ℕ) × (x ∷ xs ≡ rest ++ last ∷ [])
last_split x [] = ([], x, refl)
last_split x (y ∷ ys) =
    let tail = last_split y ys in
    (x ∷ tail.0, tail.1, ap (λ (zs : List ℕ). x ∷ zs) tail.2)

-- where no task is open, the list is empty
pub empty_if_none : (links : List Link) (first : List ℕ) (gone handed : List Bool) (left startable : List ℕ) (capacity : ℕ) →
    IsGraph links first gone handed left startable capacity → ((task : ℕ) → ¬ IsOpen (record { links = links; gone = gone; handed = handed }) task)
    → length startable ≡ 0
empty_if_none links first gone handed left [] capacity g none = refl
empty_if_none links first gone handed left (task ∷ startable) capacity g none =
    let split = last_split task startable in
    absurd (none split.1 (after_next links first gone handed left (task ∷ startable) split.0 capacity split.1 g split.2).open_before)

-- a count that falls as one source goes: a link held before holds still, or leads from that source
one_goes : (leads : Bool) → cond (leads && not false) 1 0 ≡ cond (leads && not true) 1 0 + cond (true && leads) 1 0
one_goes true = refl
one_goes false = refl

shared_out : (gone : List Bool) (source task : ℕ) → source < length gone → is_gone gone source ≡ false → (l : Link) →
    cond (holds gone task l) 1 0 ≡ cond (holds (set gone source true) task l) 1 0 + cond (is_between source task l) 1 0
shared_out gone source task within there l = elim (cases_eq l.source source) [
  | inl same ↦
      let before : is_gone gone l.source ≡ false = ap (is_gone gone) same ∙ there in
      let after : is_gone (set gone source true) l.source ≡ true = get_or-set_at gone source l.source true false same within in
      let from : (l.source == source) ≡ true = eq-eqb _ _ same in
      rw (before, after, from) (one_goes (l.task == task))
  | inr other ↦
      let kept : is_gone (set gone source true) l.source ≡ is_gone gone l.source = get_or-set_other gone source l.source true false other in
      let from : (l.source == source) ≡ false = ne_eqb _ _ other in
      rw (kept, from) (omega arith)
]

-- the links that hold a task are those of one source, which is there, and those that hold it once that source is gone
held_by_source : (links : List Link) (gone : List Bool) (source task : ℕ) → source < length gone → is_gone gone source ≡ false →
    count_by (holds gone task) links ≡ count_by (holds (set gone source true) task) links + count_by (is_between source task) links
held_by_source links gone source task within there =
    count_sum (holds gone task) (holds (set gone source true) task) (is_between source task) links (shared_out gone source task within there)

-- the links of the source, and each task has as many left at least
pub enough_left : (links : List Link) (first : List ℕ) (gone handed : List Bool) (left startable : List ℕ) (capacity source : ℕ) →
    IsGraph links first gone handed left startable capacity → source < length gone → is_gone gone source ≡ false → (task : ℕ) → task < length left →
    count_by (is_to task) (slice_range links (get_or first source 0) (get_or first (source + 1) 0)) ≤ get_or left task 1
enough_left links first gone handed left startable capacity source g within there task lt =
    omega (arith, (g.place source within).parts task, g.counted task lt, held_by_source links gone source task within there)

-- the same of what was read of the graph's lists
pub enough_read : (links links' : List Link) (first : List ℕ) (gone handed : List Bool) (left startable : List ℕ) (capacity source from to : ℕ) →
    IsGraph links first gone handed left startable capacity → source < length gone → is_gone gone source ≡ false → links' ≡ links →
    from ≡ get_or first source from → to ≡ get_or first (source + 1) to → (task : ℕ) → task < length left →
    count_by (is_to task) (slice_range links' from to) ≤ get_or left task 1
enough_read links links' first gone handed left startable capacity source from to g within there same from_is to_is task lt =
    let start : from ≡ get_or first source 0 = get_or_read first source from (omega (arith, g.places, within)) from_is 0 in
    let stop : to ≡ get_or first (source + 1) 0 = get_or_read first (source + 1) to (omega (arith, g.places, within)) to_is 0 in
    rw (same, start, stop) (enough_left links first gone handed left startable capacity source g within there task lt)

-- the source is gone, and its links are taken off
pub after_let_go : (links : List Link) (first : List ℕ) (gone handed : List Bool) (left startable left' startable' : List ℕ) (capacity capacity' source : ℕ) →
    IsGraph links first gone handed left startable capacity → source < length gone → is_gone gone source ≡ false → length left' ≡ length left →
    ((task : ℕ) → task < length left → get_or left' task 1 + count_by (is_to task)
    (slice_range links (get_or first source 0) (get_or first (source + 1) 0)) ≡ get_or left task 1) →
    ((all : List Bool) → IsQueued left all startable → IsQueued left' all startable') → HasRoom left' startable' capacity' →
    IsGraph links first (set gone source true) handed left' startable' capacity'
after_let_go links first gone handed left startable left' startable' capacity capacity' source g within there same taken queued room =
    let long = length-set gone source true in
    record {
      ends = subst (λ n. All (IsWithin n (length handed)) links) (sym long) g.ends;
      places = omega (arith, g.places, long);
      place = λ s lt. g.place s (omega (arith, lt, long));
      counted = λ task lt. omega (
        arith,
        taken task (omega (arith, lt, same)),
        (g.place source within).parts task,
        g.counted task (omega (arith, lt, same)),
        held_by_source links gone source task within there,
      );
      queued = queued handed g.queued;
      room = room;
      numbered = g.numbered;
    }

pub after_read : (links links' : List Link) (first : List ℕ) (gone handed : List Bool) (left startable left' startable' : List ℕ)
    (capacity capacity' source from to : ℕ) →
    IsGraph links first gone handed left startable capacity → source < length gone → is_gone gone source ≡ false → length left' ≡ length left → links' ≡ links →
    from ≡ get_or first source from → to ≡ get_or first (source + 1) to →
    ((task : ℕ) → task < length left → get_or left' task 1 + count_by (is_to task) (slice_range links' from to) ≡ get_or left task 1) →
    ((all : List Bool) → IsQueued left all startable → IsQueued left' all startable') → HasRoom left' startable' capacity' →
    IsGraph links first (set gone source true) handed left' startable' capacity'
after_read links links' first gone handed left startable left' startable' capacity capacity' source from to g within there many same from_is to_is taken
    queued room =
    let start : from ≡ get_or first source 0 = get_or_read first source from (omega (arith, g.places, within)) from_is 0 in
    let stop : to ≡ get_or first (source + 1) 0 = get_or_read first (source + 1) to (omega (arith, g.places, within)) to_is 0 in
    after_let_go links first gone handed left startable left' startable' capacity capacity' source g within there many
    (λ task lt. rw (sym same, sym start, sym stop) (taken task lt)) queued room

-- one more link is taken off
pub record IsCountedDown (links : List Link) (i : ℕ) (total left : List ℕ) : Type 0 where
  pub taken : (task : ℕ) → task < length left → get_or left task 1 + count_by (is_to task) links ≡ get_or total task 1 + count_by (is_to task) (drop i links)
  pub enough : (task : ℕ) → task < length left → count_by (is_to task) (drop i links) ≤ get_or left task 1
  pub long : length left ≡ length total

pub down_all : (links : List Link) (i : ℕ) (total left : List ℕ) → length links ≤ i → IsCountedDown links i total left →
    (task : ℕ) → task < length total → get_or left task 1 + count_by (is_to task) links ≡ get_or total task 1
down_all links i total left past down task lt =
    omega (arith, down.taken task (omega (arith, lt, down.long)), ap (λ (l : List Link). count_by (is_to task) l) (drop_all i links past))

pub down_more : (links : List Link) (i : ℕ) (d : Link) (total left left' : List ℕ) → i < length links → (get_or links i d).task < length left →
    IsCountedDown links i total left → left' ≡ set left (get_or links i d).task (get_or left (get_or links i d).task 1 - 1)
    → IsCountedDown links (i + 1) total left'
down_more links i d total left left' within exists down e =
    let here : ℕ = (get_or links i d).task in
    let many : length left' ≡ length left = ap length e ∙ length-set left here (get_or left here 1 - 1) in
    let step : (task : ℕ) → count_by (is_to task) (drop i links) ≡ cond (here == task) 1 0 + count_by (is_to task) (drop (i + 1) links) =
    λ task. sum_by-drop_more (λ k. cond (is_to task k) 1 0) links i d within in
    let at : (task : ℕ) → task < length left → get_or left' task 1 + cond (here == task) 1 0 ≡ get_or left task 1 =
    λ task lt. elim (cases_eq task here) [
      | inl same ↦
          let one = ap {B = ℕ} (λ (b : Bool). cond b 1 0) (eq-eqb here task (sym same)) in
          let set_here = ap (λ (k : List ℕ). get_or k task 1) e ∙ get_or-set_at left here task (get_or left here 1 - 1) 1 same exists in
          omega (arith, one, set_here, step task, down.enough task lt, ap (λ (t : ℕ). get_or left t 1) same)
      | inr other ↦
          let none = ap {B = ℕ} (λ (b : Bool). cond b 1 0) (ne_eqb here task (λ f. other (sym f))) in
          let kept = ap (λ (k : List ℕ). get_or k task 1) e ∙ get_or-set_other left here task (get_or left here 1 - 1) 1 other in
          omega (arith, none, kept)
    ] in
    record {
      taken = λ task lt. let lt' : task < length left = omega (arith, lt, many) in omega (arith, down.taken task lt', step task, at task lt');
      enough = λ task lt. let lt' : task < length left = omega (arith, lt, many) in omega (arith, down.enough task lt', step task, at task lt');
      long = many ∙ down.long;
    }

-- nothing is left of the task exactly where it is let in
pub let_in_read : (links : List Link) (first : List ℕ) (gone handed : List Bool) (left startable : List ℕ) (capacity task now : ℕ) →
    IsGraph links first gone handed left startable capacity → task < length handed → now ≡ get_or left task now
    → IsTrue (now == 0) ↔ IsLetIn links (is_gone gone) task
let_in_read links first gone handed left startable capacity task now g known is =
    let within : task < length left = omega (arith, known, g.queued.lengths) in
    let read : now ≡ count_by (holds gone task) links = get_or_read left task now within is 1 ∙ g.counted task within in
    (λ none. let_in_from_count gone task links (sym read ∙ eqb-true now 0 none), λ let_in. eq-eqb now 0 (read ∙ count_from_let_in gone task links let_in))
