-- Two regions meet on the line of places exactly where they meet in segments.
use Rattle.std.proofs.Common.{◌≡◌, ℕ, ◌+◌, ◌-◌, zero, suc, add-zero, ◌<◌, ◌≤◌, ltb, List, length, get_or, map, ap, sym, ◌∙◌, subst, inl, inr, arith}
use Rattle.std.specs.List.{Contains}
use Rattle.std.specs.List.Sorted.{IsStrictlyIncreasing}
use Rattle.std.proofs.lemmas.List.{length-map, get_or-map, get_or_default}
use Rattle.std.proofs.lemmas.List.Sums.{prefix_len_passes, prefix_len_stops, prefix_len-le-length}
use Rattle.std.proofs.lemmas.Bool.{cases_lt, ltb-true, ltb-false}
use Rattle.region_deps.specs.declared.graph.Link.{Link}
use Rattle.region_deps.specs.declared.segments.Region.{Region}
use Rattle.region_deps.specs.Links.{link}
use Rattle.region_deps.specs.Clashes.{nothing, region_at, task_at, Lies, Meets, Clash, IsSound}
use Rattle.region_deps.specs.Chains.{WaitsAt, IsLinkedAt, IsLinkedAll}
use Rattle.region_deps.specs.Lines.{IsBounds, position_in, laid}
use Rattle.region_deps.proofs.ChainLemmas.{lies_within}

-- numbers each below the next rise
rises_upto : (xs : List ℕ) → IsStrictlyIncreasing xs → (n i : ℕ) → i + n < length xs → get_or xs i 0 ≤ get_or xs (i + n) 0
rises_upto xs up zero i lt = omega (arith, ap (λ (k : ℕ). get_or xs k 0) (add-zero i))
rises_upto xs up (suc n) i lt =
    let step : i + n + 1 ≡ i + suc n = omega arith in
    omega (arith, rises_upto xs up n i (omega (arith, lt)), up (i + n) (omega (arith, lt)), ap (λ (k : ℕ). get_or xs k 0) step)

pub rises_from_strict : (xs : List ℕ) → IsStrictlyIncreasing xs → (i j : ℕ) → i ≤ j → j < length xs → get_or xs i 0 ≤ get_or xs j 0
rises_from_strict xs up i j le lt =
    let there : i + (j - i) ≡ j = omega (arith, le) in
    omega (arith, rises_upto xs up (j - i) i (omega (arith, lt, there)), ap (λ (k : ℕ). get_or xs k 0) there)

-- a lower place has no higher position
position_le : (bounds : List ℕ) (x y : ℕ) → y ≤ x → position_in bounds y ≤ position_in bounds x
position_le bounds x y le = elim (cases_lt (position_in bounds x) (position_in bounds y)) [
  | inl above ↦
      let inside = prefix_len-le-length (λ bound. ltb bound y) bounds in
      absurd (omega (
        arith,
        le,
        ltb-true (get_or bounds (position_in bounds x) 0) y (prefix_len_passes (λ bound. ltb bound y) bounds (position_in bounds x) 0 above),
        ltb-false (get_or bounds (position_in bounds x) 0) x (prefix_len_stops (λ bound. ltb bound x) bounds 0 (omega (arith, above, inside))),
      ))
  | inr order ↦ order
]

-- a bound has a lower position than a higher place
position_lt : (bounds : List ℕ) → ((i j : ℕ) → i ≤ j → j < length bounds → get_or bounds i 0 ≤ get_or bounds j 0) → (x y : ℕ) → Contains bounds x → x < y →
    position_in bounds x < position_in bounds y
position_lt bounds rises x y here lt =
    let at : get_or bounds here.0 0 ≡ x = get_or_default bounds here.0 0 x here.1 ∙ here.2 in
    let not_above : position_in bounds x ≤ here.0 = elim (cases_lt here.0 (position_in bounds x)) [
      | inl below ↦ absurd (omega (arith, at, ltb-true (get_or bounds here.0 0) x (prefix_len_passes (λ bound. ltb bound x) bounds here.0 0 below)))
      | inr le ↦ le
    ] in
    elim (cases_lt here.0 (position_in bounds y)) [
      | inl past ↦ omega (arith, not_above, past)
      | inr short ↦ absurd (omega (
        arith,
        at,
        lt,
        rises (position_in bounds y) here.0 short here.1,
        ltb-false (get_or bounds (position_in bounds y) 0) y (prefix_len_stops (λ bound. ltb bound y) bounds 0 (omega (arith, short, here.1))),
      ))
    ]

-- below on the line, below in segments, where the lower one is a bound
position_below : (bounds : List ℕ) (x y : ℕ) → position_in bounds x < position_in bounds y → x < y
position_below bounds x y lt = elim (cases_lt x y) [ inl below ↦ below | inr above ↦ absurd (omega (arith, lt, position_le bounds x y above)) ]

meets_on_line : (bounds : List ℕ) (one other : Region) → Meets (laid bounds one) (laid bounds other) → Meets one other
meets_on_line bounds one other m = record {
  one_first = position_below bounds one.from one.to m.one_first;
  other_first = position_below bounds other.from other.to m.other_first;
  one_reaches = position_below bounds other.from one.to m.one_reaches;
  other_reaches = position_below bounds one.from other.to m.other_reaches;
}

at_laid : (bounds : List ℕ) (regions : List Region) (k : ℕ) → k < length regions → region_at (map (laid bounds) regions) k ≡ laid bounds (region_at regions k)
at_laid bounds regions k lt = get_or-map (laid bounds) regions k nothing nothing lt

-- a region covers a bound exactly where it covers the segment that begins there
lies_laid : (bounds : List ℕ) → ((i j : ℕ) → i ≤ j → j < length bounds → get_or bounds i 0 ≤ get_or bounds j 0) → (region : Region) (at : ℕ)
    → Contains bounds at →
    Lies region at → Lies (laid bounds region) (position_in bounds at)
lies_laid bounds rises region at here lies = (position_le bounds at region.from lies.0, position_lt bounds rises at region.to here lies.1)

lies_on_line : (bounds : List ℕ) → ((i j : ℕ) → i ≤ j → j < length bounds → get_or bounds i 0 ≤ get_or bounds j 0) → (region : Region) (at : ℕ)
    → Contains bounds at →
    Lies (laid bounds region) (position_in bounds at) → Lies region at
lies_on_line bounds rises region at here lies = elim (cases_lt at region.from) [
  | inl below ↦ absurd (omega (arith, lies.0, position_lt bounds rises at region.from here below))
  | inr behind ↦ (behind, position_below bounds at region.to lies.1)
]

clash_on_line : (regions : List Region) (bounds : List ℕ) (k j : ℕ) → Clash (map (laid bounds) regions) k j → Clash regions k j
clash_on_line regions bounds k j clash =
    let j_in : j < length regions = omega (arith, clash.within, length-map regions (laid bounds)) in
    let k_in : k < length regions = omega (arith, clash.earlier, j_in) in
    let k_is = at_laid bounds regions k k_in in
    let j_is = at_laid bounds regions j j_in in
    record {
      earlier = clash.earlier;
      within = j_in;
      meets = meets_on_line bounds (region_at regions k) (region_at regions j) (subst (λ (r : Region). Meets r (laid bounds (region_at regions j))) k_is
          (subst (λ (r : Region). Meets (region_at (map (laid bounds) regions) k) r) j_is clash.meets));
      written = elim clash.written [
        | inl writes ↦ inl (sym (ap (λ (r : Region). r.writes) k_is) ∙ writes)
        | inr writes ↦ inr
            (sym (ap (λ (r : Region). r.writes) j_is) ∙ writes)
      ];
    }

task_laid : (bounds : List ℕ) (regions : List Region) (k : ℕ) → k < length regions → task_at (map (laid bounds) regions) k ≡ task_at regions k
task_laid bounds regions k lt = ap (λ (r : Region). r.task) (at_laid bounds regions k lt)

-- whom a region waits for where another begins, it waits for in the segment that begins there
waits_laid : (regions : List Region) (bounds : List ℕ) → IsBounds regions bounds → (at k j : ℕ) → Contains bounds at → WaitsAt regions at k j →
    WaitsAt (map (laid bounds) regions) (position_in bounds at) k j
waits_laid regions bounds b at k j here waits =
    let j_in : j < length regions = lies_within regions at j waits.clash.other in
    let k_is = at_laid bounds regions k (omega (arith, waits.clash.earlier, j_in)) in
    let j_is = at_laid bounds regions j j_in in
    let one = subst (λ (r : Region). Lies r (position_in bounds at)) (sym k_is) (lies_laid bounds b.rises (region_at regions k) at here waits.clash.one) in
    record {
      clash = record {
        earlier = waits.clash.earlier;
        one = one;
        other = subst (λ (r : Region). Lies r (position_in bounds at)) (sym j_is) (lies_laid bounds b.rises (region_at regions j) at here waits.clash.other);
        written = elim waits.clash.written [
          | inl writes ↦ inl (ap (λ (r : Region). r.writes) k_is ∙ writes)
          | inr writes ↦ inr
              (ap (λ (r : Region). r.writes) j_is ∙ writes)
        ];
      };
      recent = record {
        earlier = waits.clash.earlier;
        covers = one;
        unwritten = λ m behind before lies.
            let m_is = at_laid bounds regions m (omega (arith, before, j_in)) in
            ap (λ (r : Region). r.writes) m_is ∙ waits.recent.unwritten m behind before
            (lies_on_line bounds b.rises (region_at regions m) at here (subst (λ (r : Region). Lies r (position_in bounds at)) m_is lies));
      };
    }

-- the links that all segments ask for are those that the places ask for where regions begin
linked_on_line : (regions : List Region) (bounds : List ℕ) (links : List Link) → IsBounds regions bounds
    → ((at : ℕ) → IsLinkedAt (map (laid bounds) regions) links at) → IsLinkedAll regions links
linked_on_line regions bounds links b linked at begins k j waits =
    let here : Contains bounds at = subst (Contains bounds) begins.begins (b.begins begins.region nothing begins.within) in
    subst (λ (t : ℕ). Contains links (link k t)) (task_laid bounds regions j (lies_within regions at j waits.clash.other))
    (linked (position_in bounds at) k j (waits_laid regions bounds b at k j here waits))

pub sound_on_line : (regions : List Region) (bounds : List ℕ) (links : List Link) → IsSound (map (laid bounds) regions) links → IsSound regions links
sound_on_line regions bounds links sound k task here =
    let w = sound k task here in
    let clash = clash_on_line regions bounds k w.region w.clash in
    record { region = w.region; of_task = sym (task_laid bounds regions w.region clash.within) ∙ w.of_task; clash = clash }

-- each region begins at one of the places where regions begin
pub begins_at : (regions : List Region) (places : List ℕ) → places ≡ map (λ (r : Region). r.from) regions → (k : ℕ) (d : Region) → k < length regions
    → Contains places (get_or regions k d).from
begins_at regions places e k d lt = subst (λ (l : List ℕ). Contains l (get_or regions k d).from) (sym e)
    (k, omega (arith, lt, length-map regions (λ (r : Region). r.from)), get_or-map (λ (r : Region). r.from) regions k d (get_or regions k d).from lt)

-- the same of the lists as the code has them
pub linked_laid : (regions : List Region) (bounds bounds' : List ℕ) (all all' : List Region) (links : List Link) → IsBounds regions bounds → bounds' ≡ bounds
    → all ≡ map (laid bounds') regions → all' ≡ all →
    ((at : ℕ) → IsLinkedAt all' links at) → IsLinkedAll regions links
linked_laid regions bounds bounds' all all' links b same are copied linked =
    let laid_are : all' ≡ map (laid bounds) regions = copied ∙ are ∙ ap (λ (l : List ℕ). map (laid l) regions) same in
    linked_on_line regions bounds links b (subst (λ (r : List Region). (at : ℕ) → IsLinkedAt r links at) laid_are linked)

pub sound_laid : (regions : List Region) (bounds bounds' : List ℕ) (all all' : List Region) (links : List Link) → bounds' ≡ bounds
    → all ≡ map (laid bounds') regions → all' ≡ all →
    IsSound all' links → IsSound regions links
sound_laid regions bounds bounds' all all' links same are copied sound =
    let laid_are : all' ≡ map (laid bounds) regions = copied ∙ are ∙ ap (λ (l : List ℕ). map (laid l) regions) same in
    sound_on_line regions bounds links (subst (λ (r : List Region). IsSound r links) laid_are sound)
