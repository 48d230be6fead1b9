-- Links that a place asks for lead from each region to every later one that it clashes with there, so they suffice.
use Rattle.std.proofs.Common.{◌≡◌, ℕ, zero, suc, ◌+◌, ◌<◌, ◌≤◌, ◌⊎◌, Bool, true, false, List, length, refl, ap, sym, subst, inl, inr, arith}
use Rattle.std.proofs.lemmas.List.{get_or_past}
use Rattle.std.proofs.lemmas.Bool.{cases_eq, cases_lt, cases_Bool}
use Rattle.region_deps.specs.declared.graph.Link.{Link}
use Rattle.region_deps.specs.declared.segments.Region.{Region}
use Rattle.region_deps.specs.Links.{IsLetIn}
use Rattle.region_deps.specs.Clashes.{nothing, region_at, task_at, Lies, IsClosed}
use Rattle.region_deps.specs.Chains.{ClashAt, WaitsAt, IsLinkedAt, Reaches, Reaches as reaches}
use Rattle.region_deps.specs.Laws.{OnePlaceReaches, EachClashIsReached, LinksSuffice}

-- a region that covers a place exists
pub lies_within : (regions : List Region) (at k : ℕ) → Lies (region_at regions k) at → k < length regions
lies_within regions at k lies = elim (cases_lt k (length regions)) [
  | inl within ↦ within
  | inr past ↦ absurd (omega (arith, lies.1, ap (λ (r : Region). r.to) (get_or_past regions k nothing past)))
]

pub lies_cases : (region : Region) (at : ℕ) → Lies region at ⊎ ((at < region.from) ⊎ (region.to ≤ at))
lies_cases region at = elim (cases_lt at region.from) [
  | inl below ↦ inr (inl below)
  | inr behind ↦ elim (cases_lt at region.to) [ inl before ↦ inl (behind, before) | inr past ↦ inr (inr past) ]
]

pub not_both : (region : Region) (at : ℕ) → (at < region.from) ⊎ (region.to ≤ at) → ¬ Lies region at
not_both region at away lies = elim away [ inl below ↦ absurd (omega (arith, below, lies.0)) | inr past ↦ absurd (omega (arith, past, lies.1)) ]

-- the region writes the place, or not
writes_at : (region : Region) (at : ℕ) → (Lies region at × (region.writes ≡ true)) ⊎ (Lies region at → region.writes ≡ false)
writes_at region at = elim (cases_Bool region.writes) [
  | inl writes ↦ elim (lies_cases region at) [ inl lies ↦ inl (lies, writes) | inr away ↦ inr (λ lies. absurd (not_both region at away lies)) ]
  | inr reads ↦ inr (λ lies. reads)
]

-- no region between the two writes the place
abbrev Unwritten : List Region → ℕ → ℕ → ℕ → Type 0
Unwritten regions at k upto = (m : ℕ) → k < m → m < upto → Lies (region_at regions m) at → (region_at regions m).writes ≡ false

-- the first region between the two that writes the place
record IsFirstWrite (regions : List Region) (at k upto : ℕ) : Type 0 where
  number : ℕ
  behind : k < number
  before : number < upto
  covers : Lies (region_at regions number) at
  writes : (region_at regions number).writes ≡ true
  unwritten : Unwritten regions at k number

first_write : (regions : List Region) (at k upto : ℕ) → IsFirstWrite regions at k upto ⊎ Unwritten regions at k upto
first_write regions at k zero = inr (λ m behind before. absurd (omega (arith, before)))
first_write regions at k (suc n) = elim (first_write regions at k n) [
  | inl found ↦ inl (record {
    number = found.number;
    behind = found.behind;
    before = omega (arith, found.before);
    covers = found.covers;
    writes = found.writes;
    unwritten = found.unwritten;
  })
  | inr none ↦ elim (writes_at (region_at regions n) at) [
    | inl wrote ↦ elim (cases_lt k n) [
      | inl behind ↦ inl (record { number = n; behind = behind; before = omega arith; covers = wrote.0; writes = wrote.1; unwritten = none })
      | inr past ↦ inr (λ m behind before. absurd (omega (arith, behind, before, past)))
    ]
    | inr not ↦ inr (λ m behind before lies. elim (cases_eq m n) [
      | inl same ↦ subst (λ (i : ℕ). (region_at regions i).writes ≡ false) (sym same) (not (subst (λ (i : ℕ). Lies (region_at regions i) at) same lies))
      | inr other ↦ none m behind (omega (arith, before, other)) lies
    ])
  ]
]

-- at one place, by way of the first write between the two, if there is one
reached_upto : (regions : List Region) (links : List Link) (at : ℕ) → IsLinkedAt regions links at → (far k j : ℕ) → j ≤ k + far → ClashAt regions at k j
    → Reaches regions links at j k
reached_upto regions links at linked zero k j near clash = absurd (omega (arith, near, clash.earlier))
reached_upto regions links at linked (suc far) k j near clash = elim (first_write regions at k j) [
  | inl w ↦
      let here : WaitsAt regions at k w.number = record {
        clash = record { earlier = w.behind; one = clash.one; other = w.covers; written = inr w.writes };
        recent = record { earlier = w.behind; covers = clash.one; unwritten = w.unwritten };
      } in
      let there : ClashAt regions at w.number j = record { earlier = w.before; one = w.covers; other = clash.other; written = inl w.writes } in
      reaches.on (record { one = clash.one; other = w.covers; linked = linked k w.number here })
      (reached_upto regions links at linked far w.number j (omega (arith, near, w.behind)) there)
  | inr none ↦ reaches.last (record {
    one = clash.one;
    other = clash.other;
    linked = linked k j (record { clash = clash; recent = record { earlier = clash.earlier; covers = clash.one; unwritten = none } });
  })
]

pub reached_at : OnePlaceReaches
reached_at regions links at linked k j clash = reached_upto regions links at linked j k j (omega arith) clash

-- two regions that clash do so where one of them begins
pub reached : EachClashIsReached
reached regions links all k j clash =
    let one : Region = region_at regions k in
    let other : Region = region_at regions j in
    let m = clash.meets in
    elim (cases_lt one.from other.from) [
      | inl below ↦
          let c : ClashAt regions other.from k j = record {
            earlier = clash.earlier;
            one = (omega (arith, below), m.one_reaches);
            other =
                (omega arith, m.other_first);
            written = clash.written;
          } in
          let linked = all other.from (record { region = j; within = clash.within; begins = refl }) in
          record { at = other.from; clash = c; reaches = reached_at regions links other.from linked k j c }
      | inr above ↦
          let c : ClashAt regions one.from k j = record {
            earlier = clash.earlier;
            one = (omega arith, m.one_first);
            other =
                (above, m.other_reaches);
            written = clash.written;
          } in
          let linked = all one.from (record { region = k; within = omega (arith, clash.earlier, clash.within); begins = refl }) in
          record { at = one.from; clash = c; reaches = reached_at regions links one.from linked k j c }
    ]

-- what reaches a task that is let in is gone
gone_by : (regions : List Region) (links : List Link) (gone : ℕ → Bool) (at j : ℕ) → IsClosed regions links gone → IsLetIn links gone (task_at regions j) →
    {k : ℕ} → Reaches regions links at j k → gone k ≡ true
gone_by regions links gone at j closed let_in (reaches.last {k} l) = let_in k l.linked
gone_by regions links gone at j closed let_in (reaches.on {k} {m} l rest) =
    closed k m (lies_within regions at m l.other) l.linked (gone_by regions links gone at j closed let_in rest)

pub suffices : LinksSuffice
suffices regions links all gone closed k j lt clash let_in =
    let r = reached regions links all k j clash in
    gone_by regions links gone r.at j closed let_in r.reaches
