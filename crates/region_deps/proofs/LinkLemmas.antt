-- Segments know the last writer and the readers since, and the links that each asks for are made.
use Rattle.std.proofs.Common.{◌≡◌, ℕ, ◌+◌, ◌<◌, ◌≤◌, ◌⊎◌, Bool, true, false, List, [], ◌∷◌, ◌++◌, length, get_or, set, map, replicate, refl, ap, sym}
use Rattle.std.proofs.Common.{◌∙◌, subst, inl, inr, arith}
use Rattle.std.specs.List.{Contains}
use Rattle.std.specs.Option.{option_to_list}
use Rattle.std.proofs.lemmas.List.{length-set, length-map, get_or-map, get_or-set_other, get_or-replicate, length-replicate, get_or_past, get_or_read}
use Rattle.std.proofs.lemmas.List.Elements.{Contains-append_left, Contains-append_right, Contains-push, Contains-push_cases, Contains-append_cases}
use Rattle.std.proofs.lemmas.List.Elements.{Contains-get_or}
use Rattle.std.proofs.lemmas.Bool.{cases_eq, cases_lt, cases_Bool, true≢false}
use Rattle.std.proofs.lemmas.Grind.{get_or-set_at}
use Rattle.region_deps.specs.declared.graph.Link.{Link}
use Rattle.region_deps.specs.declared.segments.Region.{Region}
use Rattle.region_deps.specs.Links.{link}
use Rattle.region_deps.specs.Clashes.{region_at, task_at, Lies, Meets, IsSound}
use Rattle.region_deps.specs.Chains.{IsRecent, WaitsAt}
use Rattle.region_deps.specs.Segments.{Since, untouched, sources, touched, since_at, IsTouched}
use Rattle.region_deps.proofs.ChainLemmas.{lies_cases, not_both}

-- an element of a list, and what a function makes of it
Contains-map : (f : ℕ → Link) (xs : List ℕ) (x : ℕ) → Contains xs x → Contains (map f xs) (f x)
Contains-map f xs x here = (here.0, omega (arith, here.1, length-map xs f), get_or-map f xs here.0 x (f x) here.1 ∙ ap f here.2)

pub record IsMade (f : ℕ → Link) (xs : List ℕ) (l : Link) : Type 0 where
  pub from : ℕ
  pub there : Contains xs from
  pub same : f from ≡ l

Contains-from_map : (f : ℕ → Link) (xs : List ℕ) (l : Link) → Contains (map f xs) l → IsMade f xs l
Contains-from_map f xs l here =
    let within : here.0 < length xs = omega (arith, here.1, length-map xs f) in
    record { from = get_or xs here.0 0; there = Contains-get_or xs here.0 0 within; same = sym (get_or-map f xs here.0 0 l within) ∙ here.2 }

-- the region is among those that a write would wait for, and if it writes then among those that a read would
pub record Knows (since : Since) (k : ℕ) (w : Bool) : Type 0 where
  pub write : Contains (sources since true) k
  pub read : w ≡ true → Contains (sources since false) k

-- a segment knows the region that touched it, and one that it knew, where that only reads
knows_itself : (since : Since) (k : ℕ) (w : Bool) → Knows (touched since k w) k w
knows_itself since k true = record { write = Contains-push [] k; read = λ _. Contains-push [] k }
knows_itself since k false = record {
  write = Contains-append_right (option_to_list since.writer) (since.readers ++ k ∷ []) k (Contains-push since.readers k);
  read = λ f. absurd (true≢false (sym f));
}

knows_before : (since : Since) (a k : ℕ) (w : Bool) → Knows since k w → Knows (touched since a false) k w
knows_before since a k w knows = record {
  write = elim (Contains-append_cases (option_to_list since.writer) since.readers k knows.write) [
    | inl writes ↦ Contains-append_left (option_to_list since.writer) (since.readers ++ a ∷ []) k writes
    | inr reads ↦ Contains-append_right (option_to_list since.writer) (since.readers ++ a ∷ []) k (Contains-append_left since.readers (a ∷ []) k reads)
  ];
  read = knows.read;
}

-- the region is among those so far and covers the segment
pub record Seen (regions : List Region) (done at k : ℕ) (w : Bool) : Type 0 where
  pub before : k < done
  pub covers : Lies (region_at regions k) at
  pub mode : (region_at regions k).writes ≡ w

-- of the regions so far, every segment knows those to wait for, and the links are made
pub record IsLinked (regions : List Region) (done : ℕ) (segments : List Since) (links : List Link) : Type 0 where
  pub recent : (at k : ℕ) → IsRecent regions at k done → Knows (since_at segments at) k (region_at regions k).writes
  pub made : (at k j : ℕ) → j < done → WaitsAt regions at k j → Contains links (link k (task_at regions j))
  pub sound : IsSound regions links
  pub writer : (at k : ℕ) → Contains (sources (since_at segments at) false) k → Seen regions done at k true
  pub named : (at k : ℕ) → Contains (sources (since_at segments at) true) k → Seen regions done at k (region_at regions k).writes

none_contained : (k : ℕ) → ¬ Contains {X = ℕ} [] k
none_contained k here = absurd (omega (arith, here.1))

since-replicate : (n at : ℕ) → since_at (replicate n untouched) at ≡ untouched
since-replicate n at = elim (cases_lt at n) [
  | inl within ↦ get_or-replicate n at untouched untouched within
  | inr past ↦ get_or_past (replicate n untouched) at untouched (omega (arith, past, length-replicate n untouched))
]

pub linked_none : (regions : List Region) (n : ℕ) (segments : List Since) (links : List Link) → segments ≡ replicate n untouched → links ≡ []
    → IsLinked regions 0 segments links
linked_none regions n segments links fresh none =
    let empty : (at : ℕ) → since_at segments at ≡ untouched = λ at. ap (λ (s : List Since). since_at s at) fresh ∙ since-replicate n at in
    record {
      recent = λ at k none. absurd (omega (arith, none.earlier));
      made = λ at k j lt. absurd (omega (arith, lt));
      sound = λ k task here. absurd (omega (arith, here.1, ap length none));
      writer = λ at k here. absurd (none_contained k (subst (λ s. Contains (sources s false) k) (empty at) here));
      named = λ at k here. absurd (none_contained k (subst (λ s. Contains (sources s true) k) (empty at) here));
    }

link_again : (l : Link) (task : ℕ) (links : List Link) → l.task ≡ task → Contains links (link l.source task) → Contains links l
link_again l task links same here = subst (λ u. Contains links (link l.source u)) (sym same) here

-- the region touches one more segment
pub touched_more : (segments now : List Since) (from upto region task : ℕ) (writes : Bool) (links links' links'' : List Link) (old new : Since) →
    IsTouched segments now from upto region task writes links links' → from ≤ upto → upto < length now → old ≡ get_or now upto old
    → new ≡ touched old region writes →
    links'' ≡ links' ++ map (λ s. link s task) (sources old writes) → IsTouched segments (set now upto new) from (upto + 1) region task writes links links''
touched_more segments now from upto region task writes links links' links'' old new t order within is new_is e =
    let was : old ≡ since_at segments upto = get_or_read now upto old within is untouched ∙ t.outside upto (inr (omega arith)) in
    let made_now : List Link = map (λ s. link s task) (sources old writes) in
    record {
      long = length-set now upto new ∙ t.long;
      inside = λ at le lt. elim (cases_eq at upto) [
        | inl same ↦ get_or-set_at now upto at new untouched same within ∙ new_is
            ∙ ap (λ (s : Since). touched s region writes) (was ∙ sym (ap (λ (n : ℕ). since_at segments n) same))
        | inr other ↦ get_or-set_other now upto at new untouched other ∙ t.inside at le (omega (arith, lt, other))
      ];
      outside = λ at away. elim away [
        | inl before ↦ get_or-set_other now upto at new untouched (λ f. absurd (omega (arith, before, order, f))) ∙ t.outside at (inl before)
        | inr behind ↦ get_or-set_other now upto at new untouched (λ f. absurd (omega (arith, behind, f))) ∙ t.outside at (inr (omega (arith, behind)))
      ];
      kept = λ l here. subst (λ (x : List Link). Contains x l) (sym e) (Contains-append_left links' made_now l (t.kept l here));
      made = λ l asked. subst (λ (x : List Link). Contains x l) (sym e) (elim (cases_eq asked.at upto) [
        | inl same ↦ Contains-append_right links' made_now l
            (link_again l task made_now asked.to_task (Contains-map (λ s. link s task) (sources old writes) l.source
            (subst (λ (s : Since). Contains (sources s writes) l.source) (ap (λ (n : ℕ). since_at segments n) same ∙ sym was) asked.source)))
        | inr other ↦ Contains-append_left links' made_now l
            (t.made l (record {
              at = asked.at;
              behind = asked.behind;
              before = omega (arith, asked.before, other);
              to_task = asked.to_task;
              source =
                  asked.source;
            }))
      ]);
      only = λ l here. elim (Contains-append_cases links' made_now l (subst (λ (x : List Link). Contains x l) e here)) [
        | inl before ↦ elim (t.only l before) [
          | inl first ↦ inl first
          | inr asked ↦ inr (record {
            at = asked.at;
            behind = asked.behind;
            before = omega (arith, asked.before);
            to_task = asked.to_task;
            source =
                asked.source;
          })
        ]
        | inr now_made ↦
            let m = Contains-from_map (λ s. link s task) (sources old writes) l now_made in
            inr (record {
              at = upto;
              behind = order;
              before = omega arith;
              to_task = sym (ap (λ (x : Link). x.task) m.same);
              source = subst (λ (s : Since). Contains (sources s writes) l.source) was
                  (subst (λ (k : ℕ). Contains (sources old writes) k) (ap (λ (x : Link). x.source) m.same) m.there);
            })
      ];
    }

-- where the loop went past the end, or never began
pub touched_upto : (segments segments' : List Since) (from upto to region task : ℕ) (writes : Bool) (links links' : List Link) → to ≤ upto
    → (to < upto → upto ≡ from) →
    IsTouched segments segments' from upto region task writes links links' → IsTouched segments segments' from to region task writes links links'
touched_upto segments segments' from upto to region task writes links links' past none t = elim (cases_eq to upto) [
  | inl same ↦ subst (λ (n : ℕ). IsTouched segments segments' from n region task writes links links') (sym same) t
  | inr other ↦
      let start : upto ≡ from = none (omega (arith, past, other)) in
      record {
        long = t.long;
        inside = λ at le lt. absurd (omega (arith, le, lt, past, start));
        outside = λ at away. elim (cases_lt at from) [
          | inl before ↦ t.outside at (inl before)
          | inr behind ↦ t.outside at
              (inr (omega (arith, behind, start)))
        ];
        kept = t.kept;
        made = λ l asked. absurd (omega (arith, asked.behind, asked.before, past, start));
        only = λ l here. elim (t.only l here) [ inl first ↦ inl first | inr asked ↦ absurd (omega (arith, asked.behind, asked.before, start)) ];
      }
]

-- whom a segment names after the region touched it
touched_writer : (s : Since) (a : ℕ) (w : Bool) (k : ℕ) → Contains (sources (touched s a w) false) k → Contains (sources s false) k ⊎ ((a ≡ k) × (w ≡ true))
touched_writer s a true k here = elim (Contains-push_cases [] a k here) [ inl none ↦ absurd (none_contained k none) | inr same ↦ inr (same, refl) ]
touched_writer s a false k here = inl here

touched_named : (s : Since) (a : ℕ) (w : Bool) (k : ℕ) → Contains (sources (touched s a w) true) k → Contains (sources s true) k ⊎ (a ≡ k)
touched_named s a true k here = elim (Contains-push_cases [] a k here) [ inl none ↦ absurd (none_contained k none) | inr same ↦ inr same ]
touched_named s a false k here = elim (Contains-append_cases (option_to_list s.writer) (s.readers ++ a ∷ []) k here) [
  | inl writes ↦ inl (Contains-append_left (option_to_list s.writer) s.readers k writes)
  | inr reads ↦ elim (Contains-push_cases s.readers a k reads) [
    | inl before ↦ inl (Contains-append_right (option_to_list s.writer) s.readers k before)
    | inr same ↦ inr same
  ]
]

-- regions that share a place meet
meets_at : (one other : Region) (at : ℕ) → Lies one at → Lies other at → Meets one other
meets_at one other at here there = record {
  one_first = omega (arith, here.0, here.1);
  other_first = omega (arith, there.0, there.1);
  one_reaches = omega (arith, here.1, there.0);
  other_reaches = omega (arith, here.0, there.1);
}

seen_again : (regions : List Region) (n at k : ℕ) (v : Bool) → Seen regions n at k v → Seen regions (n + 1) at k v
seen_again regions n at k v seen = record { before = omega (arith, seen.before); covers = seen.covers; mode = seen.mode }

-- a region that no other wrote over, before the last one
recent_before : (regions : List Region) (at k n : ℕ) → IsRecent regions at k (n + 1) → ¬ (k ≡ n) → IsRecent regions at k n
recent_before regions at k n now other = record {
  earlier = omega (arith, now.earlier, other);
  covers = now.covers;
  unwritten = λ m behind before. now.unwritten m behind (omega (arith, before));
}

-- the segment that the last region touched
recent_touched : (regions : List Region) (at k n : ℕ) (since : Since) → (IsRecent regions at k n → Knows since k (region_at regions k).writes)
    → Lies (region_at regions n) at →
    IsRecent regions at k (n + 1) → Knows (touched since n (region_at regions n).writes) k (region_at regions k).writes
recent_touched regions at k n since h lies now = elim (cases_eq k n) [
  | inl same ↦ subst (λ (i : ℕ). Knows (touched since n (region_at regions n).writes) i (region_at regions i).writes) (sym same)
      (knows_itself since n (region_at regions n).writes)
  | inr other ↦
      let before = recent_before regions at k n now other in
      let reads : (region_at regions n).writes ≡ false = now.unwritten n before.earlier (omega arith) lies in
      subst (λ (b : Bool). Knows (touched since n b) k (region_at regions k).writes) (sym reads)
      (knows_before since n k (region_at regions k).writes (h before))
]

-- whom the region has to wait for, the segment names
waits_named : (regions : List Region) (at k n : ℕ) (since : Since) → Knows since k (region_at regions k).writes → WaitsAt regions at k n →
    Contains (sources since (region_at regions n).writes) k
waits_named regions at k n since knows waits = elim (cases_Bool (region_at regions n).writes) [
  | inl writes ↦ subst (λ (b : Bool). Contains (sources since b) k) (sym writes) knows.write
  | inr reads ↦ subst (λ (b : Bool). Contains (sources since b) k) (sym reads)
      (knows.read (elim waits.clash.written [ inl written ↦ written | inr writes ↦ absurd (true≢false (sym writes ∙ reads)) ]))
]

-- one more region is linked
pub linked_more : (regions : List Region) (n : ℕ) (segments segments' : List Since) (links links' : List Link) → n < length regions
    → IsLinked regions n segments links →
    IsTouched segments segments' (region_at regions n).from (region_at regions n).to n (region_at regions n).task (region_at regions n).writes links links' →
    IsLinked regions (n + 1) segments' links'
linked_more regions n segments segments' links links' within h t =
    let r : Region = region_at regions n in
    let asked : (at k : ℕ) → Lies r at → Contains (sources (since_at segments at) r.writes) k → Contains links' (link k r.task) =
    λ at k lies there. t.made (link k r.task) (record { at = at; behind = lies.0; before = lies.1; to_task = refl; source = there }) in
    record {
      recent = λ at k now. elim (lies_cases r at) [
        | inl lies ↦ subst (λ (s : Since). Knows s k (region_at regions k).writes) (sym (t.inside at lies.0 lies.1))
            (recent_touched regions at k n (since_at segments at) (h.recent at k) lies now)
        | inr away ↦ subst (λ (s : Since). Knows s k (region_at regions k).writes) (sym (t.outside at away))
            (h.recent at k (recent_before regions at k n now (λ same. not_both r at away (subst (λ (i : ℕ). Lies (region_at regions i) at) same now.covers))))
      ];
      made = λ at k j lt waits. elim (cases_eq j n) [
        | inl same ↦
            let now : WaitsAt regions at k n = subst (WaitsAt regions at k) same waits in
            subst (λ (i : ℕ). Contains links' (link k (task_at regions i))) (sym same)
            (asked at k now.clash.other (waits_named regions at k n (since_at segments at) (h.recent at k now.recent) now))
        | inr other ↦ t.kept (link k (task_at regions j)) (h.made at k j (omega (arith, lt, other)) waits)
      ];
      sound = λ k task here. elim (t.only (link k task) here) [
        | inl before ↦ h.sound k task before
        | inr made ↦ elim (cases_Bool r.writes) [
          | inl writes ↦
              let seen = h.named made.at k (subst (λ (b : Bool). Contains (sources (since_at segments made.at) b) k) writes made.source) in
              record {
                region = n;
                of_task = sym made.to_task;
                clash =
                    record {
                      earlier = seen.before;
                      within = within;
                      meets =
                          meets_at (region_at regions k) r made.at seen.covers (made.behind, made.before);
                      written = inr writes;
                    };
              }
          | inr reads ↦
              let seen = h.writer made.at k (subst (λ (b : Bool). Contains (sources (since_at segments made.at) b) k) reads made.source) in
              record {
                region = n;
                of_task = sym made.to_task;
                clash =
                    record {
                      earlier = seen.before;
                      within = within;
                      meets =
                          meets_at (region_at regions k) r made.at seen.covers (made.behind, made.before);
                      written = inl seen.mode;
                    };
              }
        ]
      ];
      writer = λ at k here. elim (lies_cases r at) [
        | inl lies ↦ elim (touched_writer (since_at segments at) n r.writes k
            (subst (λ (s : Since). Contains (sources s false) k) (t.inside at lies.0 lies.1) here)) [
              | inl before ↦ seen_again regions n at k true (h.writer at k before)
              | inr now ↦ subst (λ (i : ℕ). Seen regions (n + 1) at i true) now.0 (record { before = omega arith; covers = lies; mode = now.1 })
            ]
        | inr away ↦ seen_again regions n at k true (h.writer at k (subst (λ (s : Since). Contains (sources s false) k) (t.outside at away) here))
      ];
      named = λ at k here. elim (lies_cases r at) [
        | inl lies ↦ elim (touched_named (since_at segments at) n r.writes k
            (subst (λ (s : Since). Contains (sources s true) k) (t.inside at lies.0 lies.1) here)) [
              | inl before ↦ seen_again regions n at k (region_at regions k).writes (h.named at k before)
              | inr now ↦ subst (λ (i : ℕ). Seen regions (n + 1) at i (region_at regions i).writes) now
                  (record { before = omega arith; covers = lies; mode = refl })
            ]
        | inr away ↦ seen_again regions n at k (region_at regions k).writes
            (h.named at k (subst (λ (s : Since). Contains (sources s true) k) (t.outside at away) here))
      ];
    }
