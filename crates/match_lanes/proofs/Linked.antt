-- What taking a place, a place that goes, and a front that moves make of links.
use Rattle.std.proofs.Common.{◌≡◌, ◌≢◌, ◌⊎◌, ℕ, zero, suc, ◌≤◌, ◌<◌, Bool, true, false, List, [], ◌∷◌, ◌++◌, length, get_or, set, Option, Some, None, refl}
use Rattle.std.proofs.Common.{sym, ap, ◌∙◌, arith, inl, inr, subst}
use Rattle.std.proofs.lemmas.Bool.{cases_eq, cases_lt, both_ways}
use Rattle.std.proofs.lemmas.List.{get_or-set_same, get_or-set_other, length-set}
use Rattle.match_lanes.specs.declared.lanes.Ends.{Ends}
use Rattle.match_lanes.specs.Links.{is_on, IsNext, IsFront, AreEnds, HasEnds, AreLinked, led, front_with}
use Rattle.match_lanes.proofs.Places.{on_past, on_within, one_lane, on_at, on_other, on_before, on_after, length_one_more, still_off, pushed_known}

-- where no place of a lane changes, its links and its ends are what they were
next_same : (t u : ℕ → Bool) (p n : ℕ) → ((q : ℕ) → u q ≡ t q) → IsNext t p n → IsNext u p n
next_same t u p n same is = record {
  later = is.later;
  passes = same n ∙ is.passes;
  between = λ q a b. same q ∙ is.between q a b;
  ends = λ e q a. same q ∙ is.ends e q a;
}

ends_same : (was is was' is' : ℕ → Bool) (e : Option Ends) → ((q : ℕ) → was' q ≡ was q) → ((q : ℕ) → is' q ≡ is q) → HasEnds was is e → HasEnds was' is' e
ends_same was is was' is' None same still has = λ q. same q ∙ has q
ends_same was is was' is' (Some e) same still has = record {
  front = record { hung = same e.front ∙ has.front.hung; before = λ q h. still q ∙ has.front.before q h };
  last = same e.last ∙ has.last;
  after = λ q h. same q ∙ has.after q h;
}

-- what goes leaves the links
pub linked_gone : (was is : List (Option ℕ)) (nexts : List ℕ) (ends : List (Option Ends)) (place : ℕ) → AreLinked was is nexts ends
    → AreLinked was (set is place None) nexts ends
linked_gone was is nexts ends place linked = record {
  long = length-set is place None ∙ linked.long;
  nexts_long = linked.nexts_long;
  known = linked.known;
  less = λ l q off. still_off l is place q (linked.less l q off);
  next = linked.next;
  ends_are = λ l. gone_ends l (get_or ends l None) (linked.ends_are l);
}
  where
    gone_ends : (l : ℕ) (e : Option Ends) → HasEnds (is_on l was) (is_on l is) e → HasEnds (is_on l was) (is_on l (set is place None)) e
    gone_ends l None has = has
    gone_ends l (Some e) has = record {
      front = record { hung = has.front.hung; before = λ q h. still_off l is place q (has.front.before q h) };
      last = has.last;
      after = has.after;
    }

-- a front that moves leaves the links
pub linked_front : (was is : List (Option ℕ)) (nexts : List ℕ) (ends : List (Option Ends)) (lane : ℕ) (e : Ends) (front : ℕ)
    → AreLinked was is nexts ends → get_or ends lane None ≡ Some e → IsFront (is_on lane was) (is_on lane is) front
    → AreLinked was is nexts (set ends lane (Some (record { front = front; last = e.last })))
linked_front was is nexts ends lane e front linked had is_front = record {
  long = linked.long;
  nexts_long = linked.nexts_long;
  known = λ l q on. omega (arith, linked.known l q on, length-set ends lane (Some (record { front = front; last = e.last })));
  less = linked.less;
  next = linked.next;
  ends_are = λ l. elim (cases_eq l lane) [
    | inl same ↦ here l same
    | inr apart ↦ subst (HasEnds (is_on l was) (is_on l is)) (sym (get_or-set_other ends lane l (Some (record { front = front; last = e.last })) None apart))
        (linked.ends_are l)
  ];
}
  where
    within : lane < length ends
    within = linked.known lane front is_front.hung

    old : AreEnds (is_on lane was) (is_on lane is) e
    old = subst (HasEnds (is_on lane was) (is_on lane is)) had (linked.ends_are lane)

    here : (l : ℕ) → l ≡ lane → HasEnds (is_on l was) (is_on l is) (get_or (set ends lane (Some (record { front = front; last = e.last }))) l None)
    here l same =
        subst (λ (k : ℕ). HasEnds (is_on k was) (is_on k is) (get_or (set ends lane (Some (record { front = front; last = e.last }))) k None)) (sym same)
        (subst (HasEnds (is_on lane was) (is_on lane is)) (sym (get_or-set_same ends lane (Some (record { front = front; last = e.last })) None within))
        (record { front = is_front; last = old.last; after = old.after }))

-- the ends of a lane are within
ends_within : (was is : List (Option ℕ)) (l : ℕ) (e : Option Ends) → HasEnds (is_on l was) (is_on l is) e → (ends : Ends) → e ≡ Some ends
    → (ends.last < length was) × (ends.front < length was)
ends_within was is l e has ends same =
    let at = subst (HasEnds (is_on l was) (is_on l is)) same has in
    (on_within l was ends.last at.last, on_within l was ends.front at.front.hung)

length_led : (nexts : List ℕ) (e : Option Ends) (place : ℕ) → length (led nexts e place) ≡ length nexts
length_led nexts None place = refl
length_led nexts (Some e) place = length-set nexts e.last place

get_before : (xs : List ℕ) (x q : ℕ) → q < length xs → get_or (xs ++ x ∷ []) q 0 ≡ get_or xs q 0
get_before [] x q h = absurd (omega arith)
get_before (y ∷ ys) x zero h = refl
get_before (y ∷ ys) x (suc q) h = get_before ys x q (omega arith)

get_last : (xs : List ℕ) (x q : ℕ) → q ≡ length xs → get_or (xs ++ x ∷ []) q 0 ≡ x
get_last [] x zero h = refl
get_last [] x (suc q) h = absurd (omega arith)
get_last (y ∷ ys) x zero h = absurd (omega arith)
get_last (y ∷ ys) x (suc q) h = get_last ys x q (omega arith)

-- a new place is the last of its lane
new_next : (was : List (Option ℕ)) (lane p n : ℕ) → p ≡ length was → n ≡ p → IsNext (is_on lane (was ++ Some lane ∷ [])) p n
new_next was lane p n at same = record {
  later = omega arith;
  passes = on_at lane was n (same ∙ at);
  between = λ q a b. absurd (omega arith);
  ends = λ e q a. on_after lane was (Some lane) q (omega arith);
}

-- the links of the lane that a place joins
joined_next : (was : List (Option ℕ)) (nexts : List ℕ) (lane place p : ℕ) (e : Ends) → place ≡ length was → length nexts ≡ length was
    → ((q : ℕ) → e.last < q → is_on lane was q ≡ false) → is_on lane was e.last ≡ true
    → is_on lane was p ≡ true → IsNext (is_on lane was) p (get_or nexts p 0)
    → IsNext (is_on lane (was ++ Some lane ∷ [])) p (get_or (set nexts e.last place ++ place ∷ []) p 0)
joined_next was nexts lane place p e at long after last on is =
    let within = on_within lane was p on in
    let inside : p < length (set nexts e.last place) = omega (arith, length-set nexts e.last place) in
    subst (IsNext (is_on lane (was ++ Some lane ∷ [])) p) (sym (get_before (set nexts e.last place) place p inside))
    (elim (cases_eq p e.last) [
      | inl same ↦
          subst (IsNext (is_on lane (was ++ Some lane ∷ [])) p) (sym (ap (λ (q : ℕ). get_or (set nexts e.last place) q 0) same
          ∙ get_or-set_same nexts e.last place 0 (omega arith)))
          (record {
            later = omega arith;
            passes = on_at lane was place at;
            between = λ q a b. on_before lane was (Some lane) q (omega arith) ∙ after q (omega arith);
            ends = λ h q a. absurd (omega arith);
          })
      | inr apart ↦
          subst (IsNext (is_on lane (was ++ Some lane ∷ [])) p) (sym (get_or-set_other nexts e.last p place 0 apart))
          (let n = get_or nexts p 0 in
          let reach = on_within lane was n is.passes in
          let early : p < e.last = elim (cases_lt e.last p) [ inl more ↦ absurd (both_ways (is_on lane was p) (after p more) on) | inr less ↦ omega arith ] in
          record {
            later = is.later;
            passes = on_before lane was (Some lane) n reach ∙ is.passes;
            between = λ q a b. on_before lane was (Some lane) q (omega arith) ∙ is.between q a b;
            ends = λ h q a. absurd (both_ways (is_on lane was e.last) (is.ends h e.last early) last);
          })
    ])

-- the links of another lane
other_next : (was : List (Option ℕ)) (nexts : List ℕ) (l lane place p : ℕ) (e : Option Ends) (is : List (Option ℕ)) → length nexts ≡ length was
    → l ≢ lane → HasEnds (is_on lane was) (is_on lane is) e
    → is_on l was p ≡ true → IsNext (is_on l was) p (get_or nexts p 0)
    → IsNext (is_on l (was ++ Some lane ∷ [])) p (get_or (led nexts e place ++ place ∷ []) p 0)
other_next was nexts l lane place p e is long apart has on at =
    let within = on_within l was p on in
    next_same (is_on l was) (is_on l (was ++ Some lane ∷ [])) p (get_or (led nexts e place ++ place ∷ []) p 0) (λ q. on_other l lane was q apart)
    (subst (IsNext (is_on l was) p) (sym (get_before (led nexts e place) place p (omega (arith, length_led nexts e place)) ∙ kept e has)) at)
  where
    kept : (e : Option Ends) → HasEnds (is_on lane was) (is_on lane is) e → get_or (led nexts e place) p 0 ≡ get_or nexts p 0
    kept None has = refl
    kept (Some e) has =
        get_or-set_other nexts e.last p place 0 (λ same. apart (one_lane l lane was p on (ap (is_on lane was) same ∙ has.last)))

-- all links after a place is taken
pushed_next : (was is : List (Option ℕ)) (nexts : List ℕ) (l lane place p : ℕ) (e : Option Ends) → place ≡ length was → length nexts ≡ length was
    → HasEnds (is_on lane was) (is_on lane is) e
    → ((k q : ℕ) → is_on k was q ≡ true → IsNext (is_on k was) q (get_or nexts q 0))
    → is_on l (was ++ Some lane ∷ []) p ≡ true
    → (l ≡ lane) ⊎ (l ≢ lane) → (p < length was) ⊎ (length was ≤ p)
    → IsNext (is_on l (was ++ Some lane ∷ [])) p (get_or (led nexts e place ++ place ∷ []) p 0)
pushed_next was is nexts l lane place p e at long has next on (inl same) (inr late) =
    let here : p ≡ length was = elim (cases_eq p (length was)) [
      | inl is ↦ is
      | inr apart ↦ absurd (both_ways (is_on l (was ++ Some lane ∷ []) p) (on_after l was (Some lane) p (omega arith)) on)
    ] in
    subst (λ (k : ℕ). IsNext (is_on k (was ++ Some lane ∷ [])) p (get_or (led nexts e place ++ place ∷ []) p 0)) (sym same)
    (new_next was lane p (get_or (led nexts e place ++ place ∷ []) p 0) here
    (get_last (led nexts e place) place p (omega (arith, length_led nexts e place)) ∙ at ∙ sym here))
pushed_next was is nexts l lane place p e at long has next on (inr apart) (inr late) =
    absurd (both_ways (is_on l was p) (on_past l was p late) (sym (on_other l lane was p apart) ∙ on))
pushed_next was is nexts l lane place p e at long has next on (inr apart) (inl early) =
    let hung = sym (on_other l lane was p apart) ∙ on in
    other_next was nexts l lane place p e is long apart has hung (next l p hung)
pushed_next was is nexts l lane place p None at long has next on (inl same) (inl early) =
    absurd (both_ways (is_on lane was p) (has p) (ap (λ (k : ℕ). is_on k was p) (sym same) ∙ sym (on_before l was (Some lane) p early) ∙ on))
pushed_next was is nexts l lane place p (Some e) at long has next on (inl same) (inl early) =
    let hung : is_on lane was p ≡ true = ap (λ (k : ℕ). is_on k was p) (sym same) ∙ sym (on_before l was (Some lane) p early) ∙ on in
    subst (λ (k : ℕ). IsNext (is_on k (was ++ Some lane ∷ [])) p (get_or (set nexts e.last place ++ place ∷ []) p 0)) (sym same)
    (joined_next was nexts lane place p e at long has.after has.last hung (next lane p hung))

-- the ends of the lane that a place joins
joined_ends : (was is : List (Option ℕ)) (lane place : ℕ) (e : Option Ends) → place ≡ length was → length is ≡ length was
    → ((q : ℕ) → is_on lane was q ≡ false → is_on lane is q ≡ false)
    → HasEnds (is_on lane was) (is_on lane is) e
    → AreEnds (is_on lane (was ++ Some lane ∷ [])) (is_on lane (is ++ Some lane ∷ [])) (record { front = front_with e place; last = place })
joined_ends was is lane place None at long less has = record {
  front = record {
    hung = on_at lane was place at;
    before = λ q h. on_before lane is (Some lane) q (omega arith) ∙ less q (has q);
  };
  last = on_at lane was place at;
  after = λ q h. on_after lane was (Some lane) q (omega arith);
}
joined_ends was is lane place (Some e) at long less has =
    let within = on_within lane was e.front has.front.hung in
    record {
      front = record {
        hung = on_before lane was (Some lane) e.front within ∙ has.front.hung;
        before = λ q h. on_before lane is (Some lane) q (omega arith) ∙ has.front.before q h;
      };
      last = on_at lane was place at;
      after = λ q h. on_after lane was (Some lane) q (omega arith);
    }

pushed_less : (was is : List (Option ℕ)) (l lane q : ℕ) → length is ≡ length was → (is_on l was q ≡ false → is_on l is q ≡ false)
    → is_on l (was ++ Some lane ∷ []) q ≡ false → (l ≡ lane) ⊎ (l ≢ lane) → (q < length was) ⊎ (length was ≤ q) → is_on l (is ++ Some lane ∷ []) q ≡ false
pushed_less was is l lane q long less off (inr apart) where_is =
    on_other l lane is q apart ∙ less (sym (on_other l lane was q apart) ∙ off)
pushed_less was is l lane q long less off (inl same) (inl early) =
    on_before l is (Some lane) q (omega arith) ∙ less (sym (on_before l was (Some lane) q early) ∙ off)
pushed_less was is l lane q long less off (inl same) (inr late) =
    elim (cases_eq q (length was)) [
      | inl at ↦ absurd (both_ways (is_on l (was ++ Some lane ∷ []) q) off (ap (λ (k : ℕ). is_on k (was ++ Some lane ∷ []) q) same ∙ on_at lane was q at))
      | inr apart ↦ on_after l is (Some lane) q (omega arith)
    ]

-- a place is taken
pub linked_push : (was is : List (Option ℕ)) (nexts : List ℕ) (ends : List (Option Ends)) (lane place : ℕ) → place ≡ length was → lane < length ends
    → AreLinked was is nexts ends
    → AreLinked (was ++ Some lane ∷ []) (is ++ Some lane ∷ []) (led nexts (get_or ends lane None) place ++ place ∷ [])
    (set ends lane (Some (record { front = front_with (get_or ends lane None) place; last = place })))
linked_push was is nexts ends lane place at below linked =
    let e = get_or ends lane None in
    let new : Option Ends = Some (record { front = front_with e place; last = place }) in
    record {
      long = length_one_more is (Some lane) ∙ ap suc linked.long ∙ sym (length_one_more was (Some lane));
      nexts_long = length_one_more (led nexts e place) place ∙ ap suc (length_led nexts e place ∙ linked.nexts_long) ∙ sym (length_one_more was (Some lane));
      known = λ l q on. omega (arith, length-set ends lane new, pushed_known was l lane q (length ends) below (linked.known l q) on (cases_eq l lane));
      less = λ l q off. pushed_less was is l lane q linked.long (linked.less l q) off (cases_eq l lane) (cases_lt q (length was));
      next = λ l p on. pushed_next was is nexts l lane place p e at linked.nexts_long (linked.ends_are lane) linked.next on (cases_eq l lane)
          (cases_lt p (length was));
      ends_are = λ l. elim (cases_eq l lane) [
        | inl same ↦
            subst (λ (k : ℕ). HasEnds (is_on k (was ++ Some lane ∷ [])) (is_on k (is ++ Some lane ∷ [])) (get_or (set ends lane new) k None)) (sym same)
            (subst (HasEnds (is_on lane (was ++ Some lane ∷ [])) (is_on lane (is ++ Some lane ∷ []))) (sym (get_or-set_same ends lane new None below))
            (joined_ends was is lane place e at linked.long (linked.less lane) (linked.ends_are lane)))
        | inr apart ↦
            subst (HasEnds (is_on l (was ++ Some lane ∷ [])) (is_on l (is ++ Some lane ∷ []))) (sym (get_or-set_other ends lane l new None apart))
            (ends_same (is_on l was) (is_on l is) (is_on l (was ++ Some lane ∷ [])) (is_on l (is ++ Some lane ∷ [])) (get_or ends l None)
            (λ q. on_other l lane was q apart) (λ q. on_other l lane is q apart) (linked.ends_are l))
      ];
    }

-- links over the same lists
pub same_links : (was was' is is' : List (Option ℕ)) (nexts nexts' : List ℕ) (ends ends' : List (Option Ends)) → was ≡ was' → is ≡ is' → nexts ≡ nexts'
    → ends ≡ ends' → AreLinked was is nexts ends → AreLinked was' is' nexts' ends'
same_links was was' is is' nexts nexts' ends ends' a b c d linked =
    subst (λ (w : List (Option ℕ)). AreLinked w is' nexts' ends') a
    (subst (λ (i : List (Option ℕ)). AreLinked was i nexts' ends') b
    (subst (λ (n : List ℕ). AreLinked was is n ends') c (subst (λ (e : List (Option Ends)). AreLinked was is nexts e) d linked)))
