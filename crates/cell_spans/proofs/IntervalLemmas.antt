-- What the last interval that begins before a place tells of the whole set.
use Rattle.std.proofs.Common.{◌≡◌, ℕ, ◌+◌, ◌-◌, ◌<◌, ◌≤◌, ◌↔◌, max, Bool, true, false, cond, ◌&&◌, ◌||◌, IsTrue, IsSome, nat_lt, nat_le, Option, Some}
use Rattle.std.proofs.Common.{None, refl, sym, ap, ◌∙◌, arith, ◌⊎◌, inl, inr}
use Rattle.std.proofs.lemmas.Bool.{cases_lt, cases_eq, cases_order, lt-ltb, ltb-true, leb-true, le-leb, or_left, or_right, or_cases, and_from, and_parts}
use Rattle.std.proofs.lemmas.Option.{same_Some}
use Rattle.std.proofs.lemmas.Grind.{common_steps}
use Rattle.std.proofs.lemmas.Bool.Decides.{nat_tests}
use Rattle.std.specs.Option.{unwrap_or}
use Rattle.std.specs.BTreeMap.{is_at}
use Rattle.std.specs.Ordering.{nat_cmp, is_lt}
use Rattle.std.specs.declared.cmp.Ordering.TheVariants.{Less}
use Rattle.cell_spans.specs.Intervals.{Has, AreThose, AreApart, IsLast, IsJoinedBegin}

module _ (ends : ℕ → Option ℕ) (whole : AreApart ends) where
  -- what lies in an interval that begins before a place lies in the last of them, or before it with a gap
  pub in_last_or_before : (spot begin end : ℕ) → IsLast ends spot begin end → (place : ℕ) → place < spot → Has ends place
      → ((begin ≤ place) × (place < end)) ⊎ (place + 1 < begin)
  in_last_or_before spot begin end last place below (other, to, is, from, upto) = by_order (cases_order other begin)
    where
      no_later : other ≤ begin
      no_later = last.last other to (omega arith) is

      by_order : (other ≡ begin) ⊎ ((other < begin) ⊎ (begin < other)) → ((begin ≤ place) × (place < end)) ⊎ (place + 1 < begin)
      by_order (inl same) = let both : end ≡ to = same_Some _ _ (sym last.is ∙ ap ends (sym same) ∙ is) in inl (omega arith, omega arith)
      by_order (inr (inl earlier)) = let gap : to < begin = whole.apart other to begin end is last.is earlier in inr (omega arith)
      by_order (inr (inr later)) = absurd (omega (arith, no_later))

  -- the last interval that begins before the end of a span shares a place with it exactly where any does
  pub last_meets : (from to begin end : ℕ) → from < to → IsLast ends to begin end
      → IsTrue (nat_lt from end) ↔ ((spot : ℕ) × ((from ≤ spot) × (spot < to)) × Has ends spot)
  last_meets from to begin end some last = (there, back)
    where
      there : IsTrue (nat_lt from end) → (spot : ℕ) × ((from ≤ spot) × (spot < to)) × Has ends spot
      there h = let b : begin < end = whole.some begin end last.is in let l : from < end = ltb-true _ _ h in let u : begin < to = last.before in
          (max from begin, (omega arith, omega arith), (begin, end, last.is, omega arith, omega arith))

      back : ((spot : ℕ) × ((from ≤ spot) × (spot < to)) × Has ends spot) → IsTrue (nat_lt from end)
      back (spot, (low, high), has) = lt-ltb _ _ (by_side (in_last_or_before to begin end last spot high has))
        where
          by_side : ((begin ≤ spot) × (spot < end)) ⊎ (spot + 1 < begin) → from < end
          by_side (inl inside) = omega arith
          by_side (inr before) = let b : begin < end = whole.some begin end last.is in omega arith

  -- and it covers the span exactly where the set does
  pub last_covers : (from to begin end : ℕ) → from < to → IsLast ends to begin end
      → ((begin ≤ from) × (to ≤ end)) ↔ ((spot : ℕ) → (from ≤ spot) × (spot < to) → Has ends spot)
  last_covers from to begin end some last = (there, back)
    where
      there : (begin ≤ from) × (to ≤ end) → (spot : ℕ) → (from ≤ spot) × (spot < to) → Has ends spot
      there (low, high) spot (from_here, to_here) = (begin, end, last.is, omega arith, omega arith)

      back : ((spot : ℕ) → (from ≤ spot) × (spot < to) → Has ends spot) → (begin ≤ from) × (to ≤ end)
      back all = (starts (cases_lt from begin), ends_after (cases_lt end to))
        where
          starts : (from < begin) ⊎ (begin ≤ from) → begin ≤ from
          starts (inr fine) = fine
          starts (inl late) = let b : begin < to = last.before in
              by_side (in_last_or_before to begin end last (begin - 1) (omega arith) (all (begin - 1) (omega arith, omega arith)))
            where
              by_side : ((begin ≤ begin - 1) × (begin - 1 < end)) ⊎ (begin - 1 + 1 < begin) → begin ≤ from
              by_side (inl inside) = omega arith
              by_side (inr before) = omega arith

          ends_after : (end < to) ⊎ (to ≤ end) → to ≤ end
          ends_after (inr fine) = fine
          ends_after (inl short) =
              by_side (in_last_or_before to begin end last (max from end) (omega arith) (all (max from end) (omega arith, omega arith)))
            where
              early : begin ≤ from
              early = starts (cases_lt from begin)

              by_side : ((begin ≤ max from end) × (max from end < end)) ⊎ (max from end + 1 < begin) → to ≤ end
              by_side (inl inside) = omega (arith, early)
              by_side (inr before) = omega (arith, early)

-- the map after an interval was added: where it begins, where it ends, and the rest as before
pub record IsAdded (ends new : ℕ → Option ℕ) (from to begin end : ℕ) : Type 0 where
  pub some : from < to
  pub clear : (spot : ℕ) → (from ≤ spot) × (spot < to) → Has ends spot → ⊥
  pub start : IsJoinedBegin ends from begin
  pub stop : end ≡ unwrap_or (ends to) to
  pub at_begin : new begin ≡ Some end
  pub at_end : new to ≡ None
  pub others : (other : ℕ) → (other ≡ begin → ⊥) → (other ≡ to → ⊥) → new other ≡ ends other

pub some_is_none : (x : ℕ) → Some x ≡ None → ⊥
some_is_none x h = grind arith

module _ (ends new : ℕ → Option ℕ) (from to begin end : ℕ) (whole : AreApart ends) (added : IsAdded ends new from to begin end) where
  -- it ends where the new interval does, or where the one did that it took in
  ends_late : ((ends to ≡ None) × (end ≡ to)) ⊎ ((ends to ≡ Some end) × (to < end))
  ends_late = by_case (ends to) refl
    where
      by_case : (o : Option ℕ) → ends to ≡ o → ((ends to ≡ None) × (end ≡ to)) ⊎ ((ends to ≡ Some end) × (to < end))
      by_case None e = inl (e, added.stop ∙ ap (λ o. unwrap_or o to) e)
      by_case (Some upto) e = let same : end ≡ upto = added.stop ∙ ap (λ o. unwrap_or o to) e in
          inr (e ∙ ap Some (sym same), whole.some to end (e ∙ ap Some (sym same)))

  -- an interval of the new map is the added one or an old one
  which : (b e : ℕ) → new b ≡ Some e → ((b ≡ begin) × (e ≡ end)) ⊎ ((b ≡ begin → ⊥) × (b ≡ to → ⊥) × (ends b ≡ Some e))
  which b e is = by_begin (cases_eq b begin)
    where
      by_begin : (b ≡ begin) ⊎ (b ≡ begin → ⊥) → ((b ≡ begin) × (e ≡ end)) ⊎ ((b ≡ begin → ⊥) × (b ≡ to → ⊥) × (ends b ≡ Some e))
      by_begin (inl same) = inl (same, same_Some _ _ (sym is ∙ ap new same ∙ added.at_begin))
      by_begin (inr other) = by_end (cases_eq b to)
        where
          by_end : (b ≡ to) ⊎ (b ≡ to → ⊥) → ((b ≡ begin) × (e ≡ end)) ⊎ ((b ≡ begin → ⊥) × (b ≡ to → ⊥) × (ends b ≡ Some e))
          by_end (inl same) = absurd (some_is_none e (sym is ∙ ap new same ∙ added.at_end))
          by_end (inr no_end) = inr (other, no_end, sym (added.others b other no_end) ∙ is)

  -- an old interval does not begin in the new one
  outside : (b e : ℕ) → ends b ≡ Some e → (b < from) ⊎ (to ≤ b)
  outside b e is = by_low (cases_lt b from)
    where
      by_low : (b < from) ⊎ (from ≤ b) → (b < from) ⊎ (to ≤ b)
      by_low (inl low) = inl low
      by_low (inr high) = by_high (cases_lt b to)
        where
          by_high : (b < to) ⊎ (to ≤ b) → (b < from) ⊎ (to ≤ b)
          by_high (inl inside) = absurd (added.clear b (high, inside) (b, e, is, omega arith, whole.some b e is))
          by_high (inr past) = inr past

  pub apart_after : AreApart new
  apart_after = record { some = some; apart = apart }
    where
      some : (b e : ℕ) → new b ≡ Some e → b < e
      some b e is = by_kind (which b e is)
        where
          by_kind : ((b ≡ begin) × (e ≡ end)) ⊎ ((b ≡ begin → ⊥) × (b ≡ to → ⊥) × (ends b ≡ Some e)) → b < e
          by_kind (inl (at, till)) = by_late ends_late
            where
              by_late : ((ends to ≡ None) × (end ≡ to)) ⊎ ((ends to ≡ Some end) × (to < end)) → b < e
              by_late (inl (none, same)) = omega (arith, added.some, added.start.low)
              by_late (inr (there, late)) = omega (arith, added.some, added.start.low)
          by_kind (inr (no_begin, no_end, old)) = whole.some b e old

      apart : (b e later other : ℕ) → new b ≡ Some e → new later ≡ Some other → b < later → e < later
      apart b e later other is there below = by_kinds (which b e is) (which later other there)
        where
          by_kinds : ((b ≡ begin) × (e ≡ end)) ⊎ ((b ≡ begin → ⊥) × (b ≡ to → ⊥) × (ends b ≡ Some e))
              → ((later ≡ begin) × (other ≡ end)) ⊎ ((later ≡ begin → ⊥) × (later ≡ to → ⊥) × (ends later ≡ Some other)) → e < later
          by_kinds (inl one) (inl two) = absurd (omega arith)
          by_kinds (inr (_, _, old)) (inr (_, _, old_later)) = whole.apart b e later other old old_later below
          by_kinds (inr (_, _, old)) (inl (at, _)) = by_start (cases_lt begin from)
            where
              by_start : (begin < from) ⊎ (from ≤ begin) → e < later
              by_start (inl joined) = let gap : e < begin = whole.apart b e begin from old (added.start.joined joined) (omega arith) in omega arith
              by_start (inr alone) = let gap : e < from = added.start.alone (omega (arith, added.start.low)) b e (omega (arith, added.start.low)) old in
                  omega arith
          by_kinds (inl (at, till)) (inr (_, no_end, old)) = by_place (outside later other old)
            where
              by_place : (later < from) ⊎ (to ≤ later) → e < later
              by_place (inl early) = let gap : from < later = whole.apart begin from later other (added.start.joined (omega arith)) old (omega arith) in
                  absurd (omega arith)
              by_place (inr late) = by_late ends_late
                where
                  past : to < later
                  past = omega (arith, no_end)

                  by_late : ((ends to ≡ None) × (end ≡ to)) ⊎ ((ends to ≡ Some end) × (to < end)) → e < later
                  by_late (inl (none, same)) = omega (arith, past)
                  by_late (inr (is_old, late)) = let gap : end < later = whole.apart to end later other is_old old past in omega arith

  pub places_after : (spot : ℕ) → Has new spot ↔ (((from ≤ spot) × (spot < to)) ⊎ Has ends spot)
  places_after spot = (there, back)
    where
      there : Has new spot → ((from ≤ spot) × (spot < to)) ⊎ Has ends spot
      there (b, e, is, low, high) = by_kind (which b e is)
        where
          by_kind : ((b ≡ begin) × (e ≡ end)) ⊎ ((b ≡ begin → ⊥) × (b ≡ to → ⊥) × (ends b ≡ Some e)) → ((from ≤ spot) × (spot < to)) ⊎ Has ends spot
          by_kind (inr (_, _, old)) = inr (b, e, old, low, high)
          by_kind (inl (at, till)) = by_low (cases_lt spot from)
            where
              by_low : (spot < from) ⊎ (from ≤ spot) → ((from ≤ spot) × (spot < to)) ⊎ Has ends spot
              by_low (inl before) = inr (begin, from, added.start.joined (omega arith), omega arith, before)
              by_low (inr after) = by_high (cases_lt spot to)
                where
                  by_high : (spot < to) ⊎ (to ≤ spot) → ((from ≤ spot) × (spot < to)) ⊎ Has ends spot
                  by_high (inl inside) = inl (after, inside)
                  by_high (inr past) = by_late ends_late
                    where
                      by_late : ((ends to ≡ None) × (end ≡ to)) ⊎ ((ends to ≡ Some end) × (to < end)) → ((from ≤ spot) × (spot < to)) ⊎ Has ends spot
                      by_late (inl (none, same)) = absurd (omega arith)
                      by_late (inr (is_old, late)) = inr (to, end, is_old, past, omega arith)

      reach : to ≤ end
      reach = by_late ends_late
        where
          by_late : ((ends to ≡ None) × (end ≡ to)) ⊎ ((ends to ≡ Some end) × (to < end)) → to ≤ end
          by_late (inl (none, same)) = omega arith
          by_late (inr (is_old, late)) = omega arith

      back : (((from ≤ spot) × (spot < to)) ⊎ Has ends spot) → Has new spot
      back (inl (low, high)) = (begin, end, added.at_begin, omega (arith, added.start.low), omega (arith, reach))
      back (inr (b, e, is, low, high)) = by_begin (cases_eq b begin)
        where
          by_begin : (b ≡ begin) ⊎ (b ≡ begin → ⊥) → Has new spot
          by_begin (inl same) = by_start (cases_lt begin from)
            where
              by_start : (begin < from) ⊎ (from ≤ begin) → Has new spot
              by_start (inl joined) = let till : from ≡ e = same_Some _ _ (sym (added.start.joined joined) ∙ ap ends (sym same) ∙ is) in
                  (begin, end, added.at_begin, omega arith, omega (arith, added.some, reach))
              by_start (inr alone) = let start : b ≡ from = omega (arith, added.start.low) in
                  absurd (added.clear from (omega arith, added.some) (b, e, is, omega arith, let some : b < e = whole.some b e is in omega arith))
          by_begin (inr other) = by_end (cases_eq b to)
            where
              by_end : (b ≡ to) ⊎ (b ≡ to → ⊥) → Has new spot
              by_end (inr no_end) = (b, e, added.others b other no_end ∙ is, low, high)
              by_end (inl same) = by_late ends_late
                where
                  by_late : ((ends to ≡ None) × (end ≡ to)) ⊎ ((ends to ≡ Some end) × (to < end)) → Has new spot
                  by_late (inl (none, _)) = absurd (some_is_none e (sym is ∙ ap ends same ∙ none))
                  by_late (inr (is_old, late)) = let till : e ≡ end = same_Some _ _ (sym is ∙ ap ends same ∙ is_old) in
                      (begin, end, added.at_begin, omega (arith, added.some, added.start.low), omega arith)

  -- so it has the places of the interval and those that it had
  pub those_after : (test : ℕ → Bool) → AreThose ends test → AreThose new (λ spot. (nat_le from spot && nat_lt spot to) || test spot)
  those_after test were spot = (there, back)
    where
      there : Has new spot → ((nat_le from spot && nat_lt spot to) || test spot) ≡ true
      there has = by_kind ((places_after spot).0 has)
        where
          by_kind : ((from ≤ spot) × (spot < to)) ⊎ Has ends spot → ((nat_le from spot && nat_lt spot to) || test spot) ≡ true
          by_kind (inl (low, high)) = or_left _ _ (and_from _ _ (le-leb _ _ low) (lt-ltb _ _ high))
          by_kind (inr had) = or_right _ _ ((were spot).0 had)

      back : ((nat_le from spot && nat_lt spot to) || test spot) ≡ true → Has new spot
      back passes = by_kind (or_cases _ _ passes)
        where
          by_kind : ((nat_le from spot && nat_lt spot to) ≡ true) ⊎ (test spot ≡ true) → Has new spot
          by_kind (inl inside) = let parts : (nat_le from spot ≡ true) × (nat_lt spot to ≡ true) = and_parts _ _ inside in
              (places_after spot).1 (inl (leb-true _ _ parts.0, ltb-true _ _ parts.1))
          by_kind (inr passed) = (places_after spot).1 (inr ((were spot).1 passed))

-- what an order of numbers says of them
pub is_less : (a b : ℕ) → a < b → nat_cmp a b ≡ Less
is_less a b h = grind (arith, nat_tests)

pub not_less : (a b : ℕ) → is_lt (nat_cmp a b) ≡ false → b ≤ a
not_less a b h = grind (arith, nat_tests)

pub less_is : (a b : ℕ) → nat_cmp a b ≡ Less → a < b
less_is a b h = grind (arith, nat_tests)

pub is_there : {A : Type 0} (o : Option A) (x : A) → o ≡ Some x → IsSome o
is_there o x h = grind (arith, common_steps)

-- a change of the map at one key
pub same_key : (k q : ℕ) (w o : Option ℕ) → k ≡ q → cond (is_at (nat_cmp k) q) w o ≡ w
same_key k q w o h = grind (arith, nat_tests)

pub other_key : (k q : ℕ) (w o : Option ℕ) → (q ≡ k → ⊥) → cond (is_at (nat_cmp k) q) w o ≡ o
other_key k q w o h = grind (arith, nat_tests)
