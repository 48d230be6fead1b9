-- How the cells of spans and the places of the line agree.
use Rattle.std.proofs.Common.{◌≡◌, ◌∙◌, ℕ, zero, suc, ◌+◌, ◌-◌, ◌*◌, ◌<◌, ◌≤◌, ◌↔◌, max, min, Bool, true, false, ◌&&◌, ◌||◌, IsTrue, nat_eq, nat_lt}
use Rattle.std.proofs.Common.{nat_le, List, [], ◌∷◌, ◌++◌, Option, Some, None, refl, sym, ap, arith, ⊎_elim, if◌then◌else◌}
use Rattle.std.specs.List.{list_any, list_all}
use Rattle.std.proofs.lemmas.Bool.{false≢true, true≢false, false_from_ne_true, cases_eq, or_left, or_right, or_cases, and_from, and_parts, and_right}
use Rattle.std.proofs.lemmas.Bool.{or_from, eqb-true, lt-ltb, le-ltb, ltb-true, leb-true, leb-false, le-leb}
use Rattle.std.proofs.lemmas.Bool.Decides.{nat_tests}
use Rattle.rt_base.specs.declared.data.Span.{Span}
use Rattle.rt_base.specs.declared.data.Access.{Access}
use Rattle.rt_base.specs.Spans.{is_written}
use Rattle.rt_base.specs.Touched.{has_cell, numbers_from, cells_of, shares, shares_any, is_declared, is_writable}
use Rattle.cell_spans.specs.Line.{place, begin_of, end_of, lies_in, IsSmall, IsIn, is_in, interval_of}
use Rattle.cell_spans.specs.declared.line.Interval.{Interval}
use Rattle.std.proofs.lemmas.Option.{same_Some}
use Rattle.cell_spans.specs.Covering.{is_covered, is_open, AreSmall, Agrees}
use Rattle.cell_spans.specs.Intervals.{end_at, Has, AreThose}

-- the place of a cell lies in a span exactly where the cell does
pub at_place : (array cell : ℕ) (span : Span) → IsSmall span → cell < 4294967296 → lies_in (place array cell) span ≡ has_cell array cell span
at_place array cell span small fits = grind (arith, nat_tests)

-- so with those of several accesses
pub covered_at : (accesses : List Access) → AreSmall accesses → (array cell : ℕ) → cell < 4294967296
    → is_covered accesses (place array cell) ≡ list_any (λ (access : Access). has_cell array cell access.span) accesses
covered_at [] small array cell fits = refl
covered_at (access ∷ accesses) small array cell fits = rw (at_place array cell access.span small.0 fits, covered_at accesses small.1 array cell fits) refl

pub open_at : (accesses : List Access) → AreSmall accesses → (array cell : ℕ) → cell < 4294967296
    → is_open accesses (place array cell) ≡ list_any (λ (access : Access). has_cell array cell access.span && is_written access.mode) accesses
open_at [] small array cell fits = refl
open_at (access ∷ accesses) small array cell fits = rw (at_place array cell access.span small.0 fits, open_at accesses small.1 array cell fits) refl

-- a test holds of all cells from the first on
pub all_of : (f : ℕ → Bool) (first count : ℕ) → list_all f (numbers_from first count) ≡ true → (cell : ℕ) → first ≤ cell → cell < first + count → f cell ≡ true
all_of f first zero all cell low high = absurd (omega arith)
all_of f first (suc count) all cell low high =
    ⊎_elim (λ (same : first ≡ cell). rw (← same) (and_parts _ _ all).0)
    (λ (other : first ≡ cell → ⊥). all_of f (suc first) count (and_parts _ _ all).1 cell (omega (arith, other)) (omega arith)) (cases_eq first cell)

pub all_from : (f : ℕ → Bool) (first count : ℕ) → ((cell : ℕ) → first ≤ cell → cell < first + count → f cell ≡ true)
    → list_all f (numbers_from first count) ≡ true
all_from f first zero each = refl
all_from f first (suc count) each =
    and_from _ _ (each first (omega arith) (omega arith)) (all_from f (suc first) count (λ cell low high. each cell (omega arith) (omega arith)))

-- two tests that hold at the same are the same
pub same_tests : (b c : Bool) (P : Type 0) → (b ≡ true ↔ P) → (c ≡ true ↔ P) → b ≡ c
same_tests b c P one two = by_first b refl
  where
    by_second : (y : Bool) → c ≡ y → b ≡ false → b ≡ c
    by_second true e f = absurd (false≢true (sym f ∙ one.1 (two.0 e)))
    by_second false e f = f ∙ sym e

    by_first : (x : Bool) → b ≡ x → b ≡ c
    by_first true e = e ∙ sym (two.1 (one.0 e))
    by_first false e = by_second c refl e

-- each place of a span belongs to a set exactly where a test holds of each of its cells
pub spans_are : (span : Span) (ends : ℕ → Option ℕ) (here : ℕ → Bool) (cell_test : ℕ → Bool) → IsSmall span → AreThose ends here
    → ((cell : ℕ) → cell < 4294967296 → here (place span.array cell) ≡ cell_test cell)
    → (list_all cell_test (cells_of span) ≡ true) ↔ ((spot : ℕ) → (begin_of span ≤ spot) × (spot < end_of span) → Has ends spot)
spans_are span ends here cell_test small those same = (there, back)
  where
    there : list_all cell_test (cells_of span) ≡ true → (spot : ℕ) → (begin_of span ≤ spot) × (spot < end_of span) → Has ends spot
    there all spot (low, high) = (those spot).1 (rw (← at) (same cell (omega (arith, cell_is))
        ∙ all_of cell_test span.from (span.to - span.from) all cell (omega (arith, cell_is)) (omega (arith, cell_is))))
      where
        cell : ℕ
        cell = spot - span.array * 4294967296

        cell_is : cell + span.array * 4294967296 ≡ spot
        cell_is = omega arith

        at : place span.array cell ≡ spot
        at = omega (arith, cell_is)

    back : ((spot : ℕ) → (begin_of span ≤ spot) × (spot < end_of span) → Has ends spot) → list_all cell_test (cells_of span) ≡ true
    back each = all_from cell_test span.from (span.to - span.from) (λ cell low high.
        sym (same cell (omega arith)) ∙ (those (place span.array cell)).0 (each (place span.array cell) (omega arith, omega arith)))

-- the span is declared exactly where the set has each of its places
pub declared_where : (span : Span) (accesses : List Access) (ends : ℕ → Option ℕ) → IsSmall span → AreSmall accesses → AreThose ends (is_covered accesses)
    → (is_declared accesses span ≡ true) ↔ ((spot : ℕ) → (begin_of span ≤ spot) × (spot < end_of span) → Has ends spot)
unfolding is_declared
declared_where span accesses ends small all those =
    spans_are span ends (is_covered accesses) _ small those (λ cell fits. covered_at accesses all span.array cell fits)

pub writable_where : (span : Span) (accesses : List Access) (ends : ℕ → Option ℕ) → IsSmall span → AreSmall accesses → AreThose ends (is_open accesses)
    → (is_writable accesses span ≡ true) ↔ ((spot : ℕ) → (begin_of span ≤ spot) × (spot < end_of span) → Has ends spot)
unfolding is_writable
writable_where span accesses ends small all those =
    spans_are span ends (is_open accesses) _ small those (λ cell fits. open_at accesses all span.array cell fits)

-- an empty span is declared and writable
pub nothing_declared : (span : Span) (accesses : List Access) → span.to ≤ span.from → is_declared accesses span ≡ true
unfolding is_declared
nothing_declared span accesses empty = all_from _ span.from (span.to - span.from) (λ cell low high. absurd (omega arith))

pub nothing_writable : (span : Span) (accesses : List Access) → span.to ≤ span.from → is_writable accesses span ≡ true
unfolding is_writable
nothing_writable span accesses empty = all_from _ span.from (span.to - span.from) (λ cell low high. absurd (omega arith))

pub no_some : {A : Type 0} (x : A) → Some x ≡ None → ⊥
no_some x h = grind arith

-- the interval of a span that has a cell, and that there is none of another
pub the_interval : (span : Span) (interval : Interval) → Some interval ≡ interval_of span → interval ≡ record { begin = begin_of span; end = end_of span }
the_interval span interval is = by_test (nat_le span.to span.from) refl
  where
    by_test : (b : Bool) → nat_le span.to span.from ≡ b → interval ≡ record { begin = begin_of span; end = end_of span }
    by_test true e = absurd (no_some interval (is ∙ ap (λ t. if t then None else Some (record { begin = begin_of span; end = end_of span })) e))
    by_test false e = same_Some _ _ (is ∙ ap (λ t. if t then None else Some (record { begin = begin_of span; end = end_of span })) e)

pub some_cells : (span : Span) (interval : Interval) → Some interval ≡ interval_of span → span.from < span.to
some_cells span interval is = by_test (nat_le span.to span.from) refl
  where
    by_test : (b : Bool) → nat_le span.to span.from ≡ b → span.from < span.to
    by_test true e = absurd (no_some interval (is ∙ ap (λ t. if t then None else Some (record { begin = begin_of span; end = end_of span })) e))
    by_test false e = leb-false _ _ e

pub no_interval : (span : Span) → None ≡ interval_of span → span.to ≤ span.from
no_interval span is = by_test (nat_le span.to span.from) refl
  where
    by_test : (b : Bool) → nat_le span.to span.from ≡ b → span.to ≤ span.from
    by_test true e = leb-true _ _ e
    by_test false e = absurd (no_some _ (sym (is ∙ ap (λ t. if t then None else Some (record { begin = begin_of span; end = end_of span })) e)))

-- the answers of the set are those of the definitions
pub declared_answer : (span : Span) (accesses : List Access) (ends : ℕ → Option ℕ) (interval : Interval) (answer : Bool) → Some interval ≡ interval_of span
    → IsSmall span → AreSmall accesses → AreThose ends (is_covered accesses)
    → (IsTrue answer ↔ ((spot : ℕ) → IsIn spot interval → Has ends spot)) → answer ≡ is_declared accesses span
declared_answer span accesses ends interval answer is small all those says =
    same_tests answer (is_declared accesses span) _ (rw (the_interval span interval is) at says) (declared_where span accesses ends small all those)

pub writable_answer : (span : Span) (accesses : List Access) (ends : ℕ → Option ℕ) (interval : Interval) (answer : Bool) → Some interval ≡ interval_of span
    → IsSmall span → AreSmall accesses → AreThose ends (is_open accesses)
    → (IsTrue answer ↔ ((spot : ℕ) → IsIn spot interval → Has ends spot)) → answer ≡ is_writable accesses span
writable_answer span accesses ends interval answer is small all those says =
    same_tests answer (is_writable accesses span) _ (rw (the_interval span interval is) at says) (writable_where span accesses ends small all those)

-- a place of both spans tells that they share a cell, and the other way round
pub shares_at : (one other : Span) (spot : ℕ) → IsSmall one → IsSmall other → (begin_of one ≤ spot) × (spot < end_of one) → lies_in spot other ≡ true
    → shares one other ≡ true
shares_at one other spot small small_other inside lies = grind (arith, nat_tests)

pub shared_place : (one other : Span) → IsSmall one → IsSmall other → shares one other ≡ true
    → ((begin_of one ≤ place one.array (max one.from other.from)) × (place one.array (max one.from other.from) < end_of one))
    × (lies_in (place one.array (max one.from other.from)) other ≡ true)
shared_place one other small small_other shared =
    let parts : (nat_eq one.array other.array ≡ true) × (nat_lt (max one.from other.from) (min one.to other.to) ≡ true) = and_parts _ _ shared in
    let same : one.array ≡ other.array = eqb-true _ _ parts.0 in
    let below : max one.from other.from < min one.to other.to = ltb-true _ _ parts.1 in (
      (omega arith, omega arith),
      and_from _ _ (le-leb (begin_of other) (place one.array (max one.from other.from)) (omega arith))
          (lt-ltb (place one.array (max one.from other.from)) (end_of other) (omega arith)),
    )

-- the test of an access line
abbrev pub overlaps_any : List Access → Span → Bool
overlaps_any accesses span = list_any (λ (access : Access). shares_any (access.span ∷ []) span) accesses

pub overlap_from : (span : Span) (accesses : List Access) (spot : ℕ) → IsSmall span → AreSmall accesses
    → (begin_of span ≤ spot) × (spot < end_of span) → is_covered accesses spot ≡ true → overlaps_any accesses span ≡ true
overlap_from span [] spot small all inside lies = absurd (false≢true lies)
overlap_from span (access ∷ accesses) spot small all inside lies =
    ⊎_elim (λ (here : lies_in spot access.span ≡ true). or_left _ _ (or_left _ _ (shares_at span access.span spot small all.0 inside here)))
    (λ (later : is_covered accesses spot ≡ true). or_right _ _ (overlap_from span accesses spot small all.1 inside later)) (or_cases _ _ lies)

pub place_from : (span : Span) (accesses : List Access) → IsSmall span → AreSmall accesses → overlaps_any accesses span ≡ true
    → (spot : ℕ) × ((begin_of span ≤ spot) × (spot < end_of span)) × (is_covered accesses spot ≡ true)
place_from span [] small all found = absurd (false≢true found)
place_from span (access ∷ accesses) small all found =
    ⊎_elim (λ (here : (shares span access.span || false) ≡ true).
    let both : _ = shared_place span access.span small all.0 (⊎_elim (λ (h : shares span access.span ≡ true). h) (λ (no : false
    ≡ true). absurd (false≢true no)) (or_cases _ _ here)) in
    (place span.array (max span.from access.span.from), both.0, or_left _ _ both.1))
    (λ (later : overlaps_any accesses span ≡ true). let rest : _ = place_from span accesses small all.1 later in
    (rest.0, rest.1, or_right _ _ rest.2)) (or_cases _ _ found)

pub overlap_answer : (span : Span) (accesses : List Access) (ends : ℕ → Option ℕ) (interval : Interval) (answer : Bool) → Some interval ≡ interval_of span
    → IsSmall span → AreSmall accesses → AreThose ends (is_covered accesses)
    → (IsTrue answer ↔ ((spot : ℕ) × IsIn spot interval × Has ends spot)) → answer ≡ overlaps_any accesses span
overlap_answer span accesses ends interval answer is small all those says =
    same_tests answer (overlaps_any accesses span) _ (rw (the_interval span interval is) at says) (
      (λ found. let at : _ = place_from span accesses small all found in (at.0, at.1, (those at.0).1 at.2)),
      (λ at. overlap_from span accesses at.0 small all at.1 ((those at.0).0 at.2)),
    )

-- an empty span overlaps nothing
pub nothing_overlaps : (span : Span) (accesses : List Access) → span.to ≤ span.from → overlaps_any accesses span ≡ false
nothing_overlaps span [] empty = refl
nothing_overlaps span (access ∷ accesses) empty =
    or_from _ _ (or_from _ _ (no_share span access.span empty) refl) (nothing_overlaps span accesses empty)
  where
    no_share : (one other : Span) → one.to ≤ one.from → shares one other ≡ false
    no_share one other nothing = and_right _ _ (le-ltb (max one.from other.from) (min one.to other.to) (omega arith))

-- what another access changes
pub small_after : (accesses : List Access) (access : Access) → AreSmall accesses → IsSmall access.span → AreSmall (accesses ++ access ∷ [])
small_after [] access small new = (new, tt)
small_after (first ∷ accesses) access small new = (small.0, small_after accesses access small.1 new)

pub any_push : {X : Type 0} (test : X → Bool) (xs : List X) (x : X) → list_any test (xs ++ x ∷ []) ≡ (test x || list_any test xs)
any_push test [] x = refl
any_push test (y ∷ xs) x = rw (any_push test xs x) (swap (test y) (test x) (list_any test xs))
  where
    swap : (a b c : Bool) → (a || (b || c)) ≡ (b || (a || c))
    swap true true c = refl
    swap true false c = refl
    swap false b c = refl

pub those_same : (ends : ℕ → Option ℕ) (f g : ℕ → Bool) → AreThose ends f → ((spot : ℕ) → f spot ≡ g spot) → AreThose ends g
those_same ends f g those same spot = ((λ has. sym (same spot) ∙ (those spot).0 has), (λ passes. (those spot).1 (same spot ∙ passes)))

-- places of the new interval are places of the new span
pub inside_is : (span : Span) (interval : Interval) → Some interval ≡ interval_of span → (spot : ℕ) → is_in spot interval ≡ lies_in spot span
inside_is span interval is spot = ap (is_in spot) (the_interval span interval is)

pub nowhere : (span : Span) → span.to ≤ span.from → (spot : ℕ) → lies_in spot span ≡ false
nowhere span empty spot = false_from_ne_true _ (λ lies. let parts : (nat_le (begin_of span) spot ≡ true) × (nat_lt spot (end_of span) ≡ true) =
    and_parts _ _ lies in
    let low : begin_of span ≤ spot = leb-true _ _ parts.0 in let high : spot < end_of span = ltb-true _ _ parts.1 in absurd (omega arith))

-- a place of the span belongs to neither set, where it overlaps no access
pub no_place : (span : Span) (accesses : List Access) (all changing : List (ℕ × ℕ)) (interval : Interval) → Some interval ≡ interval_of span → IsSmall span
    → Agrees accesses all changing → overlaps_any accesses span ≡ false → (spot : ℕ) → IsIn spot interval → Has (end_at all) spot → ⊥
no_place span accesses all changing interval is small agrees apart spot inside has =
    true≢false (sym (overlap_from span accesses spot small agrees.small (rw (the_interval span interval is) at inside) ((agrees.declared spot).0 has)) ∙ apart)

pub open_is_covered : (accesses : List Access) (spot : ℕ) → is_open accesses spot ≡ true → is_covered accesses spot ≡ true
open_is_covered [] spot lies = lies
open_is_covered (access ∷ accesses) spot lies =
    ⊎_elim (λ (here : (lies_in spot access.span && is_written access.mode)
    ≡ true). or_left _ _ (and_parts (lies_in spot access.span) (is_written access.mode) here).0)
    (λ (later : is_open accesses spot ≡ true). or_right _ _ (open_is_covered accesses spot later)) (or_cases _ _ lies)

pub no_open_place : (span : Span) (accesses : List Access) (all changing : List (ℕ × ℕ)) (interval : Interval) → Some interval ≡ interval_of span → IsSmall span
    → Agrees accesses all changing → overlaps_any accesses span ≡ false → (spot : ℕ) → IsIn spot interval → Has (end_at changing) spot → ⊥
no_open_place span accesses all changing interval is small agrees apart spot inside has =
    no_place span accesses all changing interval is small agrees apart spot inside
    ((agrees.declared spot).1 (open_is_covered accesses spot ((agrees.written spot).0 has)))

-- the sets agree with the accesses again: after an access without a cell, one that is read, and one that is written
pub agrees_empty : (accesses : List Access) (access : Access) (all changing : List (ℕ × ℕ)) → Agrees accesses all changing → IsSmall access.span
    → access.span.to ≤ access.span.from
    → Agrees (accesses ++ access ∷ []) all changing
agrees_empty accesses access all changing agrees small empty = record {
  small = small_after accesses access agrees.small small;
  declared = those_same _ _ _ agrees.declared (λ spot. rw (
    any_push (λ (a : Access). lies_in spot a.span) accesses access,
    nowhere access.span empty spot,
  ) refl);
  written = those_same _ _ _ agrees.written (λ spot. rw (
    any_push (λ (a : Access). lies_in spot a.span && is_written a.mode) accesses access,
    nowhere access.span empty spot,
  ) refl);
}

pub agrees_after : (accesses : List Access) (access : Access) (all changing new_all new_changing : List (ℕ × ℕ)) (interval : Interval)
    → Some interval ≡ interval_of access.span
    → Agrees accesses all changing → IsSmall access.span
    → ((test : ℕ → Bool) → AreThose (end_at all) test → AreThose (end_at new_all) (λ spot. is_in spot interval || test spot))
    → AreThose (end_at new_changing) (λ spot. (is_in spot interval && is_written access.mode) || is_open accesses spot)
    → Agrees (accesses ++ access ∷ []) new_all new_changing
agrees_after accesses access all changing new_all new_changing interval is agrees small grows changes = record {
  small = small_after accesses access agrees.small small;
  declared = those_same _ _ _ (grows _ agrees.declared) (λ spot. rw (
    any_push (λ (a : Access). lies_in spot a.span) accesses access,
    inside_is access.span interval is spot,
  ) refl);
  written = those_same _ _ _ changes (λ spot. rw (
    any_push (λ (a : Access). lies_in spot a.span && is_written a.mode) accesses access,
    inside_is access.span interval is spot,
  ) refl);
}

pub open_if_written : (b : Bool) (ends : ℕ → Option ℕ) (f g : ℕ → Bool) → b ≡ true → AreThose ends (λ spot. f spot || g spot)
    → AreThose ends (λ spot. (f spot && b) || g spot)
open_if_written b ends f g e those = those_same _ _ _ those (λ spot. rw e (both (f spot) (g spot)))
  where
    both : (x y : Bool) → (x || y) ≡ ((x && true) || y)
    both true y = refl
    both false y = refl

pub open_if_read : (b : Bool) (ends : ℕ → Option ℕ) (f g : ℕ → Bool) → b ≡ false → AreThose ends g → AreThose ends (λ spot. (f spot && b) || g spot)
open_if_read b ends f g e those = those_same _ _ _ those (λ spot. rw e (none (f spot) (g spot)))
  where
    none : (x y : Bool) → y ≡ ((x && false) || y)
    none true y = refl
    none false y = refl
