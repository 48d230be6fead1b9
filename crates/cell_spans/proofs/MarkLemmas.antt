-- What the marks of a bag tell of its spans.
use Rattle.std.proofs.Common.{◌≡◌, ◌∙◌, ℕ, ◌+◌, ◌<◌, ◌≤◌, max, min, cond, Bool, true, false, not, ◌&&◌, ◌||◌, nat_eq, nat_lt, List, [], ◌∷◌, Some}
use Rattle.std.proofs.Common.{count_by, refl, sym, ap, arith, ⊎_elim}
use Rattle.std.specs.List.{list_any}
use Rattle.std.proofs.lemmas.Bool.{cases_Bool, lt-ltb, le-ltb, or_left, or_from, and_right}
use Rattle.cell_spans.specs.declared.line.Interval.{Interval}
use Rattle.cell_spans.proofs.CoveringLemmas.{the_interval, some_cells}
use Rattle.std.proofs.lemmas.Bool.Decides.{nat_tests}
use Rattle.rt_base.specs.declared.data.Span.{Span}
use Rattle.rt_base.specs.Touched.{shares, shares_any}
use Rattle.cell_spans.specs.Line.{begin_of, end_of, is_some_span, IsSmall, interval_of}
use Rattle.cell_spans.specs.Marks.{AllSmall, AreMarks}
use Rattle.cell_spans.proofs.CountLemmas.{count_first, count_yes, count_no}

-- of one span: it begins before the end, and either ends before the beginning or shares a cell
one_counts : (s h : Span) → IsSmall s → s.from < s.to → IsSmall h
    → cond (is_some_span h && nat_lt (begin_of h) (end_of s)) 1 0 ≡ cond (is_some_span h && nat_lt (end_of h) (begin_of s + 1)) 1 0 + cond (shares s h) 1 0
one_counts s h small some small_other = grind (arith, nat_tests)

-- of several: as many begin before its end as end before its beginning, and those that share a cell with it
pub counts : (s : Span) (hs : List Span) → IsSmall s → s.from < s.to → AllSmall hs
    → count_by (λ h. is_some_span h && nat_lt (begin_of h) (end_of s)) hs
    ≡ count_by (λ h. is_some_span h && nat_lt (end_of h) (begin_of s + 1)) hs + count_by (shares s) hs
counts s [] small some all = omega arith
counts s (h ∷ hs) small some all =
    omega (
      arith,
      counts s hs small some all.1,
      one_counts s h small some all.0,
      count_first (λ h. is_some_span h && nat_lt (begin_of h) (end_of s)) h hs,
      count_first (λ h. is_some_span h && nat_lt (end_of h) (begin_of s + 1)) h hs,
      count_first (shares s) h hs,
    )

-- one passes exactly where some are counted
pub any_counted : {X : Type 0} (test : X → Bool) (xs : List X) → list_any test xs ≡ nat_lt 0 (count_by test xs)
any_counted test [] = refl
any_counted test (x ∷ xs) =
    ⊎_elim (λ (yes : test x ≡ true). or_left (test x) (list_any test xs) yes ∙ sym (lt-ltb 0 (count_by test (x ∷ xs)) (omega (arith, count_yes test x xs yes))))
    (λ (no : test x ≡ false). ap (λ b. b || list_any test xs) no ∙ any_counted test xs ∙ ap (nat_lt 0) (sym (count_no test x xs no))) (cases_Bool (test x))

differ : (b u c : ℕ) → b ≡ u + c → not (nat_eq b u) ≡ nat_lt 0 c
differ b u c h = grind (arith, nat_tests)

-- the answer of a bag is that of the definition
pub meets_answer : (span : Span) (spans : List Span) (begins ends : List ℕ) (interval : Interval) (before past : ℕ) → Some interval ≡ interval_of span
    → IsSmall span
    → AreMarks begins ends spans → before ≡ count_by (λ number. nat_lt number interval.end) begins
    → past ≡ count_by (λ number. nat_lt number (interval.begin + 1)) ends
    → not (nat_eq before past) ≡ shares_any spans span
meets_answer span spans begins ends interval before past is small marks before_is past_is =
    differ before past (count_by (shares span) spans)
    (before_is ∙ ap (λ (i : Interval). count_by (λ number. nat_lt number i.end) begins) (the_interval span interval is)
    ∙ marks.begins (λ number. nat_lt number (end_of span))
    ∙ counts span spans small (some_cells span interval is) marks.small
    ∙ ap (λ n. n + count_by (shares span) spans)
    (sym (past_is ∙ ap (λ (i : Interval). count_by (λ number. nat_lt number (i.begin + 1)) ends) (the_interval span interval is)
    ∙ marks.ends (λ number. nat_lt number (begin_of span + 1)))))
    ∙ sym (any_counted (shares span) spans)

-- an empty span shares a cell with none
pub nothing_shared : (span : Span) (spans : List Span) → span.to ≤ span.from → shares_any spans span ≡ false
nothing_shared span [] empty = refl
nothing_shared span (h ∷ hs) empty = or_from _ _ (and_right _ _ (le-ltb (max span.from h.from) (min span.to h.to) (omega arith))) (nothing_shared span hs empty)

-- a bag is told by counts alone, so the order of its spans doesn't matter
abbrev pub is_large : Span → Bool
is_large span = not (nat_lt span.array 65536 && (nat_lt span.from 4294967296 && nat_lt span.to 4294967296))

small_counts : (spans : List Span) → AllSmall spans → count_by is_large spans ≡ 0
small_counts [] all = refl
small_counts (span ∷ spans) all = omega (arith, count_no is_large span spans (fits all.0), small_counts spans all.1)
  where
    fits : IsSmall span → is_large span ≡ false
    fits small = grind (arith, nat_tests)

counts_small : (spans : List Span) → count_by is_large spans ≡ 0 → AllSmall spans
counts_small [] none = tt
counts_small (span ∷ spans) none =
    ⊎_elim (λ (yes : is_large span ≡ true). absurd (omega (arith, none, count_yes is_large span spans yes)))
    (λ (no : is_large span ≡ false). (fits no, counts_small spans (sym (count_no is_large span spans no) ∙ none))) (cases_Bool (is_large span))
  where
    fits : is_large span ≡ false → IsSmall span
    fits low = (grind (arith, nat_tests), grind (arith, nat_tests), grind (arith, nat_tests))

pub marks_same : (begins ends : List ℕ) (xs ys : List Span) → ((test : Span → Bool) → count_by test xs ≡ count_by test ys) → AreMarks begins ends xs
    → AreMarks begins ends ys
marks_same begins ends xs ys same marks = record {
  small = counts_small ys (sym (same is_large) ∙ small_counts xs marks.small);
  begins = λ test. marks.begins test ∙ same _;
  ends = λ test. marks.ends test ∙ same _;
}
