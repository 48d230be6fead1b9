-- What the tests of cells say: of each cell that a span has, and of two spans that share none.
use Rattle.std.proofs.Common.{◌≡◌, ℕ, zero, suc, ◌+◌, ◌-◌, ◌<◌, ◌≤◌, Bool, true, false, ◌⊎◌, List, [], ◌∷◌, ◌++◌, refl, sym, ap, ◌∙◌, subst, inl, inr}
use Rattle.std.proofs.Common.{arith, max, min}
use Rattle.std.specs.Prelude.{Any, nat_eq, nat_le, nat_lt, ◌&&◌, ◌||◌, not}
use Rattle.std.specs.List.{list_any, list_all}
use Rattle.std.proofs.lemmas.Bool.Decides.{nat_tests}
use Rattle.std.proofs.lemmas.List.Folds.{Any-from_list_any}
use Rattle.rt_base.specs.declared.data.Span.{Span}
use Rattle.rt_base.specs.declared.data.Access.{Access}
use Rattle.rt_base.specs.Spans.{Covers, Overlaps, is_written}
use Rattle.rt_base.specs.Touched.{has_cell, numbers_from, shares, shares_any, is_declared, is_writable}
use Rattle.rt_base.specs.WellFormed.{Declares, IsDeclared, IsWritable}

pub both_true : (a b : Bool) → a && b ≡ true → (a ≡ true) × (b ≡ true)
both_true true true h = (refl, refl)
both_true true false h = (refl, h)
both_true false b h = (h, absurd (cc))

pub both_false : (a b : Bool) → a || b ≡ false → (a ≡ false) × (b ≡ false)
both_false true b h = (h, absurd (cc))
both_false false b h = (refl, h)

pub not_false : (a : Bool) → not a ≡ false → a ≡ true
not_false true h = refl
not_false false h = absurd (cc)

-- a test that each passes
pub all_append : {X : Type 0} (test : X → Bool) (xs ys : List X) → list_all test (xs ++ ys) ≡ true → (list_all test xs ≡ true) × (list_all test ys ≡ true)
all_append test [] ys h = (refl, h)
all_append test (x ∷ xs) ys h =
    let first = both_true (test x) (list_all test (xs ++ ys)) h in
    let rest = all_append test xs ys first.1 in
    (ap (λ (b : Bool). b && list_all test xs) first.0 ∙ rest.0, rest.1)

-- a test that each number passes
each_number : (test : ℕ → Bool) (first count cell : ℕ) → list_all test (numbers_from first count) ≡ true → first ≤ cell → cell < first + count
    → test cell ≡ true
each_number test first zero cell all low high = absurd (omega arith)
each_number test first (suc count) cell all low high =
    let both = both_true (test first) (list_all test (numbers_from (suc first) count)) all in
    elim (at first cell low) [
      | inl same ↦ subst (λ (n : ℕ). test n ≡ true) same both.0
      | inr above ↦ each_number test (suc first) count cell both.1 above (omega arith)
    ]
  where
    at : (first cell : ℕ) → first ≤ cell → (first ≡ cell) ⊎ (suc first ≤ cell)
    at zero zero low = inl refl
    at zero (suc cell) low = inr (omega arith)
    at (suc first) zero low = absurd (omega arith)
    at (suc first) (suc cell) low = elim (at first cell (omega arith)) [ inl same ↦ inl (ap suc same) | inr above ↦ inr (omega arith) ]

any_weaker : {X : Type 0} (Fact Other : X → Type 0) (xs : List X) → ((x : X) → Fact x → Other x) → Any Fact xs → Any Other xs
any_weaker Fact Other xs turns any = (any.0, any.1, any.2, any.3, turns any.1 any.4)

has : (array cell : ℕ) (access : Access) → has_cell array cell access.span ≡ true → Declares array cell access
has array cell access h =
    let first = both_true (nat_eq access.span.array array) (nat_le access.span.from cell && nat_lt cell access.span.to) h in
    let second = both_true (nat_le access.span.from cell) (nat_lt cell access.span.to) first.1 in
    let same : nat_eq access.span.array array ≡ true = first.0 in
    let low : nat_le access.span.from cell ≡ true = second.0 in
    let high : nat_lt cell access.span.to ≡ true = second.1 in
    (grind (arith, nat_tests), (grind (arith, nat_tests), grind (arith, nat_tests)))

-- each cell lies in an access
pub declared : (accesses : List Access) (span : Span) → is_declared accesses span ≡ true → IsDeclared accesses span
unfolding is_declared
declared accesses span all cell covers =
    let found = each_number (λ (n : ℕ). list_any (λ (access : Access). has_cell span.array n access.span) accesses) span.from (span.to - span.from) cell all
    covers.0 (cell_below span cell covers) in
    any_weaker _ (Declares span.array cell) accesses (has span.array cell)
    (Any-from_list_any (λ (access : Access). has_cell span.array cell access.span) accesses found)
  where
    cell_below : (s : Span) (n : ℕ) → Covers s n → n < s.from + (s.to - s.from)
    cell_below s n c = let low = c.0 in let high = c.1 in omega (arith, low, high)

-- each cell lies in an access that may be written
pub writable : (accesses : List Access) (span : Span) → is_writable accesses span ≡ true → IsWritable accesses span
unfolding is_writable
writable accesses span all cell covers =
    let test : Access → Bool = λ access. has_cell span.array cell access.span && is_written access.mode in
    let found = each_number (λ (n : ℕ). list_any (λ (access : Access). has_cell span.array n access.span && is_written access.mode) accesses) span.from
    (span.to - span.from) cell all covers.0 (cell_below span cell covers) in
    any_weaker _ (λ access. Declares span.array cell access × (is_written access.mode ≡ true)) accesses
    (λ access h. let both = both_true (has_cell span.array cell access.span) (is_written access.mode) h in (has span.array cell access both.0, both.1))
    (Any-from_list_any (λ (access : Access). has_cell span.array cell access.span && is_written access.mode) accesses found)
  where
    cell_below : (s : Span) (n : ℕ) → Covers s n → n < s.from + (s.to - s.from)
    cell_below s n c = let low = c.0 in let high = c.1 in omega (arith, low, high)

-- two spans that share no cell
pub apart_by : (one other : Span) → shares one other ≡ false → ¬ Overlaps other one
apart_by one other h o =
    let same = o.0 in let low = o.1.1.0 in let high = o.1.1.1 in let low' = o.1.2.0 in let high' = o.1.2.1 in
    let meets : shares one other ≡ true = grind (arith, nat_tests) in
    absurd (cc)
