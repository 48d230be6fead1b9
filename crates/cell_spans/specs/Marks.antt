-- How a bag of spans is kept: by the places where its spans begin and those where they end. No public clause cites this module.
use Rattle.std.specs.Prelude.{◌≡◌, ℕ, Bool, ◌&&◌, List, [], ◌∷◌, count_by, ⊤}
use Rattle.rt_base.specs.declared.data.Span.{Span}
use Rattle.cell_spans.specs.Line.{begin_of, end_of, is_some_span, IsSmall}

-- the numbers of all spans fit their types
abbrev pub AllSmall : List Span → Type 0
AllSmall [] = ⊤
AllSmall (span ∷ spans) = IsSmall span × AllSmall spans

-- as many marks pass any test as beginnings and ends of these spans, empty ones left out
pub record AreMarks (firsts lasts : List ℕ) (spans : List Span) : Type 0 where
  pub small : AllSmall spans
  pub begins : (test : ℕ → Bool) → count_by test firsts ≡ count_by (λ span. is_some_span span && test (begin_of span)) spans
  pub ends : (test : ℕ → Bool) → count_by test lasts ≡ count_by (λ span. is_some_span span && test (end_of span)) spans
