-- A span of a statement lies in an array of its rank.
use Rattle.std.proofs.Common.{◌≡◌, ℕ, zero, suc, ◌+◌, ◌*◌, ◌<◌, ◌≤◌, Bool, true, false, ◌⊎◌, List, [], ◌∷◌, ◌++◌, length, get_or, Option, Some, None}
use Rattle.std.proofs.Common.{Result, Ok, Err, refl, sym, ap, ◌∙◌, subst, inl, inr, arith}
use Rattle.std.specs.Prelude.{ℤ, pos, negsuc, nat_le, ◌&&◌, slice_index, slice_index_or, if◌then◌else◌}
use Rattle.std.proofs.lemmas.Bool.Decides.{nat_tests}
use Rattle.std.proofs.lemmas.List.{get_or_append_left, get_or-append-add}
use Rattle.rt_base.specs.declared.data.FaultKind.TheVariants as fault
use Rattle.rt_base.specs.declared.data.Span.{Span}
use Rattle.rt_base.specs.declared.data.Program.{Program}
use Rattle.rt_base.specs.Layout.{array_count, array_len}
use Rattle.rt_base.specs.WellFormed.{IsSpan}
use Rattle.task_tree.specs.declared.tree.SpanText.{SpanText}
use Rattle.task_names.specs.Scopes.{meaning_of, as_array}
use Rattle.task_names.specs.Values.{value}
use Rattle.task_unroll.specs.Unrolling.{◌>>=◌}
use Rattle.task_unroll.specs.States.{State, scene}
use Rattle.task_unroll.specs.Operands.{bounded, span_of, spans_of, span_or_none}
use Rattle.task_unroll.proofs.Results.{Holds, bind, bind_by}
use Rattle.task_unroll.proofs.Cells.{both_true}
use Rattle.task_unroll.proofs.Sound.{Continues}

-- the bounds of the span are in order, and it ends within the array
pub record InLens (lens : List ℕ) (span : Span) : Type 0 where
  pub ordered : span.from ≤ span.to
  pub inside : span.to ≤ slice_index_or lens span.array 0

bounded_in : (lens : List ℕ) (array : ℕ) (from to : ℤ) → Holds (InLens lens) (bounded array (slice_index_or lens array 0) from to)
unfolding bounded
bounded_in lens array (pos from) (pos to) = by (nat_le from to && nat_le to (slice_index_or lens array 0)) refl
  where
    by : (b : Bool) → nat_le from to && nat_le to (slice_index_or lens array 0) ≡ b
        → Holds (InLens lens) (if b then Ok (record { array = array; from = from; to = to }) else Err fault.BadSpan)
    by true h =
        let both = both_true (nat_le from to) (nat_le to (slice_index_or lens array 0)) h in
        let low : nat_le from to ≡ true = both.0 in
        let high : nat_le to (slice_index_or lens array 0) ≡ true = both.1 in
        record { ordered = grind (arith, nat_tests); inside = grind (arith, nat_tests) }
    by false h = tt
bounded_in lens array (pos from) (negsuc to) = tt
bounded_in lens array (negsuc from) to = tt

pub span_in : (s : State) (text : SpanText) → Holds (InLens s.lens) (span_of s text)
unfolding span_of
span_in s text =
    bind (InLens s.lens) (as_array (meaning_of s.names text.array)) _ (λ array array_is.
    bind (InLens s.lens) (value (scene s) text.from) _ (λ from from_is.
    bind (InLens s.lens) (value (scene s) text.to) _ (λ to to_is.
    bounded_in s.lens array from to)))

-- a number that isn't past the end
pub within_lens : (lens : List ℕ) (array : ℕ) → 0 < slice_index_or lens array 0 → array < length lens
within_lens [] array some = absurd (omega arith)
within_lens (x ∷ lens) zero some = omega arith
within_lens (x ∷ lens) (suc array) some = let rest = within_lens lens array some in omega (arith, rest)

-- in every program that continues the rank
pub span_of_program : (prior : List ℕ) (rank size comms : ℕ) (lens : List ℕ) (p : Program) (span : Span) → Continues prior rank size comms lens p
    → InLens lens span → IsSpan p rank span
span_of_program prior rank size comms lens p span c is =
    let ordered = is.ordered in
    let inside = is.inside in
    let count = c.count in
    record {
      ordered = ordered;
      array = λ some. let within = within_lens lens span.array (omega arith) in omega arith;
      inside = λ some.
          let within = within_lens lens span.array (omega arith) in
          let place : rank * array_count p + span.array ≡ length prior + span.array = ap (λ (n : ℕ). n + span.array) (sym c.place) in
          let read : array_len p rank span.array ≡ slice_index_or lens span.array 0 =
          ap (λ (zs : List ℕ). get_or zs (rank * array_count p + span.array) 0) c.laid
          ∙ ap (λ (n : ℕ). get_or (prior ++ (lens ++ c.after)) n 0) place
          ∙ get_or-append-add prior (lens ++ c.after) span.array 0
          ∙ get_or_append_left lens c.after 0 span.array within in
          subst (λ (n : ℕ). span.to ≤ n) (sym read) inside;
    }
