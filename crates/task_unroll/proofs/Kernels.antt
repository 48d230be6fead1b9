-- A kernel that passes its tests has the sources that it takes, of the lengths that it asks.
use Rattle.std.proofs.Common.{◌≡◌, ℕ, zero, suc, ◌+◌, ◌<◌, ◌≤◌, Bool, true, false, List, [], ◌∷◌, ◌++◌, length, Option, Some, None, Result, Ok, Err}
use Rattle.std.proofs.Common.{refl, sym, ap, ◌∙◌, subst, arith}
use Rattle.std.specs.Prelude.{ℤ, pos, negsuc, ◌≤ℤ◌, ◌&&◌, ◌||◌, not, nat_eq, nat_lt, slice_get, slice_index_or, if◌then◌else◌, ⊤}
use Rattle.std.proofs.lemmas.Bool.Decides.{nat_tests}
use Rattle.std.proofs.lemmas.Int.{ints}
use Rattle.rt_base.specs.declared.data.FaultKind.{FaultKind}
use Rattle.rt_base.specs.declared.data.FaultKind.TheVariants as fault
use Rattle.rt_base.specs.declared.data.Span.{Span}
use Rattle.rt_base.specs.declared.data.Kernel.{Kernel}
use Rattle.rt_base.specs.declared.data.Kernel.TheVariants as kernel
use Rattle.rt_base.specs.declared.data.Op.{Op}
use Rattle.rt_base.specs.declared.data.Op.TheVariants as op
use Rattle.rt_base.specs.Spans.{span_len}
use Rattle.rt_base.specs.WellFormed.{OfSpan, NoSource, OneSource, TwoSources, IsKernelCall}
use Rattle.task_unroll.specs.Checks.{differs, has_wrong_length, is_no_shift, has_bad_shift, is_nothing, has_no_source}
use Rattle.rt_base.specs.KernelForms.{source_count, number_count}
use Rattle.task_unroll.specs.Acts.{kernel_call}
use Rattle.task_unroll.proofs.Results.{Holds}
use Rattle.task_unroll.proofs.Cells.{both_true, both_false, not_false}

-- as many sources
abbrev pub Sources : ℕ → Option Span → Option Span → Type 0
Sources zero left right = NoSource left right
Sources (suc zero) left right = OneSource (λ a. ⊤) left right
Sources (suc (suc zero)) left right = TwoSources (λ a b. ⊤) left right
Sources (suc (suc (suc n))) left right = ⊤

sources_of : (n : ℕ) (spans : List Span) → length spans ≡ n → Sources n (slice_get spans 0) (slice_get spans 1)
sources_of zero [] is = tt
sources_of zero (a ∷ spans) is = absurd (omega (arith, is))
sources_of (suc zero) [] is = absurd (omega (arith, is))
sources_of (suc zero) (a ∷ []) is = tt
sources_of (suc zero) (a ∷ b ∷ spans) is = absurd (omega (arith, is))
sources_of (suc (suc zero)) [] is = absurd (omega (arith, is))
sources_of (suc (suc zero)) (a ∷ []) is = absurd (omega (arith, is))
sources_of (suc (suc zero)) (a ∷ b ∷ []) is = tt
sources_of (suc (suc zero)) (a ∷ b ∷ c ∷ spans) is = absurd (omega (arith, is))
sources_of (suc (suc (suc n))) spans is = tt

-- what a kernel's operands give: its destination, and its sources by their number
abbrev pub IsCall : (Span → Type 0) → Kernel → Op → Type 0
IsCall Fact kind (op.Compute of dst left right value step) = (of ≡ kind) × Fact dst × Sources (source_count kind) left right × OfSpan Fact left
    × OfSpan Fact right
IsCall Fact kind (op.Post how span whom tag comm status) = ⊥
IsCall Fact kind (op.Await later handles status) = ⊥

-- the facts of a list of spans, one by one
abbrev pub Each : (Span → Type 0) → List Span → Type 0
Each Fact [] = ⊤
Each Fact (span ∷ spans) = Fact span × Each Fact spans

each_get : (Fact : Span → Type 0) (spans : List Span) (n : ℕ) → Each Fact spans → OfSpan Fact (slice_get spans n)
each_get Fact [] n each = tt
each_get Fact (span ∷ spans) zero each = each.0
each_get Fact (span ∷ spans) (suc n) each = each_get Fact spans n each.1

pub kernel_call_is : (Fact : Span → Type 0) (kind : Kernel) (spans : List Span) (numbers : List ℤ) → Each Fact spans
    → Holds (IsCall Fact kind) (kernel_call kind spans numbers)
kernel_call_is Fact kind [] numbers each = tt
kernel_call_is Fact kind (dst ∷ sources) numbers each = by (nat_eq (length sources) (source_count kind) && nat_eq (length numbers) (number_count kind)) refl
  where
    by : (b : Bool) → nat_eq (length sources) (source_count kind) && nat_eq (length numbers) (number_count kind) ≡ b → Holds (IsCall Fact kind)
        (if b then Ok (op.Compute kind dst (slice_get sources 0) (slice_get sources 1) (slice_index_or numbers 0 (pos 0)) (slice_index_or numbers 1 (pos 0)))
        else Err fault.Shape)
    by true h =
        let both = both_true (nat_eq (length sources) (source_count kind)) (nat_eq (length numbers) (number_count kind)) h in
        let count : nat_eq (length sources) (source_count kind) ≡ true = both.0 in
        (refl, each.0, sources_of (source_count kind) sources (grind (arith, nat_tests)), each_get Fact sources 0 each.1, each_get Fact sources 1 each.1)
    by false h = tt

same_len : (len : ℕ) (source : Span) → differs len (Some source) ≡ false → span_len source ≡ len
same_len len source h = let same : nat_eq (span_len source) len ≡ true = not_false (nat_eq (span_len source) len) h in grind (arith, nat_tests)

one_len : (dst : Span) → not (nat_eq (span_len dst) 1) ≡ false → span_len dst ≡ 1
one_len dst h = let same : nat_eq (span_len dst) 1 ≡ true = not_false (nat_eq (span_len dst) 1) h in grind (arith, nat_tests)

one_source : (Fact : Span → Type 0) (left right : Option Span) → OneSource (λ a. ⊤) left right → ((a : Span) → left ≡ Some a → Fact a)
    → OneSource Fact left right
one_source Fact None right is each = is
one_source Fact (Some left) None is each = each left refl
one_source Fact (Some left) (Some right) is each = is

two_sources : (Fact : Span → Span → Type 0) (left right : Option Span) → TwoSources (λ a b. ⊤) left right
    → ((a b : Span) → left ≡ Some a → right ≡ Some b → Fact a b) → TwoSources Fact left right
two_sources Fact None right is each = is
two_sources Fact (Some left) None is each = is
two_sources Fact (Some left) (Some right) is each = each left right refl refl

copied : (len : ℕ) (left right : Option Span) → Sources 1 left right → differs len left ≡ false → OneSource (λ a. span_len a ≡ len) left right
copied len left right is h = one_source (λ a. span_len a ≡ len) left right is (λ a same. same_len len a (ap (differs len) (sym same) ∙ h))

joined : (len : ℕ) (left right : Option Span) → Sources 2 left right → differs len left || differs len right ≡ false
    → TwoSources (λ a b. (span_len a ≡ len) × (span_len b ≡ len)) left right
joined len left right is h =
    let both = both_false (differs len left) (differs len right) h in
    two_sources (λ a b. (span_len a ≡ len) × (span_len b ≡ len)) left right is
    (λ a b one other. (same_len len a (ap (differs len) (sym one) ∙ both.0), same_len len b (ap (differs len) (sym other) ∙ both.1)))

shifted : (value : ℤ) → is_no_shift value ≡ false → (pos 0 ≤ℤ value) × (value ≤ℤ pos 63)
shifted (pos places) h =
    let below : places ≤ 63 = grind (arith, nat_tests) in
    (omega (arith, ints), omega (arith, ints))
shifted (negsuc places) h = absurd (cc)

chosen : (dst : Span) (left right : Option Span) → Sources 1 left right → not (nat_eq (span_len dst) 1) ≡ false → is_nothing left ≡ false
    → OneSource (λ a. (span_len dst ≡ 1) × (0 < span_len a)) left right
chosen dst left right is one some = one_source (λ a. (span_len dst ≡ 1) × (0 < span_len a)) left right is (λ a same. (
  one_len dst one,
  some_len a (ap is_nothing (sym same) ∙ some),
))
  where
    some_len : (a : Span) → is_nothing (Some a) ≡ false → 0 < span_len a
    some_len a h = let differs_0 : nat_eq (span_len a) 0 ≡ false = h in grind (arith, nat_tests)

-- what the tests of a kernel's form say
pub is_kernel_call : (kind : Kernel) (dst : Span) (left right : Option Span) (value : ℤ) → Sources (source_count kind) left right
    → has_wrong_length kind dst left right ≡ false → has_bad_shift kind value ≡ false → has_no_source kind left ≡ false → IsKernelCall kind dst left right value
is_kernel_call kernel.Fill dst left right value sources lengths shift some = sources
is_kernel_call kernel.Ramp dst left right value sources lengths shift some = sources
is_kernel_call kernel.Copy dst left right value sources lengths shift some = copied (span_len dst) left right sources lengths
is_kernel_call kernel.Add dst left right value sources lengths shift some = joined (span_len dst) left right sources lengths
is_kernel_call kernel.Sub dst left right value sources lengths shift some = joined (span_len dst) left right sources lengths
is_kernel_call kernel.Scale dst left right value sources lengths shift some = copied (span_len dst) left right sources lengths
is_kernel_call kernel.Shift dst left right value sources lengths shift some =
    let places = shifted value shift in (copied (span_len dst) left right sources lengths, places.0, places.1)
is_kernel_call kernel.Jacobi2 dst left right value sources lengths shift some = copied (span_len dst + 2) left right sources lengths
is_kernel_call kernel.Sum dst left right value sources lengths shift some =
    one_source (λ a. span_len dst ≡ 1) left right sources (λ a same. one_len dst lengths)
is_kernel_call kernel.Least dst left right value sources lengths shift some = chosen dst left right sources lengths some
is_kernel_call kernel.Greatest dst left right value sources lengths shift some = chosen dst left right sources lengths some
