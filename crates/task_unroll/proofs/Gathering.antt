-- Results that are gathered one by one, as far as a loop has come.
use Rattle.std.proofs.Common.{◌≡◌, ℕ, ◌+◌, ◌<◌, ◌≤◌, List, [], ◌∷◌, ◌++◌, length, drop, get_or, Result, Ok, Err, refl, sym, ap, ◌∙◌, subst, append_assoc}
use Rattle.std.proofs.lemmas.List.{at_drop_more, append-nil, drop_all}
use Rattle.rt_base.specs.declared.data.FaultKind.{FaultKind}
use Rattle.rt_base.specs.declared.data.Span.{Span}
use Rattle.rt_base.specs.declared.data.Handle.{Handle}
use Rattle.std.specs.Prelude.{ℤ}
use Rattle.task_tree.specs.declared.tree.SpanText.{SpanText}
use Rattle.task_tree.specs.Term.{Term}
use Rattle.task_names.specs.Scopes.{meaning_of, as_handle}
use Rattle.task_names.specs.Values.{value}
use Rattle.task_unroll.specs.declared.refusal.ExpandRefusal.{ExpandRefusal}
use Rattle.task_unroll.specs.Unrolling.{◌>>=◌, at, Fails}
use Rattle.task_unroll.specs.States.{State, scene}
use Rattle.task_unroll.specs.Operands.{span_of, spans_of, values_of, handles_of}
use Rattle.task_unroll.proofs.LineChains.{stopped, went_on}

-- the result of each item, in order, unless one has a fault
abbrev pub each : {A B : Type 0} → (A → Result B FaultKind) → List A → Result (List B) FaultKind
each f [] = Ok []
each f (x ∷ xs) = f x >>= λ y. each f xs >>= λ ys. Ok (y ∷ ys)

-- these results, and then those
abbrev pub onto : {B : Type 0} → List B → Result (List B) FaultKind → Result (List B) FaultKind
onto done more = more >>= λ ys. Ok (done ++ ys)

onto_none : {B : Type 0} (more : Result (List B) FaultKind) → more ≡ onto [] more
onto_none (Ok ys) = refl
onto_none (Err e) = refl

onto_more : {B : Type 0} (done : List B) (y : B) (more : Result (List B) FaultKind) → onto done (more >>= λ ys. Ok (y ∷ ys)) ≡ onto (done ++ y ∷ []) more
onto_more done y (Ok ys) = ap Ok (sym (append_assoc done (y ∷ []) ys))
onto_more done y (Err e) = refl

regroup : {B : Type 0} (c : Result B FaultKind) (done : List B) (more : Result (List B) FaultKind)
    → onto done (c >>= λ y. more >>= λ ys. Ok (y ∷ ys)) ≡ (c >>= λ z. onto done (more >>= λ ys. Ok (z ∷ ys)))
regroup (Ok z) done more = refl
regroup (Err kind) done more = refl

-- how far a loop over the items has come
pub record IsGathered {A B : Type 0} (f : A → Result B FaultKind) (items : List A) (i : ℕ) (done : List B) (whole : Result (List B) FaultKind) : Type 0 where
  pub due : whole ≡ onto done (each f (drop i items))

pub next_gathered : {A B : Type 0} (f : A
    → Result B FaultKind) (items : List A) (i : ℕ) (done : List B) (whole : Result (List B) FaultKind) (line : ℕ) (x : A) (y : B)
    → IsGathered f items i done whole → i < length items → x ≡ get_or items i x → at line (f x) ≡ Ok y → IsGathered f items (i + 1) (done ++ y ∷ []) whole
next_gathered f items i done whole line x y so_far below is gives = record {
  due =
      so_far.due
      ∙ at_drop_more (λ xs. onto done (each f xs)) items i x below
      ∙ ap (λ z. onto done (each f (z ∷ drop (i + 1) items))) (sym is)
      ∙ ap (onto done) (went_on line (f x) (λ z. each f (drop (i + 1) items) >>= λ ys. Ok (z ∷ ys)) y gives)
      ∙ onto_more done y (each f (drop (i + 1) items));
}

-- a fault of the next item is the fault of the whole
pub fault_gathered : {A B : Type 0} (f : A
    → Result B FaultKind) (items : List A) (i : ℕ) (done : List B) (whole : Result (List B) FaultKind) (line : ℕ) (x : A) (e : ExpandRefusal)
    → IsGathered f items i done whole → i < length items → x ≡ get_or items i x → Fails e (at line (f x)) → Fails e (at line whole)
fault_gathered f items i done whole line x e so_far below is fails =
    let split = so_far.due ∙ at_drop_more (λ xs. onto done (each f xs)) items i x below ∙ ap (λ z. onto done (each f (z ∷ drop (i + 1) items))) (sym is) in
    subst (λ r. Fails e (at line r)) (sym (split
    ∙ regroup (f x) done (each f (drop (i + 1) items)))) (stopped line (f x) (λ z. onto done (each f (drop (i + 1) items) >>= λ ys. Ok (z ∷ ys))) e fails)

-- nothing is left
pub all_gathered : {A B : Type 0} (f : A → Result B FaultKind) (items : List A) (i : ℕ) (done : List B) (whole : Result (List B) FaultKind) (line : ℕ)
    → IsGathered f items i done whole → length items ≤ i → at line whole ≡ Ok done
all_gathered {A = A} f items i done whole line so_far over =
    ap (at line) (so_far.due ∙ ap (λ (xs : List A). onto done (each f xs)) (drop_all i items over)) ∙ ap Ok (append-nil done)

spans_each : (s : State) (texts : List SpanText) → spans_of s texts ≡ each (span_of s) texts
spans_each s [] = refl
spans_each s (text ∷ texts) = ap (λ r. span_of s text >>= λ span. r >>= λ spans. Ok (span ∷ spans)) (spans_each s texts)

values_each : (s : State) (es : List Term) → values_of s es ≡ each (value (scene s)) es
values_each s [] = refl
values_each s (e ∷ es) = ap (λ r. value (scene s) e >>= λ x. r >>= λ xs. Ok (x ∷ xs)) (values_each s es)

abbrev pub handle_in : State → List ℕ → Result Handle FaultKind
handle_in s name = as_handle (meaning_of s.names name)

handles_each : (s : State) (names : List (List ℕ)) → handles_of s names ≡ each (handle_in s) names
handles_each s [] = refl
handles_each s (name ∷ names) = ap (λ r. handle_in s name >>= λ handle. r >>= λ handles. Ok (handle ∷ handles)) (handles_each s names)

-- nothing is done yet
pub spans_first : (s : State) (texts : List SpanText) → IsGathered (span_of s) texts 0 [] (spans_of s texts)
spans_first s texts = record { due = spans_each s texts ∙ onto_none (each (span_of s) texts) }

pub values_first : (s : State) (es : List Term) → IsGathered (value (scene s)) es 0 [] (values_of s es)
values_first s es = record { due = values_each s es ∙ onto_none (each (value (scene s)) es) }

pub handles_first : (s : State) (names : List (List ℕ)) → IsGathered (handle_in s) names 0 [] (handles_of s names)
handles_first s names = record { due = handles_each s names ∙ onto_none (each (handle_in s) names) }
