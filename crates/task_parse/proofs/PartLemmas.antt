-- The parts of a statement: what is spelled is read, and what is read is spelled.
use Rattle.std.proofs.Common.{◌≡◌, ℕ, min, max, true, List, [], ◌∷◌, ◌++◌, Result, Ok, Err, refl, ap, arith, append-nil, append_assoc}
use Rattle.rt_base.specs.declared.data.FaultKind.{FaultKind}
use Rattle.rt_base.specs.declared.data.FaultKind.TheVariants as fault
use Rattle.task_tree.specs.declared.sign.Sign.TheVariants as sign
use Rattle.task_tree.specs.declared.token.Token.{Token}
use Rattle.task_tree.specs.declared.token.Token.TheVariants as token
use Rattle.task_tree.specs.declared.tree.SpanText.{SpanText}
use Rattle.task_tree.specs.Term.{Term}
use Rattle.task_tree.specs.Grammar.{Is}
use Rattle.task_tree.specs.Reading.{◌>>=◌}
use Rattle.task_tree.specs.Expressions.{expr_at}
use Rattle.task_parse.specs.Statements.{IsSpan, IsSpan as span}
use Rattle.task_parse.specs.ReadingsOfParts.{Left, name_at, comma_at, dots_at, set_at, open_at, close_at, value_at, span_at}
use Rattle.task_tree.specs.Grammar.{ends}
use Rattle.task_tree.specs.Laws.{Finds}
use Rattle.task_tree.proofs.Complete.{is_read}
use Rattle.task_tree.proofs.Sound.{finds}

-- the depth so far, and that of one part more
abbrev pub grown : ℕ → ℕ → ℕ
grown depth more = max depth (min more 65)

pub grown_twice : (k c d : ℕ) → grown (grown k c) d ≡ grown k (max c d)
grown_twice k c d = omega arith

pub grown_none : (k : ℕ) → k ≡ grown k 0
grown_none k = omega arith

-- a value, as it is spelled, is read
pub value_read : {d : ℕ} {e : Term} (front rest : List Token) (k : ℕ) → Is 0 d front e → ends rest ≡ true
    → value_at (front ++ rest, k) ≡ Ok (e, (rest, grown k d))
unfolding value_at
value_read front rest k i h = rw (is_read front rest i h) refl

-- at the end of the line too
pub value_last : {d : ℕ} {e : Term} (front : List Token) (k : ℕ) → Is 0 d front e → value_at (front, k) ≡ Ok (e, ([], grown k d))
value_last front k i = rw (append-nil front) at (value_read front [] k i refl)

-- a span, as it is spelled, is read
pub span_read : {d : ℕ} {s : SpanText} (front rest : List Token) (k : ℕ) → IsSpan d front s → span_at (front ++ rest, k) ≡ Ok (s, (rest, grown k d))
unfolding span_at name_at open_at dots_at close_at
span_read front rest k (span.span {c} {d} {xs} {ys} {from} {to} name i j) =
    rw (
      append_assoc,
      value_read xs (token.Sign sign.Dots ∷ ((ys ++ token.Sign sign.CloseSquare ∷ []) ++ rest)) k i refl,
      append_assoc,
      value_read ys (token.Sign sign.CloseSquare ∷ rest) (grown k c) j refl,
      grown_twice k c d,
    ) refl

pub span_last : {d : ℕ} {s : SpanText} (front : List Token) (k : ℕ) → IsSpan d front s → span_at (front, k) ≡ Ok (s, ([], grown k d))
span_last front k i = rw (append-nil front) at (span_read front [] k i)

-- a fact of what is read, and the one fault is `Shape`
abbrev pub Gets : {A : Type 0} → (A → Type 0) → Result A FaultKind → Type 0
Gets P (Ok x) = P x
Gets P (Err kind) = kind ≡ fault.Shape

-- one step, and then the next
pub then : {A B : Type 0} (P : A → Type 0) (Q : B → Type 0) (r : Result A FaultKind) (f : A → Result B FaultKind) → Gets P r → ((x : A) → P x → Gets Q (f x))
    → Gets Q (r >>= f)
then P Q (Ok x) f p k = k x p
then P Q (Err e) f p k = p

pub weaker : {A : Type 0} (P Q : A → Type 0) (r : Result A FaultKind) → Gets P r → ((x : A) → P x → Q x) → Gets Q r
weaker P Q (Ok x) p k = k x p
weaker P Q (Err e) p k = p

-- a step of two steps
pub regrouped : {A B C : Type 0} (Q : C → Type 0) (r : Result A FaultKind) (f : A → Result B FaultKind) (g : B → Result C FaultKind)
    → Gets Q (r >>= λ x. f x >>= g) → Gets Q ((r >>= f) >>= g)
regrouped Q (Ok x) f g p = p
regrouped Q (Err e) f g p = p

-- the token stands at the front
pub record Begins (t : Token) (x y : Left) : Type 0 where
  pub tokens : x.0 ≡ t ∷ y.0
  pub same : y.1 ≡ x.1

-- the part stands at the front, and counts in the depth
pub record Stands (S : ℕ → List Token → Type 0) (x y : Left) : Type 0 where
  pub front : List Token
  pub depth : ℕ
  pub whole : x.0 ≡ front ++ y.0
  pub spelled : S depth front
  pub deep : y.1 ≡ grown x.1 depth

pub then_name : {B : Type 0} (Q : B → Type 0) (x : Left) (f : List ℕ × Left → Result B FaultKind)
    → ((y : List ℕ × Left) → Begins (token.Name y.0) x y.1 → Gets Q (f y)) → Gets Q (name_at x >>= f)
unfolding name_at
then_name Q (token.Name name ∷ ts, k) f next = next (name, (ts, k)) (record { tokens = refl; same = refl })
then_name Q _ f next = refl

pub then_comma : {B : Type 0} (Q : B → Type 0) (x : Left) (f : Left → Result B FaultKind) → ((y : Left) → Begins (token.Sign sign.Comma) x y → Gets Q (f y))
    → Gets Q (comma_at x >>= f)
unfolding comma_at
then_comma Q (token.Sign sign.Comma ∷ ts, k) f next = next (ts, k) (record { tokens = refl; same = refl })
then_comma Q _ f next = refl

pub then_dots : {B : Type 0} (Q : B → Type 0) (x : Left) (f : Left → Result B FaultKind) → ((y : Left) → Begins (token.Sign sign.Dots) x y → Gets Q (f y))
    → Gets Q (dots_at x >>= f)
unfolding dots_at
then_dots Q (token.Sign sign.Dots ∷ ts, k) f next = next (ts, k) (record { tokens = refl; same = refl })
then_dots Q _ f next = refl

pub then_set : {B : Type 0} (Q : B → Type 0) (x : Left) (f : Left → Result B FaultKind) → ((y : Left) → Begins (token.Sign sign.Set) x y → Gets Q (f y))
    → Gets Q (set_at x >>= f)
unfolding set_at
then_set Q (token.Sign sign.Set ∷ ts, k) f next = next (ts, k) (record { tokens = refl; same = refl })
then_set Q _ f next = refl

then_open : {B : Type 0} (Q : B → Type 0) (x : Left) (f : Left → Result B FaultKind) → ((y : Left) → Begins (token.Sign sign.OpenSquare) x y → Gets Q (f y))
    → Gets Q (open_at x >>= f)
unfolding open_at
then_open Q (token.Sign sign.OpenSquare ∷ ts, k) f next = next (ts, k) (record { tokens = refl; same = refl })
then_open Q _ f next = refl

then_close : {B : Type 0} (Q : B → Type 0) (x : Left) (f : Left → Result B FaultKind) → ((y : Left) → Begins (token.Sign sign.CloseSquare) x y → Gets Q (f y))
    → Gets Q (close_at x >>= f)
unfolding close_at
then_close Q (token.Sign sign.CloseSquare ∷ ts, k) f next = next (ts, k) (record { tokens = refl; same = refl })
then_close Q _ f next = refl

then_expr : {B : Type 0} (Q : B → Type 0) (x : Left) (r : Result ((Term × ℕ) × List Token) FaultKind) (f : Term × Left → Result B FaultKind) → Finds r x.0
    → ((y : Term × Left) → Stands (λ d ts. Is 0 d ts y.0) x y.1 → Gets Q (f y)) → Gets Q ((r >>= λ value. Ok (value.0.0, (value.1, max x.1 value.0.1))) >>= f)
then_expr Q x (Ok v) f i next =
    next (v.0.0, (v.1, max x.1 v.0.1)) (record { front = i.front; depth = i.depth; whole = i.whole; spelled = i.spelled; deep = ap (max x.1) i.cap })
then_expr Q x (Err kind) f i next = i

pub then_value : {B : Type 0} (Q : B → Type 0) (x : Left) (f : Term × Left → Result B FaultKind)
    → ((y : Term × Left) → Stands (λ d ts. Is 0 d ts y.0) x y.1 → Gets Q (f y)) → Gets Q (value_at x >>= f)
unfolding value_at
then_value Q x f next = then_expr Q x (expr_at x.0) f (finds x.0) next

span_found : (x : Left) → Gets (λ y. Stands (λ d ts. IsSpan d ts y.0) x y.1) (span_at x)
unfolding span_at
span_found x =
    let Q : SpanText × Left → Type 0 = λ y. Stands (λ d ts. IsSpan d ts y.0) x y.1 in
    then_name Q x _ (λ array a.
    then_open Q array.1 _ (λ start b.
    then_value Q start _ (λ from c.
    then_dots Q from.1 _ (λ dots d.
    then_value Q dots _ (λ to e.
    then_close Q to.1 _ (λ rest f.
    record {
      front = token.Name array.0 ∷ token.Sign sign.OpenSquare ∷ (c.front ++ token.Sign sign.Dots ∷ (e.front ++ token.Sign sign.CloseSquare ∷ []));
      depth = max c.depth e.depth;
      whole = rw (append_assoc, append_assoc, a.tokens, b.tokens, c.whole, d.tokens, e.whole, f.tokens) refl;
      spelled = span.span array.0 c.spelled e.spelled;
      deep = omega arith;
    }))))))

pub then_span : {B : Type 0} (Q : B → Type 0) (x : Left) (f : SpanText × Left → Result B FaultKind)
    → ((y : SpanText × Left) → Stands (λ d ts. IsSpan d ts y.0) x y.1 → Gets Q (f y)) → Gets Q (span_at x >>= f)
then_span Q x f next = then (λ (y : SpanText × Left). Stands (λ d ts. IsSpan d ts y.0) x y.1) Q (span_at x) f (span_found x) next
