-- Lists of names, spans and values: what is spelled is read, and what is read is spelled.
use Rattle.std.proofs.Common.{◌≡◌, ℕ, zero, suc, ◌+◌, max, true, List, [], ◌∷◌, ◌++◌, length, None, Result, Ok, refl, sym, ap, ◌∙◌, arith, append-nil}
use Rattle.std.proofs.Common.{append_assoc}
use Rattle.rt_base.specs.declared.data.FaultKind.{FaultKind}
use Rattle.task_tree.specs.declared.sign.Sign.TheVariants as sign
use Rattle.task_tree.specs.declared.token.Token.{Token}
use Rattle.task_tree.specs.declared.token.Token.TheVariants as token
use Rattle.task_tree.specs.declared.tree.SpanText.{SpanText}
use Rattle.task_tree.specs.Term.{Term}
use Rattle.task_tree.specs.Reading.{◌>>=◌}
use Rattle.task_parse.specs.Statements.{AreNames, AreNames as names, AreSpans, AreSpans as spans, AreValues, AreValues as values}
use Rattle.task_parse.specs.ReadingsOfParts.{Left, name_at, comma_at, value_at, span_at}
use Rattle.task_parse.specs.ReadingsOfOperands.{comma_name, names_behind, names_at, next_span, next_value, more_of}
use Rattle.task_parse.proofs.ListSteps.{no_more_names}
use Rattle.task_parse.proofs.PartLemmas.{grown, grown_none, grown_twice, value_read, span_read, Gets, then, weaker, regrouped, Stands, then_name}
use Rattle.task_parse.proofs.PartLemmas.{then_comma, then_value, then_span}
use Rattle.task_parse.proofs.OperandLemmas.{StandsFlat}
use Rattle.task_tree.specs.Grammar.{ends}

-- the names so far, with all that stand at the front
abbrev all_names : List (List ℕ) → List Token → List (List ℕ) × List Token
all_names done (token.Name name ∷ tokens) = names_behind (done ++ name ∷ []) tokens
all_names done tokens = (done, tokens)

-- names, as they are spelled, go on behind a comma
behind_comma : {ts : List Token} {ns : List (List ℕ)} (done : List (List ℕ)) (rest : List Token) → AreNames ts ns
    → names_behind done (token.Sign sign.Comma ∷ (ts ++ rest)) ≡ all_names done (ts ++ rest)
unfolding names_behind
behind_comma done rest (names.one name) = refl
behind_comma done rest (names.more name are) = refl

all_read : {ts : List Token} {ns : List (List ℕ)} (done : List (List ℕ)) (rest : List Token) → comma_name rest ≡ None → AreNames ts ns
    → all_names done (ts ++ rest) ≡ (done ++ ns, rest)
all_read done rest h (names.one name) = no_more_names (done ++ name ∷ []) rest h
all_read done rest h (names.more {ts} {names = ns} name are) =
    behind_comma (done ++ name ∷ []) rest are ∙ all_read (done ++ name ∷ []) rest h are ∙ ap (λ l. (l, rest)) (append_assoc done (name ∷ []) ns)

-- the first name, and the names behind it, are all names
first_read : {ts : List Token} {ns : List (List ℕ)} (rest : List Token) (k : ℕ) → AreNames ts ns
    → names_at (ts ++ rest, k) ≡ Ok ((all_names [] (ts ++ rest)).0, ((all_names [] (ts ++ rest)).1, k))
unfolding names_at name_at
first_read rest k (names.one name) = refl
first_read rest k (names.more name are) = refl

pub names_read : {ns : List (List ℕ)} (front rest : List Token) (k : ℕ) → comma_name rest ≡ None → AreNames front ns
    → names_at (front ++ rest, k) ≡ Ok (ns, (rest, k))
names_read front rest k h are = first_read rest k are ∙ ap (λ (p : List (List ℕ) × List Token). Ok (p.0, (p.1, k))) (all_read [] rest h are)

-- names so far, and more at the front of the tokens
record MoreNames (done : List (List ℕ)) (ts : List Token) (found : List (List ℕ) × List Token) : Type 0 where
  pub front : List Token
  pub more : List (List ℕ)
  pub whole : ts ≡ front ++ found.1
  pub names : found.0 ≡ done ++ more
  pub spelled : AreNames front more

more_found : (done : List (List ℕ)) (name : List ℕ) (ts : List Token) → MoreNames done (token.Name name ∷ ts) (names_behind (done ++ name ∷ []) ts)
unfolding names_behind
more_found done name (token.Sign sign.Comma ∷ token.Name next ∷ ts) =
    let f = more_found (done ++ name ∷ []) next ts in
    record {
      front = token.Name name ∷ token.Sign sign.Comma ∷ f.front;
      more = name ∷ f.more;
      whole = ap (λ r. token.Name name ∷ token.Sign sign.Comma ∷ r) f.whole;
      names = f.names ∙ append_assoc done (name ∷ []) f.more;
      spelled = names.more name f.spelled;
    }
more_found done name ts = record { front = token.Name name ∷ []; more = name ∷ []; whole = refl; names = refl; spelled = names.one name }

-- what was read of all that was left stands at its front
abbrev pub HasNames : Left → List (List ℕ) × Left → Type 0
HasNames x y = StandsFlat (λ ts. AreNames ts y.0) x y.1

names_found : (x : Left) → Gets (HasNames x) (names_at x)
unfolding names_at
names_found x =
    then_name (HasNames x) x _ (λ first a.
    let f = more_found [] first.0 first.1.0 in
    record { front = f.front; whole = a.tokens ∙ f.whole; spelled = rw f.names f.spelled; same = a.same })

pub then_names : {B : Type 0} (Q : B → Type 0) (x : Left) (f : List (List ℕ) × Left → Result B FaultKind)
    → ((y : List (List ℕ) × Left) → HasNames x y → Gets Q (f y)) → Gets Q (names_at x >>= f)
then_names Q x f next = then (HasNames x) Q (names_at x) f (names_found x) next

-- a span, and so many more
abbrev pub all_spans : List SpanText → ℕ → Left → Result (List SpanText × Left) FaultKind
all_spans done n x = span_at x >>= λ first. more_of next_span (done ++ first.0 ∷ []) n first.1

pub spans_read : (n : ℕ) {d : ℕ} {ss : List SpanText} (done : List SpanText) (front rest : List Token) (k : ℕ) → AreSpans d front ss → length ss ≡ n + 1
    → all_spans done n (front ++ rest, k) ≡ Ok (done ++ ss, (rest, grown k d))
unfolding more_of next_span comma_at
spans_read zero done front rest k (spans.one {d} {ts} {span} i) e = rw (span_read ts rest k i) refl
spans_read (suc n) done front rest k (spans.one {d} {ts} {span} i) e = absurd (omega arith)
spans_read zero done front rest k (spans.more {c} {d} {xs} {ys} {span} {spans = ss} i (spans.one j)) e = absurd (omega arith)
spans_read zero done front rest k (spans.more {c} {d} {xs} {ys} {span} {spans = ss} i (spans.more j are)) e = absurd (omega arith)
spans_read (suc n) done front rest k (spans.more {c} {d} {xs} {ys} {span} {spans = ss} i are) e =
    rw (append_assoc, span_read xs (token.Sign sign.Comma ∷ (ys ++ rest)) k i)
    (spans_read n (done ++ span ∷ []) ys rest (grown k c) are (omega arith) ∙ rw (append_assoc, grown_twice k c d) refl)

-- spans so far, and more at the front of what is left
record MoreSpans (done : List SpanText) (count : ℕ) (x : Left) (found : List SpanText × Left) : Type 0 where
  pub more : List SpanText
  pub spans : found.0 ≡ done ++ more
  pub counted : length more ≡ count
  pub stands : Stands (λ d ts. AreSpans d ts more) x found.1

spans_found : (done : List SpanText) (n : ℕ) (x : Left) → Gets (MoreSpans done (n + 1) x) (all_spans done n x)
unfolding more_of next_span
spans_found done zero x =
    then_span (MoreSpans done 1 x) x _ (λ first a.
    record {
      more = first.0 ∷ [];
      spans = refl;
      counted = refl;
      stands =
          record { front = a.front; depth = a.depth; whole = a.whole; spelled = spans.one a.spelled; deep = a.deep };
    })
spans_found done (suc n) x =
    let Q = MoreSpans done (suc n + 1) x in
    then_span Q x _ (λ first a.
    regrouped Q (comma_at first.1) span_at _ (
    then_comma Q first.1 _ (λ comma b.
    weaker (MoreSpans (done ++ first.0 ∷ []) (n + 1) comma) Q (all_spans (done ++ first.0 ∷ []) n comma) (spans_found (done ++ first.0 ∷ []) n comma) (λ y f.
    record {
      more = first.0 ∷ f.more;
      spans = f.spans ∙ append_assoc done (first.0 ∷ []) f.more;
      counted = omega (arith, f.counted);
      stands = record {
        front = a.front ++ token.Sign sign.Comma ∷ f.stands.front;
        depth = max a.depth f.stands.depth;
        whole = rw (append_assoc, a.whole, b.tokens, f.stands.whole) refl;
        spelled = spans.more a.spelled f.stands.spelled;
        deep = omega (arith, f.stands.deep);
      };
    }))))

pub then_spans : {B : Type 0} (Q : B → Type 0) (n : ℕ) (x : Left) (f : List SpanText × Left → Result B FaultKind)
    → ((y : List SpanText × Left) → (length y.0 ≡ n + 1) → Stands (λ d ts. AreSpans d ts y.0) x y.1 → Gets Q (f y)) → Gets Q (all_spans [] n x >>= f)
then_spans Q n x f next = then (MoreSpans [] (n + 1) x) Q (all_spans [] n x) f (spans_found [] n x) (λ y m.
    next y (ap length m.spans
    ∙ m.counted) (record {
      front = m.stands.front;
      depth = m.stands.depth;
      whole = m.stands.whole;
      spelled = rw m.spans m.stands.spelled;
      deep =
          m.stands.deep;
    }))

values_end : {d : ℕ} {ts : List Token} {es : List Term} (rest : List Token) → ends rest ≡ true → AreValues d ts es → ends (ts ++ rest) ≡ true
values_end rest h values.none = h
values_end rest h (values.more i are) = refl

pub values_read : (n : ℕ) {d : ℕ} {es : List Term} (done : List Term) (front rest : List Token) (k : ℕ) → ends rest ≡ true → AreValues d front es
    → length es ≡ n → more_of next_value done n (front ++ rest, k) ≡ Ok (done ++ es, (rest, grown k d))
unfolding more_of next_value comma_at
values_read zero done front rest k h values.none e = rw append-nil (ap (λ m. Ok (done, (rest, m))) (grown_none k))
values_read (suc n) done front rest k h values.none e = absurd (omega arith)
values_read zero done front rest k h (values.more i are) e = absurd (omega arith)
values_read (suc n) done front rest k h (values.more {c} {d} {xs} {ys} {e = value} {es} i are) e =
    rw (append_assoc, value_read xs (ys ++ rest) k i (values_end rest h are))
    (values_read n (done ++ value ∷ []) ys rest (grown k c) h are (omega arith) ∙ rw (append_assoc, grown_twice k c d) refl)

-- values so far, and more at the front of what is left
record MoreValues (done : List Term) (count : ℕ) (x : Left) (found : List Term × Left) : Type 0 where
  pub more : List Term
  pub values : found.0 ≡ done ++ more
  pub counted : length more ≡ count
  pub stands : Stands (λ d ts. AreValues d ts more) x found.1

values_found : (done : List Term) (n : ℕ) (x : Left) → Gets (MoreValues done n x) (more_of next_value done n x)
unfolding more_of next_value
values_found done zero x =
    record {
      more = [];
      values = sym (append-nil done);
      counted = refl;
      stands =
          record { front = []; depth = 0; whole = refl; spelled = values.none; deep = grown_none x.1 };
    }
values_found done (suc n) x =
    let Q = MoreValues done (suc n) x in
    regrouped Q (comma_at x) value_at _ (
    then_comma Q x _ (λ comma a.
    then_value Q comma _ (λ value b.
    weaker (MoreValues (done ++ value.0 ∷ []) n value.1) Q (more_of next_value (done ++ value.0 ∷ []) n value.1)
    (values_found (done ++ value.0 ∷ []) n value.1) (λ y f.
    record {
      more = value.0 ∷ f.more;
      values = f.values ∙ append_assoc done (value.0 ∷ []) f.more;
      counted = omega (arith, f.counted);
      stands = record {
        front = token.Sign sign.Comma ∷ (b.front ++ f.stands.front);
        depth = max b.depth f.stands.depth;
        whole = rw (append_assoc, a.tokens, b.whole, f.stands.whole) refl;
        spelled = values.more b.spelled f.stands.spelled;
        deep = omega (arith, f.stands.deep);
      };
    }))))

pub then_values : {B : Type 0} (Q : B → Type 0) (n : ℕ) (x : Left) (f : List Term × Left → Result B FaultKind)
    → ((y : List Term × Left) → (length y.0 ≡ n) → Stands (λ d ts. AreValues d ts y.0) x y.1 → Gets Q (f y)) → Gets Q (more_of next_value [] n x >>= f)
then_values Q n x f next = then (MoreValues [] n x) Q (more_of next_value [] n x) f (values_found [] n x) (λ y m.
    next y (ap length m.values
    ∙ m.counted) (record {
      front = m.stands.front;
      depth = m.stands.depth;
      whole = m.stands.whole;
      spelled = rw m.values m.stands.spelled;
      deep =
          m.stands.deep;
    }))
