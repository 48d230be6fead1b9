-- What is read is spelled.
use Rattle.std.proofs.Common.{◌≡◌, ℕ, zero, suc, ◌+◌, ◌-◌, ◌≤◌, min, max, nat_le, true, false, is_some, cond, List, [], ◌∷◌, ◌++◌, Option, Some, None}
use Rattle.std.proofs.Common.{Result, Ok, Err, refl, sym, ap, ◌∙◌, arith, append_assoc}
use Rattle.std.proofs.lemmas.Bool.Decides.{nat_tests}
use Rattle.rt_base.specs.declared.data.FaultKind.{FaultKind}
use Rattle.rt_base.specs.declared.data.FaultKind.TheVariants as fault
use Rattle.task_tree.specs.declared.operator.BinOp.{BinOp}
use Rattle.task_tree.specs.declared.frames.Frame.{Frame}
use Rattle.task_tree.specs.declared.frames.Frame.TheVariants as frame
use Rattle.task_tree.specs.declared.steps.Step.{Step}
use Rattle.task_tree.specs.declared.steps.Step.TheVariants as step
use Rattle.task_tree.specs.declared.key.Key.TheVariants as key
use Rattle.task_tree.specs.declared.sign.Sign.{Sign}
use Rattle.task_tree.specs.declared.sign.Sign.TheVariants as sign
use Rattle.task_tree.specs.declared.token.Token.{Token}
use Rattle.task_tree.specs.declared.token.Token.TheVariants as token
use Rattle.task_tree.specs.Term.{Term}
use Rattle.task_tree.specs.Grammar.{Is, Is as is, operator, level, left_level, is_operator}
use Rattle.task_tree.specs.Reading.{◌>>=◌}
use Rattle.task_tree.specs.Expressions.{reduce, negated, joined, is_held, going, begun, pushed, whole, closed, over, at_sign, followed, step_at, run, expr_at}
use Rattle.task_tree.specs.Laws.{Finds}
use Rattle.task_tree.proofs.Reduces.{below, level_bound, below_unit, deeper_cap, max_cap}

-- what a `Left` frame stands for: its left side as it is spelled, and the sign of its operator
pub record LeftSide (s : List Frame) (op : BinOp) (left : Term) (capped : ℕ) (done front : List Token) : Type 0 where
  pub own : List Token
  pub depth : ℕ
  pub sign : Sign
  pub whole : done ≡ front ++ (own ++ token.Sign sign ∷ [])
  pub same : operator sign ≡ Some op
  pub spelled : Is (left_level op) depth own left
  pub cap : capped ≡ min depth 65
  pub above : below (level op) s ≡ true

-- the frames spell the tokens so far
abbrev pub Before : List Frame → List Token → Type 0
Before [] done = done ≡ []
Before (frame.Open ∷ s) done = (front : List Token) × (done ≡ front ++ token.Sign sign.OpenRound ∷ []) × Before s front
Before (frame.Neg ∷ s) done = (front : List Token) × (done ≡ front ++ token.Sign sign.Minus ∷ []) × Before s front
Before (frame.Left op left depth ∷ s) done = (front : List Token) × LeftSide s op left depth done front × Before s front

-- the frames and an operand of this level behind them spell the tokens so far
pub record Stands (k : ℕ) (v : Term × ℕ) (s : List Frame) (done : List Token) : Type 0 where
  pub front : List Token
  pub own : List Token
  pub depth : ℕ
  pub whole : done ≡ front ++ own
  pub spelled : Is k depth own v.0
  pub cap : v.1 ≡ min depth 65
  pub before : Before s front
  pub above : below k s ≡ true

-- what is of a level is of each lower one
up_by : (n k j : ℕ) {d : ℕ} {ts : List Token} {e : Term} → j ≡ k + n → Is j d ts e → Is k d ts e
up_by zero k j q i = let same : j ≡ k = omega (arith, q) in rw same at i
up_by (suc n) k j q i = is.up (up_by n (k + 1) j (omega (arith, q)) i)

down : (k j : ℕ) {d : ℕ} {ts : List Token} {e : Term} → k ≤ j → Is j d ts e → Is k d ts e
down k j h i = up_by (j - k) k j (omega (arith, h)) i

lower : (k j : ℕ) (v : Term × ℕ) (s : List Frame) (done : List Token) → k ≤ j → below k s ≡ true → Stands j v s done → Stands k v s done
lower k j v s done h b h' = record {
  front = h'.front;
  own = h'.own;
  depth = h'.depth;
  whole = h'.whole;
  spelled = down k j h h'.spelled;
  cap =
      h'.cap;
  before = h'.before;
  above = b;
}

-- an operand behind a minus sign
under_minus : (j : ℕ) (v : Term × ℕ) (s : List Frame) (done : List Token) → Stands j v (frame.Neg ∷ s) done → Stands 3 (negated v) s done
under_minus j v s done i =
    let above : 3 ≤ j = grind (arith, nat_tests, i.above) in
    record {
      front = i.before.0;
      own = token.Sign sign.Minus ∷ i.own;
      depth = i.depth + 1;
      whole = i.whole ∙ ap (λ x. x ++ i.own) i.before.1 ∙ append_assoc i.before.0 _ i.own;
      spelled = is.minus (down 3 j above i.spelled);
      cap = rw i.cap (deeper_cap i.depth);
      before = i.before.2;
      above = below_unit s;
    }

-- an operand to the right of an operator
to_the_right : (j : ℕ) (v : Term × ℕ) (op : BinOp) (left : Term) (depth : ℕ) (s : List Frame) (done : List Token)
    → Stands j v (frame.Left op left depth ∷ s) done → Stands (level op) (joined op left depth v) s done
to_the_right j v op left depth s done i =
    let side = i.before.1 in
    let above : level op + 1 ≤ j = grind (arith, nat_tests, i.above) in
    record {
      front = i.before.0;
      own = side.own ++ token.Sign side.sign ∷ i.own;
      depth = max side.depth i.depth;
      whole = i.whole ∙ ap (λ x. x ++ i.own) side.whole ∙ append_assoc i.before.0 _ i.own ∙ ap (λ x. i.before.0 ++ x) (append_assoc side.own _ i.own);
      spelled = is.two side.sign side.same side.spelled (down (level op + 1) j above i.spelled);
      cap = rw (side.cap, i.cap) (max_cap side.depth i.depth);
      before = i.before.2;
      above = side.above;
    }

-- reducing keeps what stands
pub takes : (k j : ℕ) (v : Term × ℕ) (s : List Frame) (done : List Token) → k ≤ j → k ≤ 3 → Stands j v s done → Stands k (reduce k v s).0 (reduce k v s).1 done
takes k j v [] done h b i = lower k j v [] done h refl i
takes k j v (frame.Open ∷ s) done h b i = lower k j v (frame.Open ∷ s) done h refl i
takes k j v (frame.Neg ∷ s) done h b i = takes k 3 (negated v) s done b b (under_minus j v s done i)
takes k j v (frame.Left op left depth ∷ s) done h b i =
    elim (nat_le k (level op)) as (λ c. nat_le k (level op) ≡ c
    → Stands k (cond c (reduce k (joined op left depth v) s) (v, frame.Left op left depth ∷ s)).0 (cond c (reduce k (joined op left depth v) s) (
      v,
      frame.Left op left depth ∷ s,
    )).1 done) [
      | true ↦ (λ e. takes k (level op) (joined op left depth v) s done (grind (arith, nat_tests)) b (to_the_right j v op left depth s done i))
      | false ↦ (λ e. lower k j v (frame.Left op left depth ∷ s) done h (rw e refl) i)
    ] refl

-- the tokens so far are this expression
pub record IsWhole (v : Term × ℕ) (done : List Token) : Type 0 where
  pub depth : ℕ
  pub spelled : Is 0 depth done v.0
  pub cap : v.1 ≡ min depth 65

abbrev pub Wholes : List Token → Result (Term × ℕ) FaultKind → Type 0
Wholes done (Ok v) = IsWhole v done
Wholes done (Err kind) = kind ≡ fault.Shape

whole_spelled : (v : Term × ℕ) (s : List Frame) (done : List Token) → Stands 0 v s done → Wholes done (whole (v, s))
whole_spelled v [] done i =
    let same : i.own ≡ done = sym (i.whole ∙ ap (λ x. x ++ i.own) i.before) in
    record { depth = i.depth; spelled = rw same at i.spelled; cap = i.cap }
whole_spelled v (f ∷ s) done i = refl

-- the state spells the tokens so far
abbrev pub Holds : Option (Term × ℕ) → List Frame → List Token → Type 0
Holds None s done = Before s done
Holds (Some v) s done = Stands 3 v s done

abbrev pub Keeps : Token → List Token → Step → List Frame → Type 0
Keeps t done (step.GoOn next) s = Holds next s (done ++ t ∷ [])
Keeps t done (step.Over v) s = IsWhole v done × (is_operator t ≡ false)

-- after a step the state spells one token more, or the expression ends before it
abbrev pub Kept : Token → List Token → Result (Step × List Frame) FaultKind → Type 0
Kept t done (Ok x) = Keeps t done x.0 x.1
Kept t done (Err kind) = kind ≡ fault.Shape

over_of : (t : Token) (done : List Token) (r : Result (Term × ℕ) FaultKind) → Wholes done r → is_operator t ≡ false
    → Kept t done (r >>= λ w. Ok (step.Over w, []))
over_of t done (Ok v) w h = (w, h)
over_of t done (Err kind) w h = w

over_kept : (v : Term × ℕ) (s : List Frame) (t : Token) (done : List Token) → Stands 3 v s done → is_operator t ≡ false → Kept t done (over v s)
over_kept v s t done i h = over_of t done (whole (reduce 0 v s)) (whole_spelled _ _ done (takes 0 3 v s done (omega arith) (omega arith) i)) h

closed_kept : (v : Term × ℕ) (s : List Frame) (done : List Token) → Stands 0 v s done → Kept (token.Sign sign.CloseRound) done (closed (v, s))
closed_kept v [] done i = (whole_spelled v [] done i, refl)
closed_kept v (frame.Open ∷ s) done i =
    let close = token.Sign sign.CloseRound in
    record {
      front = i.before.0;
      own = token.Sign sign.OpenRound ∷ (i.own ++ close ∷ []);
      depth = i.depth + 1;
      whole = rw (i.whole, i.before.1, append_assoc, append_assoc) refl;
      spelled = is.brackets i.spelled;
      cap = rw i.cap (deeper_cap i.depth);
      before = i.before.2;
      above = below_unit s;
    }
closed_kept v (frame.Neg ∷ s) done i = refl
closed_kept v (frame.Left op left depth ∷ s) done i = refl

-- where no operator of the level is held, the frames are below it
none_held : (op : BinOp) (s : List Frame) → below (left_level op) s ≡ true → is_held (level op) s ≡ false → below (level op) s ≡ true
none_held op [] b h = refl
none_held op (frame.Open ∷ s) b h = refl
none_held op (frame.Neg ∷ s) b h = let m = level_bound op in grind (arith, nat_tests)
none_held op (frame.Left other left depth ∷ s) b h = rw h refl

pushed_kept : (op : BinOp) (v : Term × ℕ) (s : List Frame) (x : Sign) (done : List Token) → operator x ≡ Some op → Stands (left_level op) v s done
    → Kept (token.Sign x) done (pushed op (v, s))
pushed_kept op v s x done same i =
    elim (is_held (level op) s) as (λ c. is_held (level op) s ≡ c
    → Kept (token.Sign x) done (cond c (Err fault.Shape) (going None (frame.Left op v.0 v.1 ∷ s)))) [
      | true ↦ (λ e. refl)
      | false ↦ (λ e. (
        i.front,
        record {
          own = i.own;
          depth = i.depth;
          sign = x;
          whole = rw (i.whole, append_assoc) refl;
          same = same;
          spelled = i.spelled;
          cap = i.cap;
          above = none_held op s i.above e;
        },
        i.before,
      ))
    ] refl

sign_kept : (v : Term × ℕ) (s : List Frame) (x : Sign) (o : Option BinOp) (done : List Token) → operator x ≡ o → Stands 3 v s done
    → Kept (token.Sign x) done (at_sign v s x o)
sign_kept v s x (Some op) done e i =
    let m = level_bound op in
    pushed_kept op _ _ x done e (takes (left_level op) 3 v s done (omega arith) (omega arith) i)
sign_kept v s sign.CloseRound None done e i = closed_kept _ _ done (takes 0 3 v s done (omega arith) (omega arith) i)
sign_kept v s other None done e i = over_kept v s _ done i (ap is_some e)

followed_kept : (v : Term × ℕ) (s : List Frame) (t : Token) (done : List Token) → Stands 3 v s done → Kept t done (followed v s t)
followed_kept v s (token.Sign x) done i = sign_kept v s x (operator x) done refl i
followed_kept v s (token.Number n) done i = over_kept v s _ done i refl
followed_kept v s (token.Name w) done i = over_kept v s _ done i refl
followed_kept v s (token.Key k) done i = over_kept v s _ done i refl

-- one token that is an operand
one : (s : List Frame) (t : Token) (e : Term) (done : List Token) → Is 3 0 (t ∷ []) e → Before s done → Stands 3 (e, 0) s (done ++ t ∷ [])
one s t e done i b = record { front = done; own = t ∷ []; depth = 0; whole = refl; spelled = i; cap = refl; before = b; above = below_unit s }

begun_kept : (s : List Frame) (t : Token) (done : List Token) → Before s done → Kept t done (begun s t)
begun_kept s (token.Number n) done b = one s _ _ done is.number b
begun_kept s (token.Name w) done b = one s _ _ done is.name b
begun_kept s (token.Key key.Rank) done b = one s _ _ done is.rank b
begun_kept s (token.Key key.Size) done b = one s _ _ done is.size b
begun_kept s (token.Key other) done b = refl
begun_kept s (token.Sign sign.Minus) done b = (done, refl, b)
begun_kept s (token.Sign sign.OpenRound) done b = (done, refl, b)
begun_kept s (token.Sign other) done b = refl

step_kept : (m : Option (Term × ℕ)) (s : List Frame) (t : Token) (done : List Token) → Holds m s done → Kept t done (step_at m s t)
step_kept None s t done h = begun_kept s t done h
step_kept (Some v) s t done h = followed_kept v s t done h

at_the_end : (done : List Token) (r : Result (Term × ℕ) FaultKind) → Wholes done r → Finds (r >>= λ v. Ok (v, [])) (done ++ [])
at_the_end done (Ok v) w = record { front = done; depth = w.depth; whole = refl; spelled = w.spelled; cap = w.cap; end = refl }
at_the_end done (Err kind) w = w

-- a step, and what is read behind it
behind : (t : Token) (ts done : List Token) (r : Result (Step × List Frame) FaultKind)
    → ((m : Option (Term × ℕ)) (s : List Frame) (so_far : List Token) → Holds m s so_far → Finds (run m s ts) (so_far ++ ts))
    → Kept t done r → Finds (r >>= λ x. elim x.0 [ step.GoOn next ↦ run next x.1 ts | step.Over v ↦ Ok (v, t ∷ ts) ]) (done ++ t ∷ ts)
behind t ts done (Ok (step.GoOn next, s)) further h = rw append_assoc at (further next s (done ++ t ∷ []) h)
behind t ts done (Ok (step.Over v, s)) further h = record {
  front = done;
  depth = h.0.depth;
  whole = refl;
  spelled = h.0.spelled;
  cap = h.0.cap;
  end =
      rw h.1 refl;
}
behind t ts done (Err kind) further h = h

run_finds : (ts : List Token) (m : Option (Term × ℕ)) (s : List Frame) (done : List Token) → Holds m s done → Finds (run m s ts) (done ++ ts)
run_finds [] None s done h = refl
run_finds [] (Some v) s done h = at_the_end done (whole (reduce 0 v s)) (whole_spelled _ _ done (takes 0 3 v s done (omega arith) (omega arith) h))
run_finds (t ∷ ts) m s done h = behind t ts done (step_at m s t) (run_finds ts) (step_kept m s t done h)

-- what is read of tokens is spelled at their front
pub finds : (tokens : List Token) → Finds (expr_at tokens) tokens
unfolding expr_at
finds tokens = run_finds tokens None [] [] refl
