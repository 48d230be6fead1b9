-- What is spelled is read.
use Rattle.std.proofs.Common.{◌≡◌, ℕ, ◌+◌, ◌≤◌, min, true, List, [], ◌∷◌, ◌++◌, Some, None, Ok, Err, refl, sym, ap, ◌∙◌, arith, append_assoc}
use Rattle.task_tree.specs.declared.frames.Frame.{Frame}
use Rattle.task_tree.specs.declared.frames.Frame.TheVariants as frame
use Rattle.task_tree.specs.declared.sign.Sign.TheVariants as sign
use Rattle.task_tree.specs.declared.token.Token.{Token}
use Rattle.task_tree.specs.declared.token.Token.TheVariants as token
use Rattle.task_tree.specs.Term.{Term, Term as term}
use Rattle.task_tree.specs.Grammar.{Is, Is as is, level, left_level, ends}
use Rattle.task_tree.specs.Expressions.{reduce, run, expr_at}
use Rattle.task_tree.proofs.Depths.{one_depth}
use Rattle.task_tree.proofs.Reduces.{below, level_bound, below_more, above_itself, at_itself, takes_nothing, holds_nothing, again, deeper_cap, max_cap}

-- reading passes over the tokens, and the frames make of what is read what they make of the operand x
pub record Passed (k : ℕ) (s : List Frame) (ts rest : List Token) (x : Term × ℕ) : Type 0 where
  pub operand : Term × ℕ
  pub frames : List Frame
  pub passes : run None s (ts ++ rest) ≡ run (Some operand) frames rest
  pub comes : reduce k operand frames ≡ reduce k x s

-- what comes to the same at one level comes to the same at each lower one
lower : (k j : ℕ) (v x : Term × ℕ) (t s : List Frame) → k ≤ j → reduce j v t ≡ reduce j x s → reduce k v t ≡ reduce k x s
lower k j v x t s h e = again k j v t h ∙ ap (λ (y : (Term × ℕ) × List Frame). reduce k y.0 y.1) e ∙ sym (again k j x s h)

pub passed : {k d : ℕ} {ts : List Token} {e : Term} (s : List Frame) (rest : List Token) → Is k d ts e → below k s ≡ true → Passed k s ts rest (e, min d 65)
passed s rest is.number h = record { operand = _; frames = s; passes = refl; comes = refl }
passed s rest is.name h = record { operand = _; frames = s; passes = refl; comes = refl }
passed s rest is.rank h = record { operand = _; frames = s; passes = refl; comes = refl }
passed s rest is.size h = record { operand = _; frames = s; passes = refl; comes = refl }
passed s rest (is.brackets {d} {ts} {e} i) h =
    let p = passed (frame.Open ∷ s) (token.Sign sign.CloseRound ∷ rest) i refl in
    let f : run None (frame.Open ∷ s) ((ts ++ token.Sign sign.CloseRound ∷ []) ++ rest) ≡ run (Some p.operand) p.frames (token.Sign sign.CloseRound ∷ rest) =
    rw append_assoc p.passes in
    record { operand = (e, min (d + 1) 65); frames = s; passes = f ∙ rw (p.comes, deeper_cap d) refl; comes = refl }
passed s rest (is.minus {d} {ts} {e} i) h =
    let p = passed (frame.Neg ∷ s) rest i refl in
    record { operand = p.operand; frames = p.frames; passes = p.passes; comes = p.comes ∙ ap (λ c. reduce 3 (term.Neg e, c) s) (deeper_cap d) }
passed s rest (is.two {c} {d} {xs} {ys} {l} {r} {op} x o i j) h =
    let bound : left_level op ≤ 2 = omega (arith, level_bound op) in
    let above : below (left_level op) s ≡ true = below_more (level op) (left_level op) s (omega arith) h in
    let p = passed s (token.Sign x ∷ (ys ++ rest)) i above in
    let start : reduce (left_level op) p.operand p.frames ≡ ((l, min c 65), s) = p.comes ∙ takes_nothing (left_level op) _ s bound above in
    let q = passed (frame.Left op l (min c 65) ∷ s) rest j (above_itself (level op)) in
    record {
      operand = q.operand;
      frames = q.frames;
      passes = rw (append_assoc, p.passes, o, start, holds_nothing (level op) s h) q.passes;
      comes = lower (level op) (level op + 1) q.operand (r, min d 65) q.frames (frame.Left op l (min c 65) ∷ s) (omega arith) q.comes
          ∙ rw (at_itself (level op), max_cap c d) refl;
    }
passed s rest (is.up {k} {d} {ts} {e} i) h =
    let p = passed s rest i (below_more k (k + 1) s (omega arith) h) in
    record { operand = p.operand; frames = p.frames; passes = p.passes; comes = lower k (k + 1) p.operand (e, min d 65) p.frames s (omega arith) p.comes }

ended_there : (v x : Term × ℕ) (t : List Frame) (rest : List Token) → reduce 0 v t ≡ (x, []) → ends rest ≡ true → run (Some v) t rest ≡ Ok (x, rest)
ended_there v x t [] e h = rw e refl
ended_there v x t (token.Name w ∷ rest) e h = rw e refl
ended_there v x t (token.Key k ∷ rest) e h = rw e refl
ended_there v x t (token.Number n ∷ rest) e h = rw e refl
ended_there v x t (token.Sign sign.Plus ∷ rest) e h = absurd cc
ended_there v x t (token.Sign sign.Minus ∷ rest) e h = absurd cc
ended_there v x t (token.Sign sign.Times ∷ rest) e h = absurd cc
ended_there v x t (token.Sign sign.Over ∷ rest) e h = absurd cc
ended_there v x t (token.Sign sign.Rest ∷ rest) e h = absurd cc
ended_there v x t (token.Sign sign.Same ∷ rest) e h = absurd cc
ended_there v x t (token.Sign sign.Differs ∷ rest) e h = absurd cc
ended_there v x t (token.Sign sign.Below ∷ rest) e h = absurd cc
ended_there v x t (token.Sign sign.AtMost ∷ rest) e h = absurd cc
ended_there v x t (token.Sign sign.Above ∷ rest) e h = absurd cc
ended_there v x t (token.Sign sign.AtLeast ∷ rest) e h = absurd cc
ended_there v x t (token.Sign y ∷ rest) e h = rw e refl

-- an expression is read whole, up to where it ends
pub is_read : {d : ℕ} {e : Term} (front rest : List Token) → Is 0 d front e → ends rest ≡ true → expr_at (front ++ rest) ≡ Ok ((e, min d 65), rest)
unfolding expr_at
is_read front rest i h =
    let p = passed [] rest i refl in
    p.passes ∙ ended_there p.operand _ p.frames rest p.comes h

-- two readings are one
pub one_reading : {c d : ℕ} {a b : Term} (tokens : List Token) → Is 0 c tokens a → Is 0 d tokens b → (a ≡ b) × (c ≡ d)
one_reading {c} {d} {a} {b} tokens i j =
    let e = sym (is_read tokens [] i refl) ∙ is_read tokens [] j refl in
    (ap (λ r. elim r [ Ok x ↦ x.0.0 | Err f ↦ a ]) e, one_depth tokens i j)
