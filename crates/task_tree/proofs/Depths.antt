-- Tokens alone say how deep an expression is: a count of the brackets and minus signs that are open.
use Rattle.std.proofs.Common.{◌≡◌, ℕ, ◌+◌, ◌<◌, max, Bool, true, false, is_some, cond, List, [], ◌∷◌, ◌++◌, length, refl, sym, ap, ◌∙◌, arith, append_assoc}
use Rattle.task_tree.specs.declared.sign.Sign.TheVariants as sign
use Rattle.task_tree.specs.declared.token.Token.{Token}
use Rattle.task_tree.specs.declared.token.Token.TheVariants as token
use Rattle.task_tree.specs.Term.{Term}
use Rattle.task_tree.specs.Grammar.{Is, Is as is, operator}
use Rattle.task_tree.proofs.Reduces.{level_bound}

pub data Mark : Type 0 where
  Bracket : Mark
  Minus : Mark

-- a unit ends the minus signs before it
abbrev pub unit_ends : List Mark → List Mark
unit_ends [] = []
unit_ends (Bracket ∷ s) = Bracket ∷ s
unit_ends (Minus ∷ s) = unit_ends s

abbrev pub bracket_ends : List Mark → List Mark
bracket_ends [] = []
bracket_ends (mark ∷ s) = unit_ends s

-- the most marks that are open at an operand, and at those before: deepest due open most tokens, where an operand is due or was just read
abbrev pub deepest : Bool → List Mark → ℕ → List Token → ℕ
deepest due s m [] = m
deepest true s m (token.Number n ∷ ts) = deepest false (unit_ends s) (max m (length s)) ts
deepest true s m (token.Name w ∷ ts) = deepest false (unit_ends s) (max m (length s)) ts
deepest true s m (token.Key k ∷ ts) = deepest false (unit_ends s) (max m (length s)) ts
deepest true s m (token.Sign sign.Minus ∷ ts) = deepest true (Minus ∷ s) m ts
deepest true s m (token.Sign sign.OpenRound ∷ ts) = deepest true (Bracket ∷ s) m ts
deepest true s m (token.Sign other ∷ ts) = m
deepest false s m (token.Sign x ∷ ts) = cond (is_some (operator x)) (deepest true s m ts) (deepest false (bracket_ends s) m ts)
deepest false s m (token.Number n ∷ ts) = m
deepest false s m (token.Name w ∷ ts) = m
deepest false s m (token.Key k ∷ ts) = m

-- behind an expression no more than its depth was open in it
passed : {k d : ℕ} {ts : List Token} {e : Term} (s : List Mark) (m : ℕ) (rest : List Token) → Is k d ts e → (k < 3 → unit_ends s ≡ s)
    → deepest true s m (ts ++ rest) ≡ deepest false (unit_ends s) (max m (length s + d)) rest
passed s m rest is.number h = ap (λ x. deepest false (unit_ends s) (max m x) rest) (omega arith)
passed s m rest is.name h = ap (λ x. deepest false (unit_ends s) (max m x) rest) (omega arith)
passed s m rest is.rank h = ap (λ x. deepest false (unit_ends s) (max m x) rest) (omega arith)
passed s m rest is.size h = ap (λ x. deepest false (unit_ends s) (max m x) rest) (omega arith)
passed s m rest (is.brackets {d} {ts} {e} i) h =
    let f : deepest true (Bracket ∷ s) m ((ts ++ token.Sign sign.CloseRound ∷ []) ++ rest)
    ≡ deepest true (Bracket ∷ s) m (ts ++ token.Sign sign.CloseRound ∷ rest) = rw append_assoc refl in
    f ∙ passed (Bracket ∷ s) m (token.Sign sign.CloseRound ∷ rest) i (λ _. refl) ∙ ap (λ x. deepest false (unit_ends s) (max m x) rest) (omega arith)
passed s m rest (is.minus {d} {ts} {e} i) h =
    passed (Minus ∷ s) m rest i (λ b. absurd (omega arith)) ∙ ap (λ x. deepest false (unit_ends s) (max m x) rest) (omega arith)
passed s m rest (is.two {c} {d} {xs} {ys} {l} {r} {op} x o i j) h =
    let b = level_bound op in
    let same : unit_ends s ≡ s = h (omega arith) in
    let f : deepest true s m ((xs ++ token.Sign x ∷ ys) ++ rest) ≡ deepest true s m (xs ++ token.Sign x ∷ (ys ++ rest)) = rw append_assoc refl in
    let p = passed s m (token.Sign x ∷ (ys ++ rest)) i (λ _. same) in
    let q = passed s (max m (length s + c)) rest j (λ _. same) in
    let n : max (max m (length s + c)) (length s + d) ≡ max m (length s + max c d) = omega arith in
    f ∙ p ∙ rw (o, same) (q ∙ rw (n, same) refl)
passed s m rest (is.up i) h = passed s m rest i (λ b. h (omega arith))

-- tokens have one depth
pub one_depth : {c d : ℕ} {a b : Term} (tokens : List Token) → Is 0 c tokens a → Is 0 d tokens b → c ≡ d
one_depth {c} {d} tokens i j =
    let e : max 0 (0 + c) ≡ max 0 (0 + d) = sym (passed [] 0 [] i (λ _. refl)) ∙ passed [] 0 [] j (λ _. refl) in
    omega (arith, e)
