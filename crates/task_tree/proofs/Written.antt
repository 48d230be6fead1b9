-- Statements are written by one text in blocks at most.
use Rattle.std.proofs.Common.{◌≡◌, ℕ, zero, suc, ◌<◌, ◌≤◌, Bool, true, false, List, [], ◌∷◌, ◌++◌, map, refl, sym, ap, ap₂, ◌∙◌, subst, arith}
use Rattle.std.proofs.Common.{append_assoc, append-nil}
use Rattle.std.proofs.Math.Bool.{Bool-set}
use Rattle.std.proofs.lemmas.Bool.{false≢true}
use Rattle.rt_base.specs.declared.data.Mode.{Mode}
use Rattle.task_tree.specs.declared.tree.SpanText.{SpanText}
use Rattle.task_tree.specs.declared.tree.What.{What}
use Rattle.task_tree.specs.declared.tree.What.TheVariants as what
use Rattle.task_tree.specs.declared.tree.Stmt.{Stmt}
use Rattle.task_tree.specs.Term.{Term}
use Rattle.task_tree.specs.Blocks.{Block, Done, Plain, Loop, When, Choice, Work, AccessLine, is_plain, stmt, access_stmt, written}

-- the sort of a statement: a whole line by itself 0, the heads of blocks 1 to 3, and what parts or closes them
abbrev sort_of : What → ℕ
sort_of (what.Array name len) = 0
sort_of (what.Show name) = 0
sort_of (what.Comm name) = 0
sort_of (what.Let name value) = 0
sort_of (what.For name from to) = 1
sort_of (what.If test) = 2
sort_of what.Else = 4
sort_of what.End = 5
sort_of what.Taskwait = 0
sort_of what.Task = 3
sort_of (what.Touch mode span) = 6
sort_of what.Do = 7
sort_of (what.Kern kernel spans values) = 0
sort_of (what.Posting how handle span peer tag comm status) = 0
sort_of (what.Waiting later handles status) = 0

-- the sort of the first statement, and 4 for none
abbrev first_sort : List Stmt → ℕ
first_sort [] = 4
first_sort (s ∷ more) = sort_of s.what

-- a block may stop before these
abbrev Stops : List Stmt → Type 0
Stops stmts = 4 ≤ first_sort stmts

plain_sort : (said : What) → is_plain said ≡ true → sort_of said ≡ 0
plain_sort (what.Array name len) h = refl
plain_sort (what.Show name) h = refl
plain_sort (what.Comm name) h = refl
plain_sort (what.Let name value) h = refl
plain_sort (what.For name from to) h = absurd (false≢true h)
plain_sort (what.If test) h = absurd (false≢true h)
plain_sort what.Else h = absurd (false≢true h)
plain_sort what.End h = absurd (false≢true h)
plain_sort what.Taskwait h = refl
plain_sort what.Task h = absurd (false≢true h)
plain_sort (what.Touch mode span) h = absurd (false≢true h)
plain_sort what.Do h = absurd (false≢true h)
plain_sort (what.Kern kernel spans values) h = refl
plain_sort (what.Posting how handle span peer tag comm status) h = refl
plain_sort (what.Waiting later handles status) h = refl

-- a line by itself is one block, whatever shows that it is one
same_plain : (line other : ℕ) (said saying : What) (p : is_plain said ≡ true) (q : is_plain saying ≡ true) (rest more : Block)
    → line ≡ other → said ≡ saying → rest ≡ more → Plain line said p rest ≡ Plain other saying q more
same_plain line other said saying p q rest more lines saids rests =
    let here : Plain line said p rest ≡ Plain other said p more = ap (λ n. Plain n said p rest) lines ∙ ap (Plain other said p) rests in
    here ∙ subst (λ (w : What). (r : is_plain w ≡ true) → Plain other said p more ≡ Plain other w r more) saids
    (λ r. ap (λ (proof : is_plain said ≡ true). Plain other said proof more) (Bool-set (is_plain said) true p r)) q

-- the first of both, and what is behind it
heads : (s t : Stmt) (xs ys : List Stmt) → s ∷ xs ≡ t ∷ ys → s ≡ t
heads s t xs ys h = cc

tails : (s t : Stmt) (xs ys : List Stmt) → s ∷ xs ≡ t ∷ ys → xs ≡ ys
tails s t xs ys h = cc

line_is : (line other : ℕ) (said saying : What) → stmt line said ≡ stmt other saying → line ≡ other
line_is line other said saying h = ap (λ (s : Stmt). s.line) h

said_is : (line other : ℕ) (said saying : What) → stmt line said ≡ stmt other saying → said ≡ saying
said_is line other said saying h = ap (λ (s : Stmt). s.what) h

abbrev access : ℕ → Mode → SpanText → AccessLine
access line mode span = record { line = line; mode = mode; span = span }

same_lists : (a b : AccessLine) (one other : List AccessLine) → a.line ≡ b.line → what.Touch a.mode a.span ≡ what.Touch b.mode b.span → one ≡ other
    → (a ∷ one) ≡ (b ∷ other)
same_lists a b one other lines saids lists =
    let modes : a.mode ≡ b.mode = cc in
    let spans : a.span ≡ b.span = cc in
    let same : a ≡ b = ap (λ l. access l a.mode a.span) lines ∙ ap (λ m. access b.line m a.span) modes ∙ ap (λ s. access b.line b.mode s) spans in
    ap₂ (λ (first : AccessLine) (more : List AccessLine). first ∷ more) same lists

-- the access lines of a task, before its `do`
same_accesses : (one other : List AccessLine) (x y : List Stmt) → first_sort x ≡ 7 → first_sort y ≡ 7
    → map access_stmt one ++ x ≡ map access_stmt other ++ y → (one ≡ other) × (x ≡ y)
same_accesses [] [] x y dx dy h = (refl, h)
same_accesses [] (b ∷ other) x y dx dy h = absurd (let e = ap first_sort h in omega (arith, dx, e))
same_accesses (a ∷ one) [] x y dx dy h = absurd (let e = ap first_sort h in omega (arith, dy, e))
same_accesses (a ∷ one) (b ∷ other) x y dx dy h =
    let first = heads (access_stmt a) (access_stmt b) (map access_stmt one ++ x) (map access_stmt other ++ y) h in
    let behind = same_accesses one other x y dx dy (tails (access_stmt a) (access_stmt b) (map access_stmt one ++ x) (map access_stmt other ++ y) h) in
    let lines : a.line ≡ b.line = ap (λ (s : Stmt). s.line) first in
    let saids : what.Touch a.mode a.span ≡ what.Touch b.mode b.span = ap (λ (s : Stmt). s.what) first in
    (same_lists a b one other lines saids behind.0, behind.1)

same_loop : (l1 l2 : ℕ) (n1 n2 : List ℕ) (f1 f2 t1 t2 : Term) (b1 b2 : Block) (e1 e2 : ℕ) (r1 r2 : Block)
    → l1 ≡ l2 → what.For n1 f1 t1 ≡ what.For n2 f2 t2 → b1 ≡ b2 → e1 ≡ e2 → r1 ≡ r2 → Loop l1 n1 f1 t1 b1 e1 r1 ≡ Loop l2 n2 f2 t2 b2 e2 r2
same_loop l1 l2 n1 n2 f1 f2 t1 t2 b1 b2 e1 e2 r1 r2 lines saids bodies lasts rests =
    let names : n1 ≡ n2 = cc in
    let froms : f1 ≡ f2 = cc in
    let tos : t1 ≡ t2 = cc in
    cc

same_when : (l1 l2 : ℕ) (t1 t2 : Term) (b1 b2 : Block) (e1 e2 : ℕ) (r1 r2 : Block)
    → l1 ≡ l2 → what.If t1 ≡ what.If t2 → b1 ≡ b2 → e1 ≡ e2 → r1 ≡ r2 → When l1 t1 b1 e1 r1 ≡ When l2 t2 b2 e2 r2
same_when l1 l2 t1 t2 b1 b2 e1 e2 r1 r2 lines saids bodies lasts rests = let tests : t1 ≡ t2 = cc in cc

same_choice : (l1 l2 : ℕ) (t1 t2 : Term) (b1 b2 : Block) (m1 m2 : ℕ) (o1 o2 : Block) (e1 e2 : ℕ) (r1 r2 : Block)
    → l1 ≡ l2 → what.If t1 ≡ what.If t2 → b1 ≡ b2 → m1 ≡ m2 → o1 ≡ o2 → e1 ≡ e2 → r1 ≡ r2 → Choice l1 t1 b1 m1 o1 e1 r1 ≡ Choice l2 t2 b2 m2 o2 e2 r2
same_choice l1 l2 t1 t2 b1 b2 m1 m2 o1 o2 e1 e2 r1 r2 lines saids bodies middles others lasts rests = let tests : t1 ≡ t2 = cc in cc

same_work : (l1 l2 : ℕ) (a1 a2 : List AccessLine) (m1 m2 : ℕ) (b1 b2 : Block) (e1 e2 : ℕ) (r1 r2 : Block)
    → l1 ≡ l2 → a1 ≡ a2 → m1 ≡ m2 → b1 ≡ b2 → e1 ≡ e2 → r1 ≡ r2 → Work l1 a1 m1 b1 e1 r1 ≡ Work l2 a2 m2 b2 e2 r2
same_work l1 l2 a1 a2 m1 m2 b1 b2 e1 e2 r1 r2 lines accesses middles bodies lasts rests = cc

-- what is behind a block, past the statement that closes or parts it
behind : (b rest : List Stmt) (s : Stmt) (x : List Stmt) → (b ++ (s ∷ rest)) ++ x ≡ b ++ (s ∷ (rest ++ x))
behind b rest s x = append_assoc b (s ∷ rest) x

-- what is written before what stops a block is one block alone
pub same : (one other : Block) (x y : List Stmt) → Stops x → Stops y → written one ++ x ≡ written other ++ y → (one ≡ other) × (x ≡ y)
same Done Done x y sx sy h = (refl, h)
same Done (Plain l2 s2 p2 r2) x y sx sy h = absurd (let e = ap first_sort h in omega (arith, sx, e, plain_sort s2 p2))
same Done (Loop l2 n2 f2 t2 b2 e2 r2) x y sx sy h = absurd (let e = ap first_sort h in omega (arith, sx, e))
same Done (When l2 t2 b2 e2 r2) x y sx sy h = absurd (let e = ap first_sort h in omega (arith, sx, e))
same Done (Choice l2 t2 b2 m2 o2 e2 r2) x y sx sy h = absurd (let e = ap first_sort h in omega (arith, sx, e))
same Done (Work l2 a2 m2 b2 e2 r2) x y sx sy h = absurd (let e = ap first_sort h in omega (arith, sx, e))
same (Plain l1 s1 p1 r1) Done x y sx sy h = absurd (let e = ap first_sort h in omega (arith, sy, e, plain_sort s1 p1))
same (Plain l1 s1 p1 r1) (Plain l2 s2 p2 r2) x y sx sy h =
    let first = heads (stmt l1 s1) (stmt l2 s2) (written r1 ++ x) (written r2 ++ y) h in
    let more = same r1 r2 x y sx sy (tails (stmt l1 s1) (stmt l2 s2) (written r1 ++ x) (written r2 ++ y) h) in
    (same_plain l1 l2 s1 s2 p1 p2 r1 r2 (line_is l1 l2 s1 s2 first) (said_is l1 l2 s1 s2 first) more.0, more.1)
same (Plain l1 s1 p1 r1) (Loop l2 n2 f2 t2 b2 e2 r2) x y sx sy h = absurd (let e = ap first_sort h in omega (arith, e, plain_sort s1 p1))
same (Plain l1 s1 p1 r1) (When l2 t2 b2 e2 r2) x y sx sy h = absurd (let e = ap first_sort h in omega (arith, e, plain_sort s1 p1))
same (Plain l1 s1 p1 r1) (Choice l2 t2 b2 m2 o2 e2 r2) x y sx sy h = absurd (let e = ap first_sort h in omega (arith, e, plain_sort s1 p1))
same (Plain l1 s1 p1 r1) (Work l2 a2 m2 b2 e2 r2) x y sx sy h = absurd (let e = ap first_sort h in omega (arith, e, plain_sort s1 p1))
same (Loop l1 n1 f1 t1 b1 e1 r1) Done x y sx sy h = absurd (let e = ap first_sort h in omega (arith, sy, e))
same (Loop l1 n1 f1 t1 b1 e1 r1) (Plain l2 s2 p2 r2) x y sx sy h = absurd (let e = ap first_sort h in omega (arith, e, plain_sort s2 p2))
same (Loop l1 n1 f1 t1 b1 e1 r1) (Loop l2 n2 f2 t2 b2 e2 r2) x y sx sy h =
    let first = heads _ _ _ _ h in
    let inside = same b1 b2 (stmt e1 what.End ∷ (written r1 ++ x)) (stmt e2 what.End ∷ (written r2 ++ y)) (omega arith) (omega arith)
    (sym (behind (written b1) (written r1) (stmt e1 what.End) x) ∙ tails _ _ _ _ h ∙ behind (written b2) (written r2) (stmt e2 what.End) y) in
    let last = heads _ _ _ _ inside.1 in
    let more = same r1 r2 x y sx sy (tails _ _ _ _ inside.1) in
    let lines = line_is l1 l2 (what.For n1 f1 t1) (what.For n2 f2 t2) first in
    let saids = said_is l1 l2 (what.For n1 f1 t1) (what.For n2 f2 t2) first in
    let lasts = line_is e1 e2 what.End what.End last in
    (same_loop l1 l2 n1 n2 f1 f2 t1 t2 b1 b2 e1 e2 r1 r2 lines saids inside.0 lasts more.0, more.1)
same (Loop l1 n1 f1 t1 b1 e1 r1) (When l2 t2 b2 e2 r2) x y sx sy h = absurd (let e = ap first_sort h in omega (arith, e))
same (Loop l1 n1 f1 t1 b1 e1 r1) (Choice l2 t2 b2 m2 o2 e2 r2) x y sx sy h = absurd (let e = ap first_sort h in omega (arith, e))
same (Loop l1 n1 f1 t1 b1 e1 r1) (Work l2 a2 m2 b2 e2 r2) x y sx sy h = absurd (let e = ap first_sort h in omega (arith, e))
same (When l1 t1 b1 e1 r1) Done x y sx sy h = absurd (let e = ap first_sort h in omega (arith, sy, e))
same (When l1 t1 b1 e1 r1) (Plain l2 s2 p2 r2) x y sx sy h = absurd (let e = ap first_sort h in omega (arith, e, plain_sort s2 p2))
same (When l1 t1 b1 e1 r1) (Loop l2 n2 f2 t2 b2 e2 r2) x y sx sy h = absurd (let e = ap first_sort h in omega (arith, e))
same (When l1 t1 b1 e1 r1) (When l2 t2 b2 e2 r2) x y sx sy h =
    let first = heads _ _ _ _ h in
    let inside = same b1 b2 (stmt e1 what.End ∷ (written r1 ++ x)) (stmt e2 what.End ∷ (written r2 ++ y)) (omega arith) (omega arith)
    (sym (behind (written b1) (written r1) (stmt e1 what.End) x) ∙ tails _ _ _ _ h ∙ behind (written b2) (written r2) (stmt e2 what.End) y) in
    let last = heads _ _ _ _ inside.1 in
    let more = same r1 r2 x y sx sy (tails _ _ _ _ inside.1) in
    let lines = line_is l1 l2 (what.If t1) (what.If t2) first in
    let saids = said_is l1 l2 (what.If t1) (what.If t2) first in
    let lasts = line_is e1 e2 what.End what.End last in
    (same_when l1 l2 t1 t2 b1 b2 e1 e2 r1 r2 lines saids inside.0 lasts more.0, more.1)
same (When l1 t1 b1 e1 r1) (Choice l2 t2 b2 m2 o2 e2 r2) x y sx sy h =
    let inside = same b1 b2 (stmt e1 what.End ∷ (written r1 ++ x)) (stmt m2 what.Else ∷ ((written o2 ++ (stmt e2 what.End ∷ written r2)) ++ y)) (omega arith)
    (omega arith)
    (sym (behind (written b1) (written r1) (stmt e1 what.End) x) ∙ tails _ _ _ _ h
    ∙ behind (written b2) (written o2 ++ (stmt e2 what.End ∷ written r2)) (stmt m2 what.Else) y) in
    absurd (let e = ap first_sort inside.1 in omega (arith, e))
same (When l1 t1 b1 e1 r1) (Work l2 a2 m2 b2 e2 r2) x y sx sy h = absurd (let e = ap first_sort h in omega (arith, e))
same (Choice l1 t1 b1 m1 o1 e1 r1) Done x y sx sy h = absurd (let e = ap first_sort h in omega (arith, sy, e))
same (Choice l1 t1 b1 m1 o1 e1 r1) (Plain l2 s2 p2 r2) x y sx sy h = absurd (let e = ap first_sort h in omega (arith, e, plain_sort s2 p2))
same (Choice l1 t1 b1 m1 o1 e1 r1) (Loop l2 n2 f2 t2 b2 e2 r2) x y sx sy h = absurd (let e = ap first_sort h in omega (arith, e))
same (Choice l1 t1 b1 m1 o1 e1 r1) (When l2 t2 b2 e2 r2) x y sx sy h =
    let inside = same b1 b2 (stmt m1 what.Else ∷ ((written o1 ++ (stmt e1 what.End ∷ written r1)) ++ x)) (stmt e2 what.End ∷ (written r2 ++ y)) (omega arith)
    (omega arith)
    (sym (behind (written b1) (written o1 ++ (stmt e1 what.End ∷ written r1)) (stmt m1 what.Else) x) ∙ tails _ _ _ _ h
    ∙ behind (written b2) (written r2) (stmt e2 what.End) y) in
    absurd (let e = ap first_sort inside.1 in omega (arith, e))
same (Choice l1 t1 b1 m1 o1 e1 r1) (Choice l2 t2 b2 m2 o2 e2 r2) x y sx sy h =
    let first = heads _ _ _ _ h in
    let inside = same b1 b2 (stmt m1 what.Else ∷ ((written o1 ++ (stmt e1 what.End ∷ written r1)) ++ x))
    (stmt m2 what.Else ∷ ((written o2 ++ (stmt e2 what.End ∷ written r2)) ++ y))
    (omega arith) (omega arith)
    (sym (behind (written b1) (written o1 ++ (stmt e1 what.End ∷ written r1)) (stmt m1 what.Else) x) ∙ tails _ _ _ _ h
    ∙ behind (written b2) (written o2 ++ (stmt e2 what.End ∷ written r2)) (stmt m2 what.Else) y) in
    let part = heads _ _ _ _ inside.1 in
    let others = same o1 o2 (stmt e1 what.End ∷ (written r1 ++ x)) (stmt e2 what.End ∷ (written r2 ++ y)) (omega arith) (omega arith)
    (sym (behind (written o1) (written r1) (stmt e1 what.End) x) ∙ tails _ _ _ _ inside.1 ∙ behind (written o2) (written r2) (stmt e2 what.End) y) in
    let last = heads _ _ _ _ others.1 in
    let more = same r1 r2 x y sx sy (tails _ _ _ _ others.1) in
    let lines = line_is l1 l2 (what.If t1) (what.If t2) first in
    let saids = said_is l1 l2 (what.If t1) (what.If t2) first in
    let middles = line_is m1 m2 what.Else what.Else part in
    let lasts = line_is e1 e2 what.End what.End last in
    (same_choice l1 l2 t1 t2 b1 b2 m1 m2 o1 o2 e1 e2 r1 r2 lines saids inside.0 middles others.0 lasts more.0, more.1)
same (Choice l1 t1 b1 m1 o1 e1 r1) (Work l2 a2 m2 b2 e2 r2) x y sx sy h = absurd (let e = ap first_sort h in omega (arith, e))
same (Work l1 a1 m1 b1 e1 r1) Done x y sx sy h = absurd (let e = ap first_sort h in omega (arith, sy, e))
same (Work l1 a1 m1 b1 e1 r1) (Plain l2 s2 p2 r2) x y sx sy h = absurd (let e = ap first_sort h in omega (arith, e, plain_sort s2 p2))
same (Work l1 a1 m1 b1 e1 r1) (Loop l2 n2 f2 t2 b2 e2 r2) x y sx sy h = absurd (let e = ap first_sort h in omega (arith, e))
same (Work l1 a1 m1 b1 e1 r1) (When l2 t2 b2 e2 r2) x y sx sy h = absurd (let e = ap first_sort h in omega (arith, e))
same (Work l1 a1 m1 b1 e1 r1) (Choice l2 t2 b2 m2 o2 e2 r2) x y sx sy h = absurd (let e = ap first_sort h in omega (arith, e))
same (Work l1 a1 m1 b1 e1 r1) (Work l2 a2 m2 b2 e2 r2) x y sx sy h =
    let first = heads _ _ _ _ h in
    let accesses = same_accesses a1 a2 (stmt m1 what.Do ∷ ((written b1 ++ (stmt e1 what.End ∷ written r1)) ++ x))
    (stmt m2 what.Do ∷ ((written b2 ++ (stmt e2 what.End ∷ written r2)) ++ y))
    refl refl
    (sym (behind (map access_stmt a1) (written b1 ++ (stmt e1 what.End ∷ written r1)) (stmt m1 what.Do) x) ∙ tails _ _ _ _ h
    ∙ behind (map access_stmt a2) (written b2 ++ (stmt e2 what.End ∷ written r2)) (stmt m2 what.Do) y) in
    let part = heads _ _ _ _ accesses.1 in
    let inside = same b1 b2 (stmt e1 what.End ∷ (written r1 ++ x)) (stmt e2 what.End ∷ (written r2 ++ y)) (omega arith) (omega arith)
    (sym (behind (written b1) (written r1) (stmt e1 what.End) x) ∙ tails _ _ _ _ accesses.1 ∙ behind (written b2) (written r2) (stmt e2 what.End) y) in
    let last = heads _ _ _ _ inside.1 in
    let more = same r1 r2 x y sx sy (tails _ _ _ _ inside.1) in
    let lines = line_is l1 l2 what.Task what.Task first in
    let middles = line_is m1 m2 what.Do what.Do part in
    let lasts = line_is e1 e2 what.End what.End last in
    (same_work l1 l2 a1 a2 m1 m2 b1 b2 e1 e2 r1 r2 lines accesses.0 middles inside.0 lasts more.0, more.1)

-- a text is in blocks in one way at most
pub one_block : (one other : Block) → written one ≡ written other → one ≡ other
one_block one other h = (same one other [] [] (omega arith) (omega arith) (append-nil (written one) ∙ h ∙ sym (append-nil (written other)))).0
