-- Blocks and the statements that write them, against the blocks that are open between two lines.
use Rattle.std.proofs.Common.{◌≡◌, ℕ, zero, suc, ◌+◌, ◌<◌, ◌≤◌, true, false, List, [], ◌∷◌, ◌++◌, length, map, ◌⊎◌, inl, inr, Result, Ok, Err, refl}
use Rattle.std.proofs.Common.{sym, ap, ◌∙◌, arith, append_assoc, append-nil}
use Rattle.std.specs.Prelude.{nat_le}
use Rattle.std.proofs.lemmas.Bool.Decides.{nat_tests}
use Rattle.rt_base.specs.declared.data.FaultKind.{FaultKind}
use Rattle.rt_base.specs.declared.data.Mode.{Mode}
use Rattle.task_tree.specs.declared.tree.What.{What}
use Rattle.task_tree.specs.declared.tree.What.TheVariants as what
use Rattle.task_tree.specs.declared.tree.Stmt.{Stmt}
use Rattle.task_tree.specs.declared.tree.SpanText.{SpanText}
use Rattle.task_tree.specs.Reading.{◌>>=◌}
use Rattle.task_tree.specs.Term.{Term}
use Rattle.task_tree.specs.Blocks.{Block, Done, Plain, Loop, When, Choice, Work, AccessLine, Place, Top, Body, stmt, access_stmt, written, within}
use Rattle.task_tree.specs.Blocks.{stands, is_main, is_plain, Nested}
use Rattle.task_parse.specs.declared.block.OpenBlock.{OpenBlock}
use Rattle.task_parse.specs.declared.block.OpenBlock.TheVariants as block
use Rattle.task_parse.specs.Trees.{AreNested, CanGoOn}
use Rattle.task_parse.specs.Openings.{spot, is_head, parted, ended, accessed, begun, passed, next, run}
use Rattle.task_parse.proofs.Fronts.{chosen}

-- statements behind others
along : {A B : Type 0} (P Q : A → Result B FaultKind) (read : Result A FaultKind) → ((x : A) → P x ≡ Q x) → (read >>= P) ≡ (read >>= Q)
along P Q (Ok x) same = same x
along P Q (Err kind) same = refl

regrouped : {A B C : Type 0} (P : A → Result B FaultKind) (Q : B → Result C FaultKind) (read : Result A FaultKind)
    → ((read >>= P) >>= Q) ≡ (read >>= λ x. P x >>= Q)
regrouped P Q (Ok x) = refl
regrouped P Q (Err kind) = refl

pub run_append : (blocks : List OpenBlock) (xs ys : List Stmt) → run blocks (xs ++ ys) ≡ (run blocks xs >>= λ behind. run behind ys)
run_append blocks [] ys = refl
run_append blocks (s ∷ xs) ys =
    along (λ t. run t (xs ++ ys)) (λ t. run t xs >>= λ u. run u ys) (next 0 s.what blocks) (λ t. run_append t xs ys)
    ∙ sym (regrouped (λ t. run t xs) (λ u. run u ys) (next 0 s.what blocks))

-- a statement that opens a block goes on where fewer than 64 are open
room_for : (n : ℕ) → n < 64 → nat_le 64 n ≡ false
room_for n h = grind (arith, nat_tests)

-- a statement that is a line by itself changes no open block
plain_step : (p : Place) (blocks : List OpenBlock) (said : What) → is_plain said ≡ true → stands p said ≡ true → spot blocks ≡ p → is_head blocks ≡ false
    → next 0 said blocks ≡ Ok blocks
plain_step p blocks (what.Array name len) a b e h = rw (h, e, b) refl
plain_step p blocks (what.Show name) a b e h = rw (h, e, b) refl
plain_step p blocks (what.Comm name) a b e h = rw (h, e, b) refl
plain_step p blocks (what.Let name value) a b e h = rw h refl
plain_step p blocks (what.For name from to) a b e h = absurd cc
plain_step p blocks (what.If test) a b e h = absurd cc
plain_step p blocks what.Else a b e h = absurd cc
plain_step p blocks what.End a b e h = absurd cc
plain_step p blocks what.Taskwait a b e h = rw (h, e, b) refl
plain_step p blocks what.Task a b e h = absurd cc
plain_step p blocks (what.Touch mode span) a b e h = absurd cc
plain_step p blocks what.Do a b e h = absurd cc
plain_step p blocks (what.Kern kernel spans values) a b e h = rw (h, e, b) refl
plain_step p blocks (what.Posting how handle span peer tag comm status) a b e h = rw (h, e, b) refl
plain_step p blocks (what.Waiting later handles status) a b e h = rw (h, e, b) refl

loop_step : (blocks : List OpenBlock) (name : List ℕ) (from to : Term) → length blocks < 64 → is_head blocks ≡ false
    → next 0 (what.For name from to) blocks ≡ Ok (block.Loop ∷ blocks)
loop_step blocks name from to l h = rw (room_for (length blocks) l, h) refl

when_step : (blocks : List OpenBlock) (test : Term) → length blocks < 64 → is_head blocks ≡ false → next 0 (what.If test) blocks ≡ Ok (block.When ∷ blocks)
when_step blocks test l h = rw (room_for (length blocks) l, h) refl

task_step : (p : Place) (blocks : List OpenBlock) → length blocks < 64 → spot blocks ≡ p → is_main p ≡ true → next 0 what.Task blocks ≡ Ok (block.Head ∷ blocks)
task_step p blocks l e m = rw (room_for (length blocks) l, e, m) refl

-- access lines leave the head of a task open
accesses_step : (blocks : List OpenBlock) (accesses : List AccessLine) (rest : List Stmt)
    → run (block.Head ∷ blocks) (map access_stmt accesses ++ rest) ≡ run (block.Head ∷ blocks) rest
accesses_step blocks [] rest = refl
accesses_step blocks (access ∷ accesses) rest = accesses_step blocks accesses rest

-- what is nested goes through
pub through : (b : Block) (k : ℕ) (p : Place) (blocks : List OpenBlock) (rest : List Stmt) → Nested k p b → spot blocks ≡ p → is_head blocks ≡ false
    → k + length blocks ≤ 64
    → run blocks (written b ++ rest) ≡ run blocks rest
through Done k p blocks rest n e h l = refl
through (Plain line said plain more) k p blocks rest n e h l =
    rw (plain_step p blocks said plain n.0 e h) (through more k p blocks rest n.1 e h l)
through (Loop line name from to body last more) zero p blocks rest n e h l = absurd n
through (Loop line name from to body last more) (suc k) p blocks rest n e h l =
    rw (
      loop_step blocks name from to (omega arith) h,
      append_assoc (written body) (stmt last what.End ∷ written more) rest,
      through body k (within p) (block.Loop ∷ blocks) (stmt last what.End ∷ (written more ++ rest)) n.0 (ap within e) refl (omega arith),
    )
    (through more (suc k) p blocks rest n.1 e h l)
through (When line test body last more) zero p blocks rest n e h l = absurd n
through (When line test body last more) (suc k) p blocks rest n e h l =
    rw (
      when_step blocks test (omega arith) h,
      append_assoc (written body) (stmt last what.End ∷ written more) rest,
      through body k (within p) (block.When ∷ blocks) (stmt last what.End ∷ (written more ++ rest)) n.0 (ap within e) refl (omega arith),
    )
    (through more (suc k) p blocks rest n.1 e h l)
through (Choice line test body middle other last more) zero p blocks rest n e h l = absurd n
through (Choice line test body middle other last more) (suc k) p blocks rest n e h l =
    rw (
      when_step blocks test (omega arith) h,
      append_assoc (written body) (stmt middle what.Else ∷ (written other ++ (stmt last what.End ∷ written more))) rest,
      through body k (within p) (block.When ∷ blocks) (stmt middle what.Else ∷ ((written other ++ (stmt last what.End ∷ written more)) ++ rest)) n.0
          (ap within e) refl (omega arith),
      append_assoc (written other) (stmt last what.End ∷ written more) rest,
      through other k (within p) (block.Otherwise ∷ blocks) (stmt last what.End ∷ (written more ++ rest)) n.1 (ap within e) refl (omega arith),
    )
    (through more (suc k) p blocks rest n.2 e h l)
through (Work line accesses middle body last more) zero p blocks rest n e h l = absurd n
through (Work line accesses middle body last more) (suc k) p blocks rest n e h l =
    rw (
      task_step p blocks (omega arith) e n.0,
      append_assoc (map access_stmt accesses) (stmt middle what.Do ∷ (written body ++ (stmt last what.End ∷ written more))) rest,
      accesses_step blocks accesses (stmt middle what.Do ∷ ((written body ++ (stmt last what.End ∷ written more)) ++ rest)),
      append_assoc (written body) (stmt last what.End ∷ written more) rest,
      through body k Body (block.Body ∷ blocks) (stmt last what.End ∷ (written more ++ rest)) n.1 refl refl (omega arith),
    )
    (through more (suc k) p blocks rest n.2 e h l)

-- the statements of nested blocks leave no block open
pub nested_run : (stmts : List Stmt) → AreNested stmts → run [] stmts ≡ Ok []
nested_run stmts nested =
    let e = through nested.0 64 Top [] [] nested.2 refl refl (omega arith) in
    ap (run []) (sym nested.1 ∙ sym (append-nil (written nested.0))) ∙ e

-- the other way: what goes through is nested. k is the number of blocks that may still be opened.
-- behind so much of a block comes what is still to come
abbrev Inside : ℕ → Place → (List Stmt → Type 0) → List Stmt → Type 0
Inside k p P stmts = (b : Block) × (tail : List Stmt) × (stmts ≡ written b ++ tail) × Nested k p b × P tail

abbrev Ends : (List Stmt → Type 0) → List Stmt → Type 0
Ends P stmts = (last : ℕ) × (tail : List Stmt) × (stmts ≡ stmt last what.End ∷ tail) × P tail

abbrev Parts : (List Stmt → Type 0) → List Stmt → Type 0
Parts P stmts = (middle : ℕ) × (tail : List Stmt) × (stmts ≡ stmt middle what.Else ∷ tail) × P tail

abbrev Begins : (List Stmt → Type 0) → List Stmt → Type 0
Begins P stmts = (accesses : List AccessLine) × (middle : ℕ) × (tail : List Stmt) × (stmts ≡ map access_stmt accesses ++ (stmt middle what.Do ∷ tail)) × P tail

-- what goes on from these open blocks to the end of the text
abbrev Rest : ℕ → List OpenBlock → List Stmt → Type 0
Rest k [] = Inside k Top (λ stmts. stmts ≡ [])
Rest k (block.Loop ∷ around) = Inside k (within (spot around)) (Ends (Rest (suc k) around))
Rest k (block.When ∷ around) =
    Inside k (within (spot around)) (λ stmts. Ends (Rest (suc k) around) stmts ⊎ Parts (Inside k (within (spot around)) (Ends (Rest (suc k) around))) stmts)
Rest k (block.Otherwise ∷ around) = Inside k (within (spot around)) (Ends (Rest (suc k) around))
Rest k (block.Head ∷ around) = Begins (Inside k Body (Ends (Rest (suc k) around)))
Rest k (block.Body ∷ around) = Inside k Body (Ends (Rest (suc k) around))

-- outside the head of a task the innermost block goes on, and then something that its statements don't change
record GoesOn (k : ℕ) (blocks : List OpenBlock) : Type 1 where
  ends : List Stmt → Type 0
  from : (stmts : List Stmt) → Rest k blocks stmts → Inside k (spot blocks) ends stmts
  to : (stmts : List Stmt) → Inside k (spot blocks) ends stmts → Rest k blocks stmts

goes_on : (k : ℕ) (blocks : List OpenBlock) → is_head blocks ≡ false → GoesOn k blocks
goes_on k [] h = record { ends = λ stmts. stmts ≡ []; from = λ stmts r. r; to = λ stmts r. r }
goes_on k (block.Loop ∷ around) h = record { ends = Ends (Rest (suc k) around); from = λ stmts r. r; to = λ stmts r. r }
goes_on k (block.When ∷ around) h = record {
  ends = λ stmts. Ends (Rest (suc k) around) stmts ⊎ Parts (Inside k (within (spot around)) (Ends (Rest (suc k) around))) stmts;
  from = λ stmts r. r;
  to = λ stmts r. r;
}
goes_on k (block.Otherwise ∷ around) h = record { ends = Ends (Rest (suc k) around); from = λ stmts r. r; to = λ stmts r. r }
goes_on k (block.Head ∷ around) h = absurd cc
goes_on k (block.Body ∷ around) h = record { ends = Ends (Rest (suc k) around); from = λ stmts r. r; to = λ stmts r. r }

-- a statement before the innermost block's others
with_plain : (k : ℕ) (p : Place) (P : List Stmt → Type 0) (line : ℕ) (said : What) (plain : is_plain said ≡ true) (stmts : List Stmt) → stands p said ≡ true
    → Inside k p P stmts
    → Inside k p P (stmt line said ∷ stmts)
with_plain k p P line said plain stmts stand (b, tail, e, n, q) = (Plain line said plain b, tail, ap (λ x. stmt line said ∷ x) e, (stand, n), q)

-- a whole block before the others
joined : (body tail ending more : List Stmt) (stmts : List Stmt) → stmts ≡ body ++ tail → tail ≡ ending ++ more → stmts ≡ (body ++ ending) ++ more
joined body tail ending more stmts e f = e ∙ ap (λ x. body ++ x) f ∙ sym (append_assoc body ending more)

ended_by : (last : ℕ) (rest tail stmts : List Stmt) (b : Block) → stmts ≡ stmt last what.End ∷ rest → rest ≡ written b ++ tail
    → stmts ≡ (stmt last what.End ∷ written b) ++ tail
ended_by last rest tail stmts b e f = e ∙ ap (λ x. stmt last what.End ∷ x) f

with_loop : (k : ℕ) (p : Place) (P R : List Stmt → Type 0) (line : ℕ) (name : List ℕ) (from to : Term) (stmts : List Stmt)
    → ((rest : List Stmt) → R rest → Inside (suc k) p P rest)
    → Inside k (within p) (Ends R) stmts → Inside (suc k) p P (stmt line (what.For name from to) ∷ stmts)
with_loop k p P R line name from to stmts goes (body, tail, e, n, (last, rest, f, r)) =
    let inside = goes rest r in
    let whole : stmts ≡ (written body ++ (stmt last what.End ∷ written inside.0)) ++ inside.1 =
    joined (written body) tail (stmt last what.End ∷ written inside.0) inside.1 stmts e (ended_by last rest inside.1 tail inside.0 f inside.2) in
    (Loop line name from to body last inside.0, inside.1, ap (λ x. stmt line (what.For name from to) ∷ x) whole, (n, inside.3), inside.4)

with_when : (k : ℕ) (p : Place) (P R : List Stmt → Type 0) (line : ℕ) (test : Term) (stmts : List Stmt)
    → ((rest : List Stmt) → R rest → Inside (suc k) p P rest)
    → Inside k (within p) (λ x. Ends R x ⊎ Parts (Inside k (within p) (Ends R)) x) stmts → Inside (suc k) p P (stmt line (what.If test) ∷ stmts)
with_when k p P R line test stmts goes (body, tail, e, n, inl (last, rest, f, r)) =
    let inside = goes rest r in
    let whole : stmts ≡ (written body ++ (stmt last what.End ∷ written inside.0)) ++ inside.1 =
    joined (written body) tail (stmt last what.End ∷ written inside.0) inside.1 stmts e (ended_by last rest inside.1 tail inside.0 f inside.2) in
    (When line test body last inside.0, inside.1, ap (λ x. stmt line (what.If test) ∷ x) whole, (n, inside.3), inside.4)
with_when k p P R line test stmts goes (body, tail, e, n, inr (middle, more, f, (other, next, g, m, (last, rest, h, r)))) =
    let inside = goes rest r in
    let second : more ≡ (written other ++ (stmt last what.End ∷ written inside.0)) ++ inside.1 =
    joined (written other) next (stmt last what.End ∷ written inside.0) inside.1 more g (ended_by last rest inside.1 next inside.0 h inside.2) in
    let parted : tail ≡ (stmt middle what.Else ∷ (written other ++ (stmt last what.End ∷ written inside.0))) ++ inside.1 = f
    ∙ ap (λ x. stmt middle what.Else ∷ x) second in
    let whole : stmts ≡ (written body ++ (stmt middle what.Else ∷ (written other ++ (stmt last what.End ∷ written inside.0)))) ++ inside.1 =
    joined (written body) tail (stmt middle what.Else ∷ (written other ++ (stmt last what.End ∷ written inside.0))) inside.1 stmts e parted in
    (Choice line test body middle other last inside.0, inside.1, ap (λ x. stmt line (what.If test) ∷ x) whole, (n, m, inside.3), inside.4)

with_work : (k : ℕ) (p : Place) (P R : List Stmt → Type 0) (line : ℕ) (stmts : List Stmt) → is_main p ≡ true
    → ((rest : List Stmt) → R rest → Inside (suc k) p P rest)
    → Begins (Inside k Body (Ends R)) stmts → Inside (suc k) p P (stmt line what.Task ∷ stmts)
with_work k p P R line stmts main goes (accesses, middle, more, f, (body, tail, e, n, (last, rest, h, r))) =
    let inside = goes rest r in
    let second : more ≡ (written body ++ (stmt last what.End ∷ written inside.0)) ++ inside.1 =
    joined (written body) tail (stmt last what.End ∷ written inside.0) inside.1 more e (ended_by last rest inside.1 tail inside.0 h inside.2) in
    let whole : stmts ≡ (map access_stmt accesses ++ (stmt middle what.Do ∷ (written body ++ (stmt last what.End ∷ written inside.0)))) ++ inside.1 =
    joined (map access_stmt accesses) (stmt middle what.Do ∷ more) (stmt middle what.Do ∷ (written body ++ (stmt last what.End ∷ written inside.0))) inside.1
    stmts f (ap (λ x. stmt middle what.Do ∷ x) second) in
    (Work line accesses middle body last inside.0, inside.1, ap (λ x. stmt line what.Task ∷ x) whole, (main, n, inside.3), inside.4)

-- what stands behind a line stands with it
abbrev Back : ℕ → List OpenBlock → ℕ → What → List Stmt → Result (List OpenBlock) FaultKind → Type 0
Back k blocks line said stmts (Ok behind) = (j : ℕ) × (j + length behind ≡ 64) × (Rest j behind stmts → Rest k blocks (stmt line said ∷ stmts))
Back k blocks line said stmts (Err kind) = Unit {0}

-- in the main text no head of a task is open
main_no_head : (blocks : List OpenBlock) → is_main (spot blocks) ≡ true → is_head blocks ≡ false
main_no_head [] m = refl
main_no_head (block.Loop ∷ around) m = refl
main_no_head (block.When ∷ around) m = refl
main_no_head (block.Otherwise ∷ around) m = refl
main_no_head (block.Head ∷ around) m = absurd cc
main_no_head (block.Body ∷ around) m = refl

fewer : (n : ℕ) → nat_le 64 n ≡ false → n < 64
fewer n h = grind (arith, nat_tests)

back_passed : (k : ℕ) (blocks : List OpenBlock) (line : ℕ) (said : What) (stmts : List Stmt) → is_plain said ≡ true → k + length blocks ≡ 64
    → Back k blocks line said stmts (passed said blocks)
back_passed k blocks line said stmts plain room =
    chosen (Back k blocks line said stmts) (is_head blocks) _ _ (λ _. tt) (λ outside.
    chosen (Back k blocks line said stmts) (stands (spot blocks) said) _ _
    (λ stand. (
      k,
      room,
      λ r. let on = goes_on k blocks outside in
          on.to (stmt line said ∷ stmts) (with_plain k (spot blocks) on.ends line said plain stmts stand (on.from stmts r)),
    ))
    (λ _. tt))

back_loop : (k : ℕ) (blocks : List OpenBlock) (line : ℕ) (name : List ℕ) (from to : Term) (stmts : List Stmt) → k + length blocks ≡ 64
    → Back k blocks line (what.For name from to) stmts (next 0 (what.For name from to) blocks)
back_loop zero blocks line name from to stmts room =
    chosen (Back zero blocks line (what.For name from to) stmts) (nat_le 64 (length blocks)) _ _ (λ _. tt) (λ few. absurd (omega (
      arith,
      fewer (length blocks) few,
    )))
back_loop (suc k) blocks line name from to stmts room =
    chosen (Back (suc k) blocks line (what.For name from to) stmts) (nat_le 64 (length blocks)) _ _ (λ _. tt) (λ few.
    chosen (Back (suc k) blocks line (what.For name from to) stmts) (is_head blocks) _ _ (λ _. tt) (λ outside. (
      k,
      omega arith,
      λ r.
          let on = goes_on (suc k) blocks outside in
          on.to (stmt line (what.For name from to) ∷ stmts) (with_loop k (spot blocks) on.ends (Rest (suc k) blocks) line name from to stmts on.from r),
    )))

back_when : (k : ℕ) (blocks : List OpenBlock) (line : ℕ) (test : Term) (stmts : List Stmt) → k + length blocks ≡ 64
    → Back k blocks line (what.If test) stmts (next 0 (what.If test) blocks)
back_when zero blocks line test stmts room =
    chosen (Back zero blocks line (what.If test) stmts) (nat_le 64 (length blocks)) _ _ (λ _. tt) (λ few. absurd (omega (arith, fewer (length blocks) few)))
back_when (suc k) blocks line test stmts room =
    chosen (Back (suc k) blocks line (what.If test) stmts) (nat_le 64 (length blocks)) _ _ (λ _. tt) (λ few.
    chosen (Back (suc k) blocks line (what.If test) stmts) (is_head blocks) _ _ (λ _. tt) (λ outside. (
      k,
      omega arith,
      λ r.
          let on = goes_on (suc k) blocks outside in
          on.to (stmt line (what.If test) ∷ stmts) (with_when k (spot blocks) on.ends (Rest (suc k) blocks) line test stmts on.from r),
    )))

back_task : (k : ℕ) (blocks : List OpenBlock) (line : ℕ) (stmts : List Stmt) → k + length blocks ≡ 64
    → Back k blocks line what.Task stmts (next 0 what.Task blocks)
back_task zero blocks line stmts room =
    chosen (Back zero blocks line what.Task stmts) (nat_le 64 (length blocks)) _ _ (λ _. tt) (λ few. absurd (omega (arith, fewer (length blocks) few)))
back_task (suc k) blocks line stmts room =
    chosen (Back (suc k) blocks line what.Task stmts) (nat_le 64 (length blocks)) _ _ (λ _. tt) (λ few.
    chosen (Back (suc k) blocks line what.Task stmts) (is_main (spot blocks)) _ _
    (λ main. (
      k,
      omega arith,
      λ r.
          let on = goes_on (suc k) blocks (main_no_head blocks main) in
          on.to (stmt line what.Task ∷ stmts) (with_work k (spot blocks) on.ends (Rest (suc k) blocks) line stmts main on.from r),
    ))
    (λ _. tt))

back_parted : (k : ℕ) (blocks : List OpenBlock) (line : ℕ) (stmts : List Stmt) → k + length blocks ≡ 64 → Back k blocks line what.Else stmts (parted blocks)
back_parted k [] line stmts room = tt
back_parted k (block.Loop ∷ around) line stmts room = tt
back_parted k (block.When ∷ around) line stmts room = (k, room, λ r. (Done, stmt line what.Else ∷ stmts, refl, tt, inr (line, stmts, refl, r)))
back_parted k (block.Otherwise ∷ around) line stmts room = tt
back_parted k (block.Head ∷ around) line stmts room = tt
back_parted k (block.Body ∷ around) line stmts room = tt

back_ended : (k : ℕ) (blocks : List OpenBlock) (line : ℕ) (stmts : List Stmt) → k + length blocks ≡ 64 → Back k blocks line what.End stmts (ended blocks)
back_ended k [] line stmts room = tt
back_ended k (block.Loop ∷ around) line stmts room = (suc k, omega arith, λ r. (Done, stmt line what.End ∷ stmts, refl, tt, (line, stmts, refl, r)))
back_ended k (block.When ∷ around) line stmts room = (suc k, omega arith, λ r. (Done, stmt line what.End ∷ stmts, refl, tt, inl (line, stmts, refl, r)))
back_ended k (block.Otherwise ∷ around) line stmts room = (suc k, omega arith, λ r. (Done, stmt line what.End ∷ stmts, refl, tt, (line, stmts, refl, r)))
back_ended k (block.Head ∷ around) line stmts room = tt
back_ended k (block.Body ∷ around) line stmts room = (suc k, omega arith, λ r. (Done, stmt line what.End ∷ stmts, refl, tt, (line, stmts, refl, r)))

with_access : (k : ℕ) (P : List Stmt → Type 0) (line : ℕ) (mode : Mode) (span : SpanText) (stmts : List Stmt) → Begins P stmts
    → Begins P (stmt line (what.Touch mode span) ∷ stmts)
with_access k P line mode span stmts (accesses, middle, tail, e, q) =
    (record { line = line; mode = mode; span = span } ∷ accesses, middle, tail, ap (λ x. stmt line (what.Touch mode span) ∷ x) e, q)

back_accessed : (k : ℕ) (blocks : List OpenBlock) (line : ℕ) (mode : Mode) (span : SpanText) (stmts : List Stmt) → k + length blocks ≡ 64
    → Back k blocks line (what.Touch mode span) stmts (accessed blocks)
back_accessed k [] line mode span stmts room = tt
back_accessed k (block.Loop ∷ around) line mode span stmts room = tt
back_accessed k (block.When ∷ around) line mode span stmts room = tt
back_accessed k (block.Otherwise ∷ around) line mode span stmts room = tt
back_accessed k (block.Head ∷ around) line mode span stmts room = (
  k,
  room,
  λ r. with_access k (Inside k Body (Ends (Rest (suc k) around))) line mode span stmts r,
)
back_accessed k (block.Body ∷ around) line mode span stmts room = tt

back_begun : (k : ℕ) (blocks : List OpenBlock) (line : ℕ) (stmts : List Stmt) → k + length blocks ≡ 64 → Back k blocks line what.Do stmts (begun blocks)
back_begun k [] line stmts room = tt
back_begun k (block.Loop ∷ around) line stmts room = tt
back_begun k (block.When ∷ around) line stmts room = tt
back_begun k (block.Otherwise ∷ around) line stmts room = tt
back_begun k (block.Head ∷ around) line stmts room = (k, room, λ r. ([], line, stmts, refl, r))
back_begun k (block.Body ∷ around) line stmts room = tt

back : (k : ℕ) (blocks : List OpenBlock) (line : ℕ) (said : What) (stmts : List Stmt) → k + length blocks ≡ 64
    → Back k blocks line said stmts (next 0 said blocks)
back k blocks line (what.Array name len) stmts room = back_passed k blocks line (what.Array name len) stmts refl room
back k blocks line (what.Show name) stmts room = back_passed k blocks line (what.Show name) stmts refl room
back k blocks line (what.Comm name) stmts room = back_passed k blocks line (what.Comm name) stmts refl room
back k blocks line (what.Let name value) stmts room = back_passed k blocks line (what.Let name value) stmts refl room
back k blocks line (what.For name from to) stmts room = back_loop k blocks line name from to stmts room
back k blocks line (what.If test) stmts room = back_when k blocks line test stmts room
back k blocks line what.Else stmts room = back_parted k blocks line stmts room
back k blocks line what.End stmts room = back_ended k blocks line stmts room
back k blocks line what.Taskwait stmts room = back_passed k blocks line what.Taskwait stmts refl room
back k blocks line what.Task stmts room = back_task k blocks line stmts room
back k blocks line (what.Touch mode span) stmts room = back_accessed k blocks line mode span stmts room
back k blocks line what.Do stmts room = back_begun k blocks line stmts room
back k blocks line (what.Kern kernel spans values) stmts room = back_passed k blocks line (what.Kern kernel spans values) stmts refl room
back k blocks line (what.Posting how handle span peer tag comm status) stmts room =
    back_passed k blocks line (what.Posting how handle span peer tag comm status) stmts refl room
back k blocks line (what.Waiting later handles status) stmts room = back_passed k blocks line (what.Waiting later handles status) stmts refl room

-- what leaves no block open goes on to the end
abbrev Whole : ℕ → List OpenBlock → List Stmt → Result (List OpenBlock) FaultKind → Type 0
Whole k blocks stmts (Ok []) = Rest k blocks stmts
Whole k blocks stmts (Ok (inner ∷ around)) = Unit {0}
Whole k blocks stmts (Err kind) = Unit {0}

one_back : (k j : ℕ) (blocks behind : List OpenBlock) (s : Stmt) (stmts : List Stmt) (read : Result (List OpenBlock) FaultKind)
    → (Rest j behind stmts → Rest k blocks (s ∷ stmts)) → Whole j behind stmts read
    → Whole k blocks (s ∷ stmts) read
one_back k j blocks behind s stmts (Ok []) goes w = goes w
one_back k j blocks behind s stmts (Ok (inner ∷ around)) goes w = tt
one_back k j blocks behind s stmts (Err kind) goes w = tt

step_back : (k : ℕ) (blocks : List OpenBlock) (s : Stmt) (stmts : List Stmt) (read : Result (List OpenBlock) FaultKind) → Back k blocks s.line s.what stmts read
    → ((j : ℕ) (behind : List OpenBlock) → j + length behind ≡ 64 → Whole j behind stmts (run behind stmts))
    → Whole k blocks (s ∷ stmts) (read >>= λ behind. run behind stmts)
step_back k blocks s stmts (Ok behind) (j, room, goes) more = one_back k j blocks behind s stmts (run behind stmts) goes (more j behind room)
step_back k blocks s stmts (Err kind) b more = tt

all_back : (stmts : List Stmt) (k : ℕ) (blocks : List OpenBlock) → k + length blocks ≡ 64 → Whole k blocks stmts (run blocks stmts)
all_back [] k [] room = (Done, [], refl, tt, refl)
all_back [] k (inner ∷ around) room = tt
all_back (s ∷ stmts) k blocks room =
    step_back k blocks s stmts (next 0 s.what blocks) (back k blocks s.line s.what stmts room) (λ j behind r. all_back stmts j behind r)

-- statements that leave no block open are those of nested blocks
pub run_nested : (stmts : List Stmt) → run [] stmts ≡ Ok [] → AreNested stmts
run_nested stmts e =
    let (b, tail, f, n, none) : Rest 64 [] stmts = rw e at (all_back stmts 64 [] (omega arith)) in
    (b, sym (f ∙ ap (λ x. written b ++ x) none ∙ append-nil (written b)), n)

-- lines that close all open blocks
abbrev closing : List OpenBlock → List Stmt
closing [] = []
closing (block.Loop ∷ around) = stmt 0 what.End ∷ closing around
closing (block.When ∷ around) = stmt 0 what.End ∷ closing around
closing (block.Otherwise ∷ around) = stmt 0 what.End ∷ closing around
closing (block.Head ∷ around) = stmt 0 what.Do ∷ stmt 0 what.End ∷ closing around
closing (block.Body ∷ around) = stmt 0 what.End ∷ closing around

run_closing : (blocks : List OpenBlock) → run blocks (closing blocks) ≡ Ok []
run_closing [] = refl
run_closing (block.Loop ∷ around) = run_closing around
run_closing (block.When ∷ around) = run_closing around
run_closing (block.Otherwise ∷ around) = run_closing around
run_closing (block.Head ∷ around) = run_closing around
run_closing (block.Body ∷ around) = run_closing around

-- whatever was read so far can be closed
pub can_go_on : (stmts : List Stmt) (blocks : List OpenBlock) → run [] stmts ≡ Ok blocks → CanGoOn stmts
can_go_on stmts blocks e = (
  closing blocks,
  run_nested (stmts ++ closing blocks) (run_append [] stmts (closing blocks)
      ∙ ap (λ read. read >>= λ behind. run behind (closing blocks)) e ∙ run_closing blocks),
)

pub first_ok : {A B : Type 0} (read : Result A FaultKind) (more : A → Result B FaultKind) (y : B) → (read >>= more) ≡ Ok y → (x : A) × (read ≡ Ok x)
first_ok (Ok x) more y e = (x, refl)
first_ok (Err kind) more y e = absurd cc

-- and what can go on was read so far
pub was_read : (stmts : List Stmt) → CanGoOn stmts → (blocks : List OpenBlock) × (run [] stmts ≡ Ok blocks)
was_read stmts (more, nested) = first_ok (run [] stmts) (λ behind. run behind more) [] (sym (run_append [] stmts more) ∙ nested_run (stmts ++ more) nested)
