-- The lines read one by one give the tree or the first fault of the text, and no other.
use Rattle.std.proofs.Common.{◌≡◌, ℕ, suc, ◌+◌, ◌≤◌, Bool, true, false, ◌||◌, ◌&&◌, List, [], ◌∷◌, ◌++◌, length, ◌⊎◌, inl, inr, Option, Some, None}
use Rattle.std.proofs.Common.{Result, Ok, Err, refl, sym, ap, ◌∙◌, arith, append_assoc, append-nil, length-append}
use Rattle.std.specs.Prelude.{nat_le, nat_lt, min}
use Rattle.std.proofs.lemmas.Bool.Decides.{nat_tests}
use Rattle.rt_base.specs.declared.data.FaultKind.{FaultKind}
use Rattle.rt_base.specs.declared.data.FaultKind.TheVariants as fault
use Rattle.task_tree.specs.declared.token.Token.{Token}
use Rattle.task_tree.specs.declared.tree.What.{What}
use Rattle.task_tree.specs.declared.tree.Stmt.{Stmt}
use Rattle.task_tree.specs.Reading.{◌>>=◌}
use Rattle.task_tree.specs.Blocks.{stmt}
use Rattle.task_parse.specs.declared.block.OpenBlock.{OpenBlock}
use Rattle.task_parse.specs.Tokens.{tokens_of}
use Rattle.task_parse.specs.Statements.{IsStatement}
use Rattle.task_parse.specs.Readings.{statement}
use Rattle.task_parse.specs.Trees.{lines_of, Spells, Say, none, blank, AreNested, HaveTree, CanGoOn, opens, opening, ending, IsTooDeep, IsFaulty}
use Rattle.task_parse.specs.Trees.{token, shape, depth, place, HaveFault, at_line, at_end, IsTree, IsFirstFault, IsOutcome}
use Rattle.task_parse.specs.Laws.{OneOutcome}
use Rattle.task_parse.specs.Trees as tree
use Rattle.task_parse.specs.Openings.{placed, is_too_deep, next, run}
use Rattle.task_parse.specs.declared.refusal.ParseRefusal.{ParseRefusal}
use Rattle.task_parse.specs.declared.refusal.ParseRefusal.TheVariants as refusal
use Rattle.task_parse.specs.Verdicts.{Verdict, FailsAt, said, what_of, stood, line_at, onto, on_line, verdict}
use Rattle.task_parse.proofs.Fronts.{chosen}
use Rattle.task_parse.proofs.StatementLemmas.{statement_is_spelled, shape_is_the_fault}
use Rattle.task_parse.proofs.Nesting.{run_append, nested_run, run_nested, can_go_on, first_ok, was_read}
use Rattle.task_parse.proofs.Counts.{place_fault, open_count}

-- a statement has a token
has_token : {d : ℕ} {w : What} → IsStatement d [] w → ⊥
has_token s = elim s [ ]

-- a statement that is spelled is read
said_is : (tokens : List Token) (d : ℕ) (w : What) → IsStatement d tokens w → said tokens ≡ Ok (Some (w, min d 65))
said_is [] d w s = absurd (has_token s)
said_is (first ∷ more) d w s = ap (λ read. read >>= λ x. Ok (Some x)) ((statement_is_spelled (first ∷ more) w (min d 65)).1 (d, s, refl))

spelled_at : (line : List ℕ) (d : ℕ) (w : What) (blocks : List OpenBlock) → Spells line d w → line_at line blocks ≡ stood (Some (w, min d 65)) blocks
unfolding what_of
spelled_at line d w blocks (tokens, e, s) = ap (λ read. (read >>= said) >>= λ x. stood x blocks) e
    ∙ ap (λ read. read >>= λ x. stood x blocks) (said_is tokens d w s)

blank_at : (line : List ℕ) (blocks : List OpenBlock) → tokens_of line ≡ Ok [] → line_at line blocks ≡ Ok (None, blocks)
unfolding what_of
blank_at line blocks e = ap (λ read. (read >>= said) >>= λ x. stood x blocks) e

refused_at : (line : List ℕ) (blocks : List OpenBlock) (kind : FaultKind) → tokens_of line ≡ Err kind → line_at line blocks ≡ Err kind
unfolding what_of
refused_at line blocks kind e = ap (λ read. (read >>= said) >>= λ x. stood x blocks) e

-- a line that is not too deep by itself
shallow : (d : ℕ) (w : What) (blocks : List OpenBlock) → d ≤ 64 → next (min d 65) w blocks ≡ next 0 w blocks
shallow d w blocks l = let e : nat_lt 64 (min d 65) ≡ false = grind (arith, nat_tests) in rw e refl

-- what is too deep
deep_up : (before : List Stmt) (blocks : List OpenBlock) (d : ℕ) (w : What) → run [] before ≡ Ok blocks → IsTooDeep before d w
    → is_too_deep (min d 65) w blocks ≡ true
deep_up before blocks d w e (inl l) = let h : nat_lt 64 (min d 65) ≡ true = grind (arith, nat_tests) in rw h refl
deep_up before blocks d w e (inr (o, l)) =
    let count = open_count before blocks e in
    let h : nat_le 64 (length blocks) ≡ true = grind (arith, nat_tests) in
    rw (o, h) (or_true (nat_lt 64 (min d 65)))
  where
    or_true : (a : Bool) → (a || true) ≡ true
    or_true true = refl
    or_true false = refl

deep_down : (before : List Stmt) (blocks : List OpenBlock) (d : ℕ) (w : What) → run [] before ≡ Ok blocks → is_too_deep (min d 65) w blocks ≡ true
    → IsTooDeep before d w
deep_down before blocks d w e = cases (nat_lt 64 (min d 65)) (opens w) (nat_le 64 (length blocks)) refl refl refl
  where
    count : length blocks + ending before ≡ opening before
    count = open_count before blocks e

    cases : (a b c : Bool) → nat_lt 64 (min d 65) ≡ a → opens w ≡ b → nat_le 64 (length blocks) ≡ c → (a || (b && c)) ≡ true → IsTooDeep before d w
    cases true b c p q r h = inl (grind (arith, nat_tests))
    cases false true true p q r h = inr (q, grind (arith, nat_tests, count))
    cases false true false p q r h = absurd cc
    cases false false c p q r h = absurd cc

-- what one line gives: nothing, a statement that goes on, or its fault
abbrev LineGives : List Stmt → ℕ → List ℕ → List OpenBlock → Result (Option What × List OpenBlock) FaultKind → Type 0
LineGives before number line blocks (Ok (None, behind)) = (tokens_of line ≡ Ok []) × (behind ≡ blocks)
LineGives before number line blocks (Ok (Some w, behind)) = (d : ℕ) × Spells line d w × (d ≤ 64) × (next 0 w blocks ≡ Ok behind)
LineGives before number line blocks (Err kind) = IsFaulty before number line kind

-- what is not too deep
flat_is : (d : ℕ) (w : What) (blocks : List OpenBlock) → is_too_deep (min d 65) w blocks ≡ false → (d ≤ 64) × (next 0 w blocks ≡ placed w blocks)
flat_is d w blocks = cases (nat_lt 64 (min d 65)) (opens w && nat_le 64 (length blocks)) refl refl
  where
    cases : (a b : Bool) → nat_lt 64 (min d 65) ≡ a → (opens w && nat_le 64 (length blocks)) ≡ b → (a || b) ≡ false
        → (d ≤ 64) × (next 0 w blocks ≡ placed w blocks)
    cases true b p q h = absurd cc
    cases false true p q h = absurd cc
    cases false false p q h = (grind (arith, nat_tests), rw q refl)

-- the statement, with the blocks behind it
abbrev with_said : What → Result (List OpenBlock) FaultKind → Result (Option What × List OpenBlock) FaultKind
with_said w read = read >>= λ behind. Ok (Some w, behind)

-- nothing is read and refused
apart : {A : Type 0} (x : A) (kind : FaultKind) (read : Result A FaultKind) → read ≡ Ok x → read ≡ Err kind → ⊥
apart x kind (Ok y) e f = absurd cc
apart x kind (Err other) e f = absurd cc

one_read : {A : Type 0} (x y : A) (read : Result A FaultKind) → read ≡ Ok x → read ≡ Ok y → x ≡ y
one_read x y (Ok z) e f = cc
one_read x y (Err other) e f = absurd cc

-- a statement that may not stand here
misplaced : (before : List Stmt) (number : ℕ) (blocks : List OpenBlock) (w : What) (kind : FaultKind) → run [] before ≡ Ok blocks → next 0 w blocks ≡ Err kind
    → ¬ CanGoOn (before ++ stmt number w ∷ [])
misplaced before number blocks w kind e n goes =
    let (behind, f) = was_read (before ++ stmt number w ∷ []) goes in
    let g : run [] (before ++ stmt number w ∷ []) ≡ Err kind =
    run_append [] before (stmt number w ∷ []) ∙ ap (λ read. read >>= λ b. run b (stmt number w ∷ [])) e ∙ ap (λ read. read >>= λ b. run b []) n in
    absurd (apart behind kind (run [] (before ++ stmt number w ∷ [])) f g)

placed_gives : (before : List Stmt) (number : ℕ) (line : List ℕ) (blocks : List OpenBlock) (d : ℕ) (w : What) (read : Result (List OpenBlock) FaultKind)
    → Spells line d w → run [] before ≡ Ok blocks
    → is_too_deep (min d 65) w blocks ≡ false → placed w blocks ≡ read → LineGives before number line blocks (read >>= λ behind. Ok (Some w, behind))
placed_gives before number line blocks d w (Ok behind) spells e flat p = let f = flat_is d w blocks flat in (d, spells, f.0, f.1 ∙ p)
placed_gives before number line blocks d w (Err kind) spells e flat p =
    let f = flat_is d w blocks flat in
    let up = deep_up before blocks d w e in
    rw (place_fault w blocks kind p) (place spells (λ deep. let h : false ≡ true = sym flat ∙ up deep in
    absurd cc) (misplaced before number blocks w kind e (f.1 ∙ p)))

stood_gives : (before : List Stmt) (number : ℕ) (line : List ℕ) (blocks : List OpenBlock) (d : ℕ) (w : What) → Spells line d w → run [] before ≡ Ok blocks
    → LineGives before number line blocks (stood (Some (w, min d 65)) blocks)
stood_gives before number line blocks d w spells e =
    chosen (λ read. LineGives before number line blocks (read >>= λ behind. Ok (
      Some w,
      behind,
    ))) (is_too_deep (min d 65) w blocks) (Err fault.Depth) (placed w blocks)
    (λ deep. depth spells (deep_down before blocks d w e deep))
    (λ flat. placed_gives before number line blocks d w (placed w blocks) spells e flat refl)

statement_gives : (before : List Stmt) (number : ℕ) (line : List ℕ) (blocks : List OpenBlock) (first : Token) (more : List Token) (read : Result (What
    × ℕ) FaultKind) → run [] before ≡ Ok blocks
    → tokens_of line ≡ Ok (first ∷ more) → statement (first ∷ more) ≡ read
    → LineGives before number line blocks ((read >>= λ x. Ok (Some x)) >>= λ x. stood x blocks)
statement_gives before number line blocks first more (Ok (w, c)) e t s =
    let (d, spelled, capped) = (statement_is_spelled (first ∷ more) w c).0 s in
    rw capped (stood_gives before number line blocks d w (first ∷ more, t, spelled) e)
statement_gives before number line blocks first more (Err kind) e t s =
    rw (shape_is_the_fault (first ∷ more) kind s).0 (shape t (λ d w spelled.
    apart (w, min d 65) kind (statement (first ∷ more)) ((statement_is_spelled (first ∷ more) w (min d 65)).1 (d, spelled, refl)) s))

tokens_give : (before : List Stmt) (number : ℕ) (line : List ℕ) (blocks : List OpenBlock) (read : Result (List Token) FaultKind) → run [] before ≡ Ok blocks
    → tokens_of line ≡ read
    → LineGives before number line blocks ((read >>= said) >>= λ x. stood x blocks)
tokens_give before number line blocks (Ok []) e t = (t, refl)
tokens_give before number line blocks (Ok (first ∷ more)) e t = statement_gives before number line blocks first more (statement (first ∷ more)) e t refl
tokens_give before number line blocks (Err kind) e t = token t

line_gives : (before : List Stmt) (number : ℕ) (line : List ℕ) (blocks : List OpenBlock) → run [] before ≡ Ok blocks
    → LineGives before number line blocks (line_at line blocks)
unfolding what_of
line_gives before number line blocks e = tokens_give before number line blocks (tokens_of line) e refl

-- a line more
say_blank : {n : ℕ} {front : List (List ℕ)} {before : List Stmt} (line : List ℕ) → Say n front before → tokens_of line ≡ Ok []
    → Say n (front ++ line ∷ []) before
say_blank line none t = blank t none
say_blank line (blank e more) t = blank e (say_blank line more t)
say_blank line (tree.statement s l more) t = tree.statement s l (say_blank line more t)

say_statement : {n d : ℕ} {front : List (List ℕ)} {before : List Stmt} {w : What} (line : List ℕ) → Say n front before → Spells line d w → d ≤ 64
    → Say n (front ++ line ∷ []) (before ++ stmt (n + length front) w ∷ [])
say_statement {n} line none s l = let e : n + 0 ≡ n = omega arith in rw e (tree.statement s l none)
say_statement {n} {front = first ∷ lines} line (blank e more) s l = let f : n + suc (length lines) ≡ n + 1 + length lines = omega arith in
    rw f (blank e (say_statement line more s l))
say_statement {n} {front = first ∷ lines} line (tree.statement s l more) t m = let f : n + suc (length lines) ≡ n + 1 + length lines = omega arith in
    rw f (tree.statement s l (say_statement line more t m))

-- what the verdict on the lines behind these says of all
abbrev Told : List (List ℕ) → List Stmt → List (List ℕ) → Verdict → Type 0
Told front before lines (Ok stmts) = Say 1 (front ++ lines) (before ++ stmts) × (run [] (before ++ stmts) ≡ Ok [])
Told front before lines (Err f) = HaveFault (front ++ lines) f.0 f.1

told_more : (front lines : List (List ℕ)) (line : List ℕ) (before new : List Stmt) (v : Verdict) → Told (front ++ line ∷ []) (before ++ new) lines v
    → Told front before (line ∷ lines) (onto new v)
told_more front lines line before new (Ok stmts) (s, e) =
    let a : (front ++ line ∷ []) ++ lines ≡ front ++ line ∷ lines = append_assoc front (line ∷ []) lines in
    let b : (before ++ new) ++ stmts ≡ before ++ (new ++ stmts) = append_assoc before new stmts in
    (rw (← a, ← b) s, rw (← b) e)
told_more front lines line before new (Err f) h =
    let a : (front ++ line ∷ []) ++ lines ≡ front ++ line ∷ lines = append_assoc front (line ∷ []) lines in
    rw (← a) h

told_end : (front : List (List ℕ)) (before : List Stmt) (blocks : List OpenBlock) → Say 1 front before → run [] before ≡ Ok blocks
    → Told front before [] (verdict (length front + 1) blocks [])
told_end front before [] s e = (rw (append-nil front, append-nil before) s, rw (append-nil before) e)
told_end front before (inner ∷ around) s e =
    rw (append-nil front) (at_end s (can_go_on before (inner ∷ around) e) (λ nested.
    let h : [] ≡ inner ∷ around = one_read [] (inner ∷ around) (run [] before) (nested_run before nested) e in absurd cc))

told_line : (front lines : List (List ℕ)) (line : List ℕ) (before : List Stmt) (blocks : List OpenBlock) (read : Result (Option What
    × List OpenBlock) FaultKind) → Say 1 front before → run [] before ≡ Ok blocks
    → LineGives before (length front + 1) line blocks read
    → ((more : List Stmt) (behind : List OpenBlock) → Say 1 (front ++ line ∷ []) more → run [] more ≡ Ok behind
    → Told (front ++ line ∷ []) more lines (verdict (length (front ++ line ∷ []) + 1) behind lines))
    → Told front before (line ∷ lines) (on_line (length front + 1) read (λ behind. verdict (length front + 1 + 1) behind lines))
told_line front lines line before blocks (Ok (None, behind)) s e (t, same) more =
    let n : length (front ++ line ∷ []) + 1 ≡ length front + 1 + 1 = ap (λ k. k + 1) (length-append front (line ∷ [])) in
    let told : Told (front ++ line ∷ []) before lines (verdict (length front + 1 + 1) behind lines) = rw n at (more before behind (say_blank line s t) (e
    ∙ ap Ok (sym same))) in
    told_more front lines line before [] (verdict (length front + 1 + 1) behind lines) (rw (append-nil before) told)
told_line front lines line before blocks (Ok (Some w, behind)) s e (d, spells, l, step) more =
    let n : length (front ++ line ∷ []) + 1 ≡ length front + 1 + 1 = ap (λ k. k + 1) (length-append front (line ∷ [])) in
    let m : 1 + length front ≡ length front + 1 = omega arith in
    let new : List Stmt = stmt (length front + 1) w ∷ [] in
    let says : Say 1 (front ++ line ∷ []) (before ++ stmt (length front + 1) w ∷ []) = rw m at (say_statement line s spells l) in
    let goes : run [] (before ++ stmt (length front + 1) w ∷ []) ≡ Ok behind =
    run_append [] before (stmt (length front + 1) w ∷ []) ∙ ap (λ read. read >>= λ b. run b (stmt (length front + 1) w ∷ [])) e
    ∙ ap (λ read. read >>= λ b. run b []) step in
    told_more front lines line before (stmt (length front + 1) w ∷ []) (verdict (length front + 1 + 1) behind lines)
    (rw n at (more (before ++ stmt (length front + 1) w ∷ []) behind says goes))
told_line front lines line before blocks (Err kind) s e fault more = at_line lines s (can_go_on before blocks e) fault

told : (lines front : List (List ℕ)) (before : List Stmt) (blocks : List OpenBlock) → Say 1 front before → run [] before ≡ Ok blocks
    → Told front before lines (verdict (length front + 1) blocks lines)
told [] front before blocks s e = told_end front before blocks s e
told (line ∷ lines) front before blocks s e =
    told_line front lines line before blocks (line_at line blocks) s e (line_gives before (length front + 1) line blocks e)
    (λ more behind t f. told lines (front ++ line ∷ []) more behind t f)

-- the verdict is the tree or the first fault of the text
outcome_of : (text : List ℕ) (v : Verdict) → Told [] [] (lines_of text) v → IsOutcome text v
outcome_of text (Ok stmts) (s, e) = (s, run_nested stmts e)
outcome_of text (Err f) h = h

pub verdict_is : (text : List ℕ) → IsOutcome text (verdict 1 [] (lines_of text))
verdict_is text = outcome_of text (verdict 1 [] (lines_of text)) (told (lines_of text) [] [] [] none refl)

-- the other way: a tree or a first fault is the verdict
onto_none : (v : Verdict) → onto [] v ≡ v
onto_none (Ok stmts) = refl
onto_none (Err f) = refl

onto_one : (s : Stmt) (stmts : List Stmt) (v : Verdict) → onto (s ∷ []) (onto stmts v) ≡ onto (s ∷ stmts) v
onto_one s stmts (Ok more) = refl
onto_one s stmts (Err f) = refl

stated_at : (line : List ℕ) (d : ℕ) (w : What) (blocks behind : List OpenBlock) → Spells line d w → d ≤ 64 → next 0 w blocks ≡ Ok behind
    → line_at line blocks ≡ Ok (Some w, behind)
stated_at line d w blocks behind spells l step =
    spelled_at line d w blocks spells ∙ ap (λ read. read >>= λ t. Ok (Some w, t)) (shallow d w blocks l ∙ step)

after_first : {A B : Type 0} (x : A) (read : Result A FaultKind) (more : A → Result B FaultKind) (y : B) → read ≡ Ok x → (read >>= more) ≡ Ok y → more x ≡ Ok y
after_first x (Ok z) more y e f = let same : z ≡ x = cc in rw (← same) f
after_first x (Err kind) more y e f = absurd cc

says_verdict : {n : ℕ} {front : List (List ℕ)} {stmts : List Stmt} (rest : List (List ℕ)) (blocks behind : List OpenBlock) → Say n front stmts
    → run blocks stmts ≡ Ok behind
    → verdict n blocks (front ++ rest) ≡ onto stmts (verdict (n + length front) behind rest)
says_verdict {n} rest blocks behind none e =
    let zero : n + 0 ≡ n = omega arith in
    let same : blocks ≡ behind = cc in
    rw (zero, same) (sym (onto_none (verdict n behind rest)))
says_verdict {n} {front = line ∷ lines} {stmts} rest blocks behind (blank t more) e =
    let count : n + suc (length lines) ≡ n + 1 + length lines = omega arith in
    rw (blank_at line blocks t, count) (onto_none (verdict (n + 1) blocks (lines ++ rest)) ∙ says_verdict rest blocks behind more e)
says_verdict {n} {front = line ∷ lines} rest blocks behind (tree.statement {depth} {said} {stmts} spells l more) e =
    let count : n + suc (length lines) ≡ n + 1 + length lines = omega arith in
    let (next_blocks, step) = first_ok (next 0 said blocks) (λ t. run t stmts) behind e in
    let goes : run next_blocks stmts ≡ Ok behind = after_first next_blocks (next 0 said blocks) (λ t. run t stmts) behind step e in
    rw (stated_at line depth said blocks next_blocks spells l step, count)
    (ap (onto (stmt n said ∷ [])) (says_verdict rest next_blocks behind more goes) ∙ onto_one (stmt n said) stmts (verdict (n + 1 + length lines) behind rest))

-- a faulty line has its fault
shape_read : (line : List ℕ) (first : Token) (more : List Token) (blocks : List OpenBlock) (read : Result (What × ℕ) FaultKind)
    → tokens_of line ≡ Ok (first ∷ more)
    → ((d : ℕ) (w : What) → ¬ IsStatement d (first ∷ more) w) → statement (first ∷ more) ≡ read → line_at line blocks ≡ Err fault.Shape
unfolding what_of
shape_read line first more blocks (Ok (w, c)) t never s = let (d, spelled, capped) = (statement_is_spelled (first ∷ more) w c).0 s in absurd (never d w spelled)
shape_read line first more blocks (Err kind) t never s =
    ap (λ read. (read >>= said) >>= λ x. stood x blocks) t ∙ ap (λ read. (read >>= λ x. Ok (Some x)) >>= λ x. stood x blocks) s
    ∙ ap Err (shape_is_the_fault (first ∷ more) kind s).0

deep_read : (before : List Stmt) (line : List ℕ) (d : ℕ) (w : What) (blocks : List OpenBlock) → run [] before ≡ Ok blocks → Spells line d w
    → IsTooDeep before d w → line_at line blocks ≡ Err fault.Depth
deep_read before line d w blocks e spells deep = spelled_at line d w blocks spells ∙ rw (deep_up before blocks d w e deep) refl

is_flat : (b : Bool) → (b ≡ true → ⊥) → b ≡ false
is_flat true never = absurd (never refl)
is_flat false never = refl

placed_read : (before : List Stmt) (number : ℕ) (w : What) (blocks : List OpenBlock) (read : Result (List OpenBlock) FaultKind) → run [] before ≡ Ok blocks
    → next 0 w blocks ≡ placed w blocks
    → ¬ CanGoOn (before ++ stmt number w ∷ []) → placed w blocks ≡ read → with_said w read ≡ Err fault.Place
placed_read before number w blocks (Ok behind) e n never p =
    let goes : run [] (before ++ stmt number w ∷ []) ≡ Ok behind =
    run_append [] before (stmt number w ∷ []) ∙ ap (λ read. read >>= λ b. run b (stmt number w ∷ [])) e ∙ ap (λ read. read >>= λ b. run b []) (n ∙ p) in
    absurd (never (can_go_on (before ++ stmt number w ∷ []) behind goes))
placed_read before number w blocks (Err kind) e n never p = ap Err (place_fault w blocks kind p)

place_read : (before : List Stmt) (number : ℕ) (line : List ℕ) (d : ℕ) (w : What) (blocks : List OpenBlock) → run [] before ≡ Ok blocks → Spells line d w
    → ¬ IsTooDeep before d w
    → ¬ CanGoOn (before ++ stmt number w ∷ []) → line_at line blocks ≡ Err fault.Place
place_read before number line d w blocks e spells shallow never =
    let down = deep_down before blocks d w e in
    let flat : is_too_deep (min d 65) w blocks ≡ false = is_flat (is_too_deep (min d 65) w blocks) (λ deep. shallow (down deep)) in
    let read : with_said w (placed w blocks) ≡ Err fault.Place =
    placed_read before number w blocks (placed w blocks) e (flat_is d w blocks flat).1 never refl in
    spelled_at line d w blocks spells ∙ rw flat read

fault_read : (before : List Stmt) (number : ℕ) (line : List ℕ) (kind : FaultKind) (blocks : List OpenBlock) → run [] before ≡ Ok blocks
    → IsFaulty before number line kind → line_at line blocks ≡ Err kind
fault_read before number line kind blocks e (token t) = refused_at line blocks kind t
fault_read before number line kind blocks e (shape {first} {more} t never) = shape_read line first more blocks (statement (first ∷ more)) t never refl
fault_read before number line kind blocks e (depth {depth} {said} spells deep) = deep_read before line depth said blocks e spells deep
fault_read before number line kind blocks e (place {depth} {said} spells shallow never) = place_read before number line depth said blocks e spells shallow never

fault_verdict : {lines : List (List ℕ)} {number : ℕ} {kind : FaultKind} → HaveFault lines number kind → verdict 1 [] lines ≡ Err (number, kind)
fault_verdict (at_line {before} {line} {stmts} {kind} rest says goes fault) =
    let (blocks, e) = was_read stmts goes in
    let count : 1 + length before ≡ length before + 1 = omega arith in
    says_verdict (line ∷ rest) [] blocks says e
    ∙ rw (fault_read stmts (length before + 1) line kind blocks e fault, count) refl
fault_verdict (at_end {lines} {stmts} says goes never) =
    let (blocks, e) = was_read stmts goes in
    let count : 1 + length lines ≡ length lines + 1 = omega arith in
    ap (verdict 1 []) (sym (append-nil lines)) ∙ says_verdict [] [] blocks says e ∙ rw count (left_open (length lines + 1) stmts blocks e never)
  where
    left_open : (number : ℕ) (stmts : List Stmt) (blocks : List OpenBlock) → run [] stmts ≡ Ok blocks → ¬ AreNested stmts
        → onto stmts (verdict number blocks []) ≡ Err (number, fault.Open)
    left_open number stmts [] e never = absurd (never (run_nested stmts e))
    left_open number stmts (inner ∷ around) e never = refl

tree_verdict : (lines : List (List ℕ)) (stmts : List Stmt) → HaveTree lines stmts → verdict 1 [] lines ≡ Ok stmts
tree_verdict lines stmts (says, nested) =
    ap (verdict 1 []) (sym (append-nil lines)) ∙ says_verdict [] [] [] says (nested_run stmts nested) ∙ ap Ok (append-nil stmts)

pub outcome_is : (text : List ℕ) (v : Verdict) → IsOutcome text v → verdict 1 [] (lines_of text) ≡ v
outcome_is text (Ok stmts) tree = tree_verdict (lines_of text) stmts tree
outcome_is text (Err f) fault = fault_verdict fault

-- each text has one outcome
pub one_outcome : OneOutcome
one_outcome text = (verdict 1 [] (lines_of text), verdict_is text, λ other is. sym (outcome_is text other is))

-- what was answered is the one outcome
pub tree_found : (text : List ℕ) (found stmts : List Stmt) → verdict 1 [] (lines_of text) ≡ Ok found → IsTree text stmts → found ≡ stmts
tree_found text found stmts e is =
    let same : Ok found ≡ Ok stmts = sym e ∙ outcome_is text (Ok stmts) is in
    ap (λ r. elim r [ Ok x ↦ x | Err f ↦ found ]) same

pub tree_no_fault : (text : List ℕ) (found : List Stmt) (number : ℕ) (kind : FaultKind) → verdict 1 [] (lines_of text) ≡ Ok found
    → IsFirstFault text number kind → ⊥
tree_no_fault text found number kind e is = ok_not_err found (number, kind) (verdict 1 [] (lines_of text)) e (outcome_is text (Err (number, kind)) is)
  where
    ok_not_err : (x : List Stmt) (f : ℕ × FaultKind) (v : Verdict) → v ≡ Ok x → v ≡ Err f → ⊥
    ok_not_err x f (Ok y) a b = absurd cc
    ok_not_err x f (Err g) a b = absurd cc

pub refused_tree : (text : List ℕ) (reason : ParseRefusal) → FailsAt reason (verdict 1 [] (lines_of text)) → (stmts : List Stmt) → IsTree text stmts
    → reason ≡ refusal.Memory
refused_tree text refusal.Memory f stmts is = refl
refused_tree text (refusal.Fault number kind) f stmts is = let fault : IsFirstFault text number kind = rw f at (verdict_is text) in
    absurd (tree_no_fault text stmts number kind (outcome_is text (Ok stmts) is) fault)

pub refused_fault : (text : List ℕ) (reason : ParseRefusal) → FailsAt reason (verdict 1 [] (lines_of text)) → (number : ℕ) (kind : FaultKind)
    → IsFirstFault text number kind
    → (reason ≡ refusal.Fault number kind) ⊎ (reason ≡ refusal.Memory)
refused_fault text refusal.Memory f number kind is = inr refl
refused_fault text (refusal.Fault line other) f number kind is = inl (
    let same : Err (line, other) ≡ Err (number, kind) = sym f ∙ outcome_is text (Err (number, kind)) is in
    let pair : (line, other) ≡ (number, kind) = ap (λ (r : Verdict). elim r [ Ok x ↦ (number, kind) | Err g ↦ g ]) same in
    ap (λ (g : ℕ × FaultKind). refusal.Fault g.0 g.1) pair)
