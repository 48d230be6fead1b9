-- Each step of the walk goes on with what its blocks leave to do.
use Rattle.std.specs.Prelude.{if◌then◌else◌}
use Rattle.std.proofs.Common.{◌≡◌, ℕ, ◌+◌, ℤ, pos, ◌+ℤ◌, ◌-ℤ◌, int_lt, Bool, true, false, List, [], ◌∷◌, ◌++◌, map, drop, slice_get, Some, None}
use Rattle.std.proofs.Common.{Result, Ok, Err, refl, ap, sym, subst, ◌∙◌}
use Rattle.std.proofs.lemmas.List.{append_assoc, append-nil}
use Rattle.task_tree.specs.declared.tree.Stmt.{Stmt}
use Rattle.task_tree.specs.declared.tree.What.{What}
use Rattle.task_tree.specs.declared.tree.What.TheVariants as what
use Rattle.task_tree.specs.Term.{Term}
use Rattle.task_tree.specs.Blocks.{Block, Block as block, AccessLine, is_plain, stmt, access_stmt, written}
use Rattle.task_unroll.specs.declared.refusal.ExpandRefusal.{ExpandRefusal}
use Rattle.task_unroll.specs.declared.levels.Level.TheVariants as level
use Rattle.task_unroll.specs.declared.refusal.ExpandRefusal.TheVariants as refusal
use Rattle.task_unroll.specs.Unrolling.{◌>>=◌, Fails}
use Rattle.task_unroll.specs.States.{State}
use Rattle.task_unroll.specs.Counting.{stepped}
use Rattle.task_unroll.specs.Acts.{with_variable, task_begun, access_made, task_ended}
use Rattle.task_unroll.specs.Blocks.{act, accesses_made, turns_of, turns, bounds, holds, unrolled}
use Rattle.task_unroll.specs.Ends.{close_of}
use Rattle.task_unroll.specs.Steps.{Spot, spot, variable_of, parts, turn, loop_met, branch, test_met, branch_left, outer, turn_ended, block_ended}
use Rattle.task_unroll.specs.Steps.{task_met, access_met, line_met, step_to, step}
use Rattle.task_unroll.proofs.PlaceLemmas.{head_at, none_at, end_at, next_at}
use Rattle.task_unroll.proofs.EndLemmas.{closed_at}
use Rattle.task_unroll.proofs.TurnLemmas.{no_turn, one_turn}
use Rattle.task_unroll.proofs.Frames.{Ahead, Ahead as ahead, written_ahead, done_ahead, Frame, Frame as frame, tail, after, level_of, IsSet, AreSet}
use Rattle.task_unroll.proofs.Frames.{IsHere, IsAt, Agrees}

assoc : {A B C : Type 0} (c : Result A ExpandRefusal) (f : A → Result B ExpandRefusal) (g : B → Result C ExpandRefusal)
    → ((c >>= f) >>= g) ≡ (c >>= (λ x. f x >>= g))
assoc (Ok x) f g = refl
assoc (Err e) f g = refl

-- a refusal is the same on both sides, or both go on
lift : {X : Type 0} (stmts : List Stmt) (due : Result State ExpandRefusal) (c : Result X ExpandRefusal) (f : X → Result Spot ExpandRefusal)
    (g : X → Result State ExpandRefusal) (k : State → Result State ExpandRefusal)
    → ((x : X) → due ≡ (g x >>= k) → Agrees stmts (f x) due) → due ≡ ((c >>= g) >>= k) → Agrees stmts (c >>= f) due
lift stmts due (Ok x) f g k h e = h x e
lift stmts due (Err refusal) f g k h e = e

nothing_written : {s : Stmt} {stmts : List Stmt} → [] ≡ s ∷ stmts → ⊥
nothing_written e = cc

ok_last : {A : Type 0} (c : Result A ExpandRefusal) → (c >>= Ok) ≡ c
ok_last (Ok x) = refl
ok_last (Err e) = refl

body_due : (c : Result State ExpandRefusal) (line : ℕ) (rest : Block) (frames : List Frame)
    → ((c >>= (λ v. task_ended line v >>= unrolled rest)) >>= after frames) ≡ (c >>= (λ v. task_ended line v >>= (λ t. unrolled rest t >>= after frames)))
body_due (Ok s) line rest frames = assoc (task_ended line s) _ _
body_due (Err e) line rest frames = refl

task_due_by : (c : Result State ExpandRefusal) (body : Block) (line : ℕ) (rest : Block) (frames : List Frame)
    → ((c >>= (λ u. unrolled body u >>= (λ v. task_ended line v >>= unrolled rest))) >>= after frames)
    ≡ ((c >>= unrolled body) >>= (λ v. task_ended line v >>= (λ t. unrolled rest t >>= after frames)))
task_due_by (Ok s) body line rest frames = body_due (unrolled body s) line rest frames
task_due_by (Err e) body line rest frames = refl

-- what a task does behind its beginning: its accesses, its body, and what is behind it
task_due : (accesses : List AccessLine) (body : Block) (line : ℕ) (rest : Block) (frames : List Frame) (s : State)
    → ((accesses_made accesses s >>= (λ u. unrolled body u >>= (λ v. task_ended line v >>= unrolled rest))) >>= after frames)
    ≡ ((accesses_made accesses s >>= unrolled body) >>= (λ v. task_ended line v >>= (λ t. unrolled rest t >>= after frames)))
task_due accesses body line rest frames s = task_due_by (accesses_made accesses s) body line rest frames

-- a turn of a `for`, or what stands behind it
turn_agrees_by : (stmts : List Stmt) (due : Result State ExpandRefusal) (first : ℕ) (x to : ℤ) (name : List ℕ) (body : Block) (last : ℕ) (rest : Block)
    (frames : List Frame) (behind : ℕ) (w : Spot) (more : Bool)
    → int_lt x to ≡ more
    → IsSet stmts first name body (stmt last what.End ∷ (written rest ++ tail frames)) → drop behind stmts ≡ written rest ++ tail frames
    → w.levels ≡ map level_of frames → AreSet stmts frames
    → due ≡ (turns (unrolled body) name x (turns_of (to -ℤ x)) w.state >>= (λ t. unrolled rest t >>= after frames))
    → Agrees stmts (turn name (record { at = first; next = x; to = to }) behind w) due
unfolding turn
turn_agrees_by stmts due first x to name body last rest frames behind w true h set text levels outside e =
    rw h (lift stmts due (stepped w.state) _ _ _
    (λ s d. (
      ahead.Text body,
      frame.Turning first name (x +ℤ pos 1) to body last rest ∷ frames,
      record {
        text = set.text;
        levels = ap (λ more. level.Turns (record { at = first; next = x +ℤ pos 1; to = to }) ∷ more) levels;
        set = (set, outside);
        due_is = d ∙ assoc (unrolled body (with_variable name x s)) _ _;
      },
    ))
    (e ∙ ap (λ n. turns (unrolled body) name x n w.state >>= (λ t. unrolled rest t >>= after frames)) (one_turn x to h)))
turn_agrees_by stmts due first x to name body last rest frames behind w false h set text levels outside e =
    rw h (
      ahead.Text rest,
      frames,
      record {
        text = text;
        levels = levels;
        set = outside;
        due_is = e ∙ ap (λ n. turns (unrolled body) name x n w.state >>= (λ t. unrolled rest t >>= after frames)) (no_turn x to h);
      },
    )

turn_agrees : (stmts : List Stmt) (due : Result State ExpandRefusal) (first : ℕ) (x to : ℤ) (name : List ℕ) (body : Block) (last : ℕ) (rest : Block)
    (frames : List Frame) (behind : ℕ) (w : Spot)
    → IsSet stmts first name body (stmt last what.End ∷ (written rest ++ tail frames)) → drop behind stmts ≡ written rest ++ tail frames
    → w.levels ≡ map level_of frames → AreSet stmts frames
    → due ≡ (turns (unrolled body) name x (turns_of (to -ℤ x)) w.state >>= (λ t. unrolled rest t >>= after frames))
    → Agrees stmts (turn name (record { at = first; next = x; to = to }) behind w) due
turn_agrees stmts due first x to name body last rest frames behind w =
    turn_agrees_by stmts due first x to name body last rest frames behind w (int_lt x to) refl

-- a statement that is a line by itself is met as one
plain_step : (stmts : List Stmt) (line : ℕ) (said : What) (w : Spot) → is_plain said ≡ true → step stmts line said w ≡ line_met line said w
unfolding step step_to
plain_step stmts line (what.Array name len) w h = refl
plain_step stmts line (what.Show name) w h = refl
plain_step stmts line (what.Comm name) w h = refl
plain_step stmts line (what.Let name value) w h = refl
plain_step stmts line (what.For name from to) w h = absurd (cc)
plain_step stmts line (what.If test) w h = absurd (cc)
plain_step stmts line what.Else w h = absurd (cc)
plain_step stmts line what.End w h = absurd (cc)
plain_step stmts line what.Taskwait w h = refl
plain_step stmts line what.Task w h = absurd (cc)
plain_step stmts line (what.Touch mode span) w h = absurd (cc)
plain_step stmts line what.Do w h = absurd (cc)
plain_step stmts line (what.Kern kernel spans values) w h = refl
plain_step stmts line (what.Posting how handle span peer tag comm status) w h = refl
plain_step stmts line (what.Waiting later handles status) w h = refl

-- a line
line_agrees : (stmts : List Stmt) (due : Result State ExpandRefusal) (w : Spot) (frames : List Frame) (line : ℕ) (said : What) (ahead : Ahead)
    → w.levels ≡ map level_of frames → AreSet stmts frames
    → drop (w.place + 1) stmts ≡ written_ahead ahead ++ tail frames
    → due ≡ ((act line said w.state >>= done_ahead ahead) >>= after frames)
    → Agrees stmts (line_met line said w) due
unfolding line_met
line_agrees stmts due w frames line said ahead levels set text e =
    lift stmts due (act line said w.state) _ _ _ (λ s d. (ahead, frames, record { text = text; levels = levels; set = set; due_is = d })) e

-- an access line
access_agrees : (stmts : List Stmt) (due : Result State ExpandRefusal) (w : Spot) (frames : List Frame) (access : AccessLine) (accesses : List AccessLine)
    (middle : ℕ) (body : Block)
    → w.levels ≡ map level_of frames → AreSet stmts frames
    → drop (w.place + 1) stmts ≡ written_ahead (ahead.Lines accesses middle body) ++ tail frames
    → due ≡ (done_ahead (ahead.Lines (access ∷ accesses) middle body) w.state >>= after frames)
    → Agrees stmts (access_met access.line access.mode access.span w) due
unfolding access_met
access_agrees stmts due w frames access accesses middle body levels set text e =
    lift stmts due (access_made access.line access.mode access.span w.state) _ _ _
    (λ s d. (ahead.Lines accesses middle body, frames, record { text = text; levels = levels; set = set; due_is = d }))
    (e ∙ ap (λ c. c >>= after frames) (assoc (access_made access.line access.mode access.span w.state) (accesses_made accesses) (unrolled body)))

-- `for`
loop_agrees : (stmts : List Stmt) (due : Result State ExpandRefusal) (w : Spot) (frames : List Frame) (line : ℕ) (name : List ℕ) (from to : Term)
    (body : Block) (last : ℕ) (rest : Block)
    → IsHere stmts w due (ahead.Text (block.Loop line name from to body last rest)) frames
    → Agrees stmts (loop_met (close_of stmts (w.place + 1)) line name from to w) due
unfolding loop_met
loop_agrees stmts due w frames line name from to body last rest h =
    let text = next_at stmts w.place _ _ h.text ∙ append_assoc (written body) (stmt last what.End ∷ written rest) (tail frames) in
    let behind = next_at stmts (close_of stmts (w.place + 1)) _ _ (closed_at stmts (w.place + 1) body (stmt last what.End) _ refl text) in
    lift stmts due (bounds line name from to w.state) _ _ _
    (λ b d. turn_agrees stmts due w.place b.1.0 b.1.1 name body last rest frames (close_of stmts (w.place + 1) + 1) (record w { state = b.0 })
    (record { variable = ap variable_of (head_at stmts w.place _ _ h.text); text = text }) behind h.levels h.set (d
    ∙ assoc (turns (unrolled body) name b.1.0 (turns_of (b.1.1 -ℤ b.1.0)) b.0) _ _))
    h.due_is

-- `if` without `else`
when_branch : (stmts : List Stmt) (due : Result State ExpandRefusal) (w : Spot) (s : State) (frames : List Frame) (body : Block) (last : ℕ) (rest : Block)
    (holds : Bool)
    → w.levels ≡ map level_of frames → AreSet stmts frames
    → drop (w.place + 1) stmts ≡ written body ++ (stmt last what.End ∷ (written rest ++ tail frames))
    → drop (close_of stmts (w.place + 1)) stmts ≡ stmt last what.End ∷ (written rest ++ tail frames)
    → due ≡ (((if holds then unrolled body s else Ok s) >>= unrolled rest) >>= after frames)
    → IsAt stmts (branch stmts (close_of stmts (w.place + 1)) holds (record w { state = s })) due
unfolding branch
when_branch stmts due w s frames body last rest true levels set text end e = (
  ahead.Text body,
  frame.Last last rest ∷ frames,
  record {
    text = text;
    levels = ap (λ more. level.Branch ∷ more) levels;
    set = set;
    due_is = e
        ∙ assoc (unrolled body s) _ _;
  },
)
when_branch stmts due w s frames body last rest false levels set text end e =
    rw (ap parts (head_at stmts (close_of stmts (w.place + 1)) _ _ end))
    (ahead.Text rest, frames, record { text = next_at stmts (close_of stmts (w.place + 1)) _ _ end; levels = levels; set = set; due_is = e })

when_agrees : (stmts : List Stmt) (due : Result State ExpandRefusal) (w : Spot) (frames : List Frame) (line : ℕ) (test : Term) (body : Block) (last : ℕ)
    (rest : Block)
    → IsHere stmts w due (ahead.Text (block.When line test body last rest)) frames
    → Agrees stmts (test_met stmts line test (close_of stmts (w.place + 1)) w) due
unfolding test_met
when_agrees stmts due w frames line test body last rest h =
    let text = next_at stmts w.place _ _ h.text ∙ append_assoc (written body) (stmt last what.End ∷ written rest) (tail frames) in
    let end = closed_at stmts (w.place + 1) body (stmt last what.End) (written rest ++ tail frames) refl text in
    lift stmts due (holds line test w.state) _ _ _
    (λ b d. when_branch stmts due w b.0 frames body last rest b.1 h.levels h.set text end d)
    h.due_is

-- `if` with `else`
choice_branch : (stmts : List Stmt) (due : Result State ExpandRefusal) (w : Spot) (s : State) (frames : List Frame) (body : Block) (middle : ℕ)
    (other : Block) (last : ℕ) (rest : Block) (holds : Bool)
    → w.levels ≡ map level_of frames → AreSet stmts frames
    → drop (w.place + 1) stmts ≡ written body ++ (stmt middle what.Else ∷ (written other ++ (stmt last what.End ∷ (written rest ++ tail frames))))
    → drop (close_of stmts (w.place + 1)) stmts ≡ stmt middle what.Else ∷ (written other ++ (stmt last what.End ∷ (written rest ++ tail frames)))
    → due ≡ (((if holds then unrolled body s else unrolled other s) >>= unrolled rest) >>= after frames)
    → IsAt stmts (branch stmts (close_of stmts (w.place + 1)) holds (record w { state = s })) due
unfolding branch
choice_branch stmts due w s frames body middle other last rest true levels set text end e = (
  ahead.Text body,
  frame.First middle other last rest ∷ frames,
  record {
    text = text;
    levels = ap (λ more. level.Branch ∷ more) levels;
    set = set;
    due_is = e ∙ assoc (unrolled body s) _ _;
  },
)
choice_branch stmts due w s frames body middle other last rest false levels set text end e =
    rw (ap parts (head_at stmts (close_of stmts (w.place + 1)) _ _ end)) (
      ahead.Text other,
      frame.Last last rest ∷ frames,
      record {
        text = next_at stmts (close_of stmts (w.place + 1)) _ _ end;
        levels = ap (λ more. level.Branch ∷ more) levels;
        set = set;
        due_is = e ∙ assoc (unrolled other s) _ _;
      },
    )

choice_agrees : (stmts : List Stmt) (due : Result State ExpandRefusal) (w : Spot) (frames : List Frame) (line : ℕ) (test : Term) (body : Block) (middle : ℕ)
    (other : Block) (last : ℕ) (rest : Block)
    → IsHere stmts w due (ahead.Text (block.Choice line test body middle other last rest)) frames
    → Agrees stmts (test_met stmts line test (close_of stmts (w.place + 1)) w) due
unfolding test_met
choice_agrees stmts due w frames line test body middle other last rest h =
    let text = next_at stmts w.place _ _ h.text
    ∙ append_assoc (written body) (stmt middle what.Else ∷ (written other ++ (stmt last what.End ∷ written rest))) (tail frames)
    ∙ ap (λ more. written body ++ (stmt middle what.Else ∷ more)) (append_assoc (written other) (stmt last what.End ∷ written rest) (tail frames)) in
    let end = closed_at stmts (w.place + 1) body (stmt middle what.Else) (written other ++ (stmt last what.End ∷ (written rest ++ tail frames))) refl text in
    lift stmts due (holds line test w.state) _ _ _
    (λ b d. choice_branch stmts due w b.0 frames body middle other last rest b.1 h.levels h.set text end d)
    h.due_is

-- `else`, behind the branch that was taken
else_agrees : (stmts : List Stmt) (due : Result State ExpandRefusal) (w : Spot) (frames : List Frame) (middle : ℕ) (other : Block) (last : ℕ) (rest : Block)
    → IsHere stmts w due (ahead.Text block.Done) (frame.First middle other last rest ∷ frames)
    → IsAt stmts (branch_left (close_of stmts (w.place + 1)) w) due
unfolding branch_left
else_agrees stmts due w frames middle other last rest h =
    let text = next_at stmts w.place _ _ h.text in
    let end = closed_at stmts (w.place + 1) other (stmt last what.End) (written rest ++ tail frames) refl text in (
      ahead.Text rest,
      frames,
      record {
        text = next_at stmts (close_of stmts (w.place + 1)) _ _ end;
        levels = ap outer h.levels;
        set = h.set;
        due_is = h.due_is;
      },
    )

-- `end` of a turn
turn_end_agrees : (stmts : List Stmt) (due : Result State ExpandRefusal) (w : Spot) (frames : List Frame) (first : ℕ) (name : List ℕ) (x to : ℤ)
    (body : Block) (last : ℕ) (rest : Block)
    → IsHere stmts w due (ahead.Text block.Done) (frame.Turning first name x to body last rest ∷ frames)
    → Agrees stmts (block_ended stmts w) due
unfolding block_ended turn_ended
turn_end_agrees stmts due w frames first name x to body last rest h =
    rw (h.levels, h.set.0.variable)
    (turn_agrees stmts due first x to name body last rest frames (w.place + 1) (record w {
      levels =
          map level_of frames;
    }) h.set.0 (next_at stmts w.place _ _ h.text) refl h.set.1 h.due_is)

-- `end` of a branch
branch_end_agrees : (stmts : List Stmt) (due : Result State ExpandRefusal) (w : Spot) (frames : List Frame) (last : ℕ) (rest : Block)
    → IsHere stmts w due (ahead.Text block.Done) (frame.Last last rest ∷ frames)
    → Agrees stmts (block_ended stmts w) due
unfolding block_ended
branch_end_agrees stmts due w frames last rest h =
    rw h.levels (ahead.Text rest, frames, record { text = next_at stmts w.place _ _ h.text; levels = refl; set = h.set; due_is = h.due_is })

-- `end` of a task
task_end_agrees : (stmts : List Stmt) (due : Result State ExpandRefusal) (w : Spot) (frames : List Frame) (line last : ℕ) (rest : Block)
    → IsHere stmts w due (ahead.Text block.Done) (frame.Working line last rest ∷ frames)
    → Agrees stmts (block_ended stmts w) due
unfolding block_ended
task_end_agrees stmts due w frames line last rest h =
    rw h.levels (lift stmts due (task_ended line w.state) _ _ Ok
    (λ s d. (
      ahead.Text rest,
      frames,
      record {
        text = next_at stmts w.place _ _ h.text;
        levels = refl;
        set = h.set;
        due_is = d
            ∙ ok_last (unrolled rest s >>= after frames);
      },
    ))
    (h.due_is ∙ sym (ok_last _)))

-- `task`
task_agrees : (stmts : List Stmt) (due : Result State ExpandRefusal) (w : Spot) (frames : List Frame) (line : ℕ) (accesses : List AccessLine) (middle : ℕ)
    (body : Block) (last : ℕ) (rest : Block)
    → IsHere stmts w due (ahead.Text (block.Work line accesses middle body last rest)) frames
    → Agrees stmts (task_met line w) due
unfolding task_met
task_agrees stmts due w frames line accesses middle body last rest h =
    let text = next_at stmts w.place _ _ h.text
    ∙ append_assoc (map access_stmt accesses) (stmt middle what.Do ∷ (written body ++ (stmt last what.End ∷ written rest))) (tail frames)
    ∙ ap (λ more. map access_stmt accesses ++ (stmt middle what.Do ∷ more)) (append_assoc (written body) (stmt last what.End ∷ written rest) (tail frames))
    ∙ sym (append_assoc (map access_stmt accesses) (stmt middle what.Do ∷ written body) (stmt last what.End ∷ (written rest ++ tail frames))) in
    lift stmts due (task_begun line w.state) _ _ _
    (λ s d. (
      ahead.Lines accesses middle body,
      frame.Working line last rest ∷ frames,
      record {
        text = text;
        levels = ap (λ more. level.Task line ∷ more) h.levels;
        set = h.set;
        due_is = d ∙ task_due accesses body line rest frames s;
      },
    ))
    h.due_is

-- the statement at hand is the one that the blocks write
stands : (stmts : List Stmt) (due : Result State ExpandRefusal) (w : Spot) (s x : Stmt) (rest : List Stmt)
    → slice_get stmts w.place ≡ Some s → drop w.place stmts ≡ x ∷ rest → Agrees stmts (step stmts x.line x.what w) due
    → Agrees stmts (step stmts s.line s.what w) due
stands stmts due w s x rest here text h =
    let written_here = head_at stmts w.place x rest text in
    let same : x ≡ s = cc in
    subst (λ (y : Stmt). Agrees stmts (step stmts y.line y.what w) due) same h

step_agrees_by : (stmts : List Stmt) (due : Result State ExpandRefusal) (w : Spot) (s : Stmt) (ahead : Ahead) (frames : List Frame)
    → slice_get stmts w.place ≡ Some s → IsHere stmts w due ahead frames → Agrees stmts (step stmts s.line s.what w) due
unfolding step step_to
step_agrees_by stmts due w s (ahead.Text block.Done) [] here h = absurd (none_at stmts w.place s h.text here)
step_agrees_by stmts due w s (ahead.Text block.Done) (frame.Turning first name x to body last rest ∷ frames) here h =
    stands stmts due w s _ _ here h.text (turn_end_agrees stmts due w frames first name x to body last rest h)
step_agrees_by stmts due w s (ahead.Text block.Done) (frame.First middle other last rest ∷ frames) here h =
    stands stmts due w s _ _ here h.text (else_agrees stmts due w frames middle other last rest h)
step_agrees_by stmts due w s (ahead.Text block.Done) (frame.Last last rest ∷ frames) here h =
    stands stmts due w s _ _ here h.text (branch_end_agrees stmts due w frames last rest h)
step_agrees_by stmts due w s (ahead.Text block.Done) (frame.Working line last rest ∷ frames) here h =
    stands stmts due w s _ _ here h.text (task_end_agrees stmts due w frames line last rest h)
step_agrees_by stmts due w s (ahead.Text (block.Plain line said plain rest)) frames here h =
    stands stmts due w s _ _ here h.text (subst (λ (c : Result Spot ExpandRefusal). Agrees stmts c due) (sym (plain_step stmts line said w plain))
    (line_agrees stmts due w frames line said (ahead.Text rest) h.levels h.set (next_at stmts w.place _ _ h.text) h.due_is))
step_agrees_by stmts due w s (ahead.Text (block.Loop line name from to body last rest)) frames here h =
    stands stmts due w s _ _ here h.text (loop_agrees stmts due w frames line name from to body last rest h)
step_agrees_by stmts due w s (ahead.Text (block.When line test body last rest)) frames here h =
    stands stmts due w s _ _ here h.text (when_agrees stmts due w frames line test body last rest h)
step_agrees_by stmts due w s (ahead.Text (block.Choice line test body middle other last rest)) frames here h =
    stands stmts due w s _ _ here h.text (choice_agrees stmts due w frames line test body middle other last rest h)
step_agrees_by stmts due w s (ahead.Text (block.Work line accesses middle body last rest)) frames here h =
    stands stmts due w s _ _ here h.text (task_agrees stmts due w frames line accesses middle body last rest h)
step_agrees_by stmts due w s (ahead.Lines [] middle body) frames here h =
    stands stmts due w s _ _ here h.text (line_agrees stmts due w frames middle what.Do (ahead.Text body) h.levels h.set (next_at stmts w.place _ _ h.text)
    h.due_is)
step_agrees_by stmts due w s (ahead.Lines (access ∷ accesses) middle body) frames here h =
    stands stmts due w s _ _ here h.text (access_agrees stmts due w frames access accesses middle body h.levels h.set (next_at stmts w.place _ _ h.text)
    h.due_is)

-- one step from where the walk stands
pub step_agrees : (stmts : List Stmt) (due : Result State ExpandRefusal) (w : Spot) (s : Stmt)
    → slice_get stmts w.place ≡ Some s → IsAt stmts w due → Agrees stmts (step stmts s.line s.what w) due
step_agrees stmts due w s here h = step_agrees_by stmts due w s h.0 h.1 here h.2

-- at first
pub starts : (stmts : List Stmt) (whole : Block) (s : State) → written whole ≡ stmts → IsAt stmts (spot s 0 []) (unrolled whole s)
starts stmts whole s e = (
  ahead.Text whole,
  [],
  record { text = sym e ∙ sym (append-nil (written whole)); levels = refl; set = tt; due_is = sym (ok_last (unrolled whole s)) },
)

-- at last: no block is open any more, and nothing is left to do
ends_by : (stmts : List Stmt) (due : Result State ExpandRefusal) (w : Spot) (ahead : Ahead) (frames : List Frame)
    → drop w.place stmts ≡ [] → IsHere stmts w due ahead frames → due ≡ Ok w.state
ends_by stmts due w (ahead.Text block.Done) [] nothing h = h.due_is
ends_by stmts due w (ahead.Text block.Done) (frame.Turning first name x to body last rest ∷ frames) nothing h = absurd (nothing_written (sym nothing ∙ h.text))
ends_by stmts due w (ahead.Text block.Done) (frame.First middle other last rest ∷ frames) nothing h = absurd (nothing_written (sym nothing ∙ h.text))
ends_by stmts due w (ahead.Text block.Done) (frame.Last last rest ∷ frames) nothing h = absurd (nothing_written (sym nothing ∙ h.text))
ends_by stmts due w (ahead.Text block.Done) (frame.Working line last rest ∷ frames) nothing h = absurd (nothing_written (sym nothing ∙ h.text))
ends_by stmts due w (ahead.Text (block.Plain line said plain rest)) frames nothing h = absurd (nothing_written (sym nothing ∙ h.text))
ends_by stmts due w (ahead.Text (block.Loop line name from to body last rest)) frames nothing h = absurd (nothing_written (sym nothing ∙ h.text))
ends_by stmts due w (ahead.Text (block.When line test body last rest)) frames nothing h = absurd (nothing_written (sym nothing ∙ h.text))
ends_by stmts due w (ahead.Text (block.Choice line test body middle other last rest)) frames nothing h = absurd (nothing_written (sym nothing ∙ h.text))
ends_by stmts due w (ahead.Text (block.Work line accesses middle body last rest)) frames nothing h = absurd (nothing_written (sym nothing ∙ h.text))
ends_by stmts due w (ahead.Lines [] middle body) frames nothing h = absurd (nothing_written (sym nothing ∙ h.text))
ends_by stmts due w (ahead.Lines (access ∷ accesses) middle body) frames nothing h = absurd (nothing_written (sym nothing ∙ h.text))

pub ends : (stmts : List Stmt) (due : Result State ExpandRefusal) (w : Spot) → slice_get stmts w.place ≡ None → IsAt stmts w due → due ≡ Ok w.state
ends stmts due w nothing h = ends_by stmts due w h.0 h.1 (end_at stmts w.place nothing) h.2

-- what a step answers is what is due
pub goes_on : (stmts : List Stmt) (due : Result State ExpandRefusal) (w v : Spot) (s : Stmt)
    → slice_get stmts w.place ≡ Some s → IsAt stmts w due → step stmts s.line s.what w ≡ Ok v → IsAt stmts v due
goes_on stmts due w v s here h e = subst (λ (c : Result Spot ExpandRefusal). Agrees stmts c due) e (step_agrees stmts due w s here h)

pub refuses : (stmts : List Stmt) (due : Result State ExpandRefusal) (w : Spot) (s : Stmt) (e : ExpandRefusal)
    → slice_get stmts w.place ≡ Some s → IsAt stmts w due → Fails e (step stmts s.line s.what w) → Fails e due
refuses stmts due w s (refusal.Fault line kind) here h e = subst (λ (c : Result Spot ExpandRefusal). Agrees stmts c due) e (step_agrees stmts due w s here h)
refuses stmts due w s (refusal.Limit which) here h e = subst (λ (c : Result Spot ExpandRefusal). Agrees stmts c due) e (step_agrees stmts due w s here h)
refuses stmts due w s refusal.Memory here h e = tt
