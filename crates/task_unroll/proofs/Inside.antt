-- What is kept through every block that stands inside another, whatever its turns and its tests.
use Rattle.std.proofs.Common.{◌≡◌, ℕ, zero, suc, ◌+◌, Bool, true, false, List, [], ◌∷◌, ◌++◌, Option, Some, None, Result, Ok, Err, refl, sym, ap, ◌∙◌, subst}
use Rattle.std.specs.Prelude.{ℤ, pos, negsuc, ◌+ℤ◌, ◌-ℤ◌, not, if◌then◌else◌, ⊤}
use Rattle.task_tree.specs.Term.{Term}
use Rattle.task_tree.specs.Blocks.{Block, Block as block, AccessLine, Place, Place as place, stands, Nested}
use Rattle.task_tree.specs.declared.tree.What.{What}
use Rattle.task_tree.specs.declared.tree.What.TheVariants as what
use Rattle.task_names.specs.Scopes.{meaning_of, may_be_set}
use Rattle.task_names.specs.Values.{value, is_zero}
use Rattle.task_unroll.specs.declared.refusal.ExpandRefusal.{ExpandRefusal}
use Rattle.task_unroll.specs.Unrolling.{◌>>=◌}
use Rattle.task_unroll.specs.States.{State, scene}
use Rattle.task_unroll.specs.Counting.{stepped}
use Rattle.task_unroll.specs.Acts.{with_variable, variable_set, taskwait_met, access_made, task_begun, task_ended}
use Rattle.task_unroll.specs.Blocks.{act, accesses_made, turns_of, turns, bounds, holds, unrolled}
use Rattle.task_unroll.proofs.Results.{Holds, bind_by}
use Rattle.task_unroll.proofs.Chains.{at_step, holds_weaker, bind_at, bind_stepped}
use Rattle.task_unroll.proofs.Sound.{Stage, IsSound, IsMain, IsInside}
use Rattle.task_unroll.proofs.Outer.{Kept, step_sound, with_variable_sound, variable_set_sound, taskwait_met_sound}
use Rattle.task_unroll.proofs.Opening.{opening, closing, IsFresh, task_begun_sound, access_made_sound}
use Rattle.task_unroll.proofs.Doing.{kernel_done_sound, call_done_sound, wait_done_sound}
use Rattle.task_unroll.proofs.Ending.{task_ended_sound}

-- a fact that neither a step nor a variable changes
pub record Steady (Fact : State → Type 0) : Type 0 where
  pub step : (n : ℕ) (s : State) → Fact s → Fact (at_step n s)
  pub variable : (name : List ℕ) (x : ℤ) (s : State) → Fact s → Fact (with_variable name x s)

pub steady_main : (g : Stage) → Steady (IsMain g)
steady_main g = record {
  step = λ n s main. record { sound = step_sound g n s main.sound; no_accesses = main.no_accesses; no_body = main.no_body; closed = main.closed };
  variable = λ name x s main. record {
    sound = with_variable_sound g name x s main.sound;
    no_accesses = main.no_accesses;
    no_body = main.no_body;
    closed =
        main.closed;
  };
}

pub steady_inside : (g : Stage) → Steady (IsInside g)
steady_inside g = record {
  step = λ n s inside. record { sound = step_sound g n s inside.sound; one = inside.one };
  variable = λ name x s inside. record { sound = with_variable_sound g name x s inside.sound; one = inside.one };
}

-- the turns of a `for`
pub turns_keep : (Fact : State → Type 0) (body : State → Result State ExpandRefusal) → Steady Fact → ((s : State) → Fact s → Holds Fact (body s))
    → (name : List ℕ) (x : ℤ) (n : ℕ) (s : State) → Fact s → Holds Fact (turns body name x n s)
turns_keep Fact body steady keeps name x zero s fact = fact
turns_keep Fact body steady keeps name x (suc n) s fact = bind_stepped Fact s _ (λ k.
    bind_by Fact Fact (body (with_variable name x (at_step k s))) _
    (keeps (with_variable name x (at_step k s)) (steady.variable name x (at_step k s) (steady.step k s fact)))
    (λ t after. turns_keep Fact body steady keeps name (x +ℤ pos 1) n t after))

pub bounds_keep : (Fact : State → Type 0) → Steady Fact → (line : ℕ) (name : List ℕ) (from to : Term) (s : State) → Fact s
    → Holds (λ (b : State × (ℤ × ℤ)). Fact b.0) (bounds line name from to s)
unfolding bounds
bounds_keep Fact steady line name from to s fact = bind_stepped (λ (b : State × (ℤ × ℤ)). Fact b.0) s _ (λ n.
    bind_at (λ (b : State × (ℤ × ℤ)). Fact b.0) line (may_be_set (meaning_of s.names name)) _ (λ free free_is.
    bind_at (λ (b : State × (ℤ × ℤ)). Fact b.0) line (value (scene (at_step n s)) from) _ (λ x x_is.
    bind_at (λ (b : State × (ℤ × ℤ)). Fact b.0) line (value (scene (at_step n s)) to) _ (λ y y_is.
    steady.step n s fact))))

pub holds_keep : (Fact : State → Type 0) → Steady Fact → (line : ℕ) (test : Term) (s : State) → Fact s
    → Holds (λ (h : State × Bool). Fact h.0) (holds line test s)
unfolding holds
holds_keep Fact steady line test s fact = bind_stepped (λ (h : State × Bool). Fact h.0) s _ (λ n.
    bind_at (λ (h : State × Bool). Fact h.0) line (value (scene (at_step n s)) test) _ (λ x x_is.
    steady.step n s fact))

pub either_keeps : (Fact : State → Type 0) (b : Bool) (c d : Result State ExpandRefusal) → Holds Fact c → Holds Fact d → Holds Fact (if b then c else d)
either_keeps Fact true c d one other = one
either_keeps Fact false c d one other = other

-- a `for`, an `if`, and an `if` with its `else`, each with what stands behind it
pub loop_keeps : (Fact : State → Type 0) (Last : State → Type 0) → Steady Fact
    → (line : ℕ) (name : List ℕ) (from to : Term) (body : State → Result State ExpandRefusal) (rest : State → Result State ExpandRefusal)
    → ((s : State) → Fact s → Holds Fact (body s)) → ((s : State) → Fact s → Holds Last (rest s)) → (s : State) → Fact s
    → Holds Last (bounds line name from to s >>= λ b. turns body name b.1.0 (turns_of (b.1.1 -ℤ b.1.0)) b.0 >>= rest)
loop_keeps Fact Last steady line name from to body rest keeps ends s fact =
    bind_by (λ (b : State × (ℤ × ℤ)). Fact b.0) Last (bounds line name from to s) _ (bounds_keep Fact steady line name from to s fact) (λ b after.
    bind_by Fact Last (turns body name b.1.0 (turns_of (b.1.1 -ℤ b.1.0)) b.0) rest
    (turns_keep Fact body steady keeps name b.1.0 (turns_of (b.1.1 -ℤ b.1.0)) b.0 after) ends)

pub choice_keeps : (Fact : State → Type 0) (Last : State → Type 0) → Steady Fact
    → (line : ℕ) (test : Term) (body other : State → Result State ExpandRefusal) (rest : State → Result State ExpandRefusal)
    → ((s : State) → Fact s → Holds Fact (body s)) → ((s : State) → Fact s → Holds Fact (other s)) → ((s : State) → Fact s → Holds Last (rest s))
    → (s : State) → Fact s
    → Holds Last (holds line test s >>= λ h. (if h.1 then body h.0 else other h.0) >>= rest)
choice_keeps Fact Last steady line test body other rest keeps others ends s fact =
    bind_by (λ (h : State × Bool). Fact h.0) Last (holds line test s) _ (holds_keep Fact steady line test s fact) (λ h after.
    bind_by Fact Last (if h.1 then body h.0 else other h.0) rest (either_keeps Fact h.1 (body h.0) (other h.0) (keeps h.0 after) (others h.0 after)) ends)

accesses_keep : (g : Stage) (accesses : List AccessLine) (s : State) → IsFresh g s → Holds (IsFresh g) (accesses_made accesses s)
accesses_keep g [] s fresh = fresh
accesses_keep g (access ∷ more) s fresh =
    bind_by (IsFresh g) (IsFresh g) (access_made access.line access.mode access.span s) _ (access_made_sound g access.line access.mode access.span s fresh)
    (λ t after. accesses_keep g more t after)

inside_of : (g : Stage) (s t : State) → IsInside g s → Kept g s t → IsInside g t
inside_of g s t inside kept = record { sound = kept.sound; one = inside.one }

-- a statement in a task's body
act_inside : (g : Stage) (line : ℕ) (said : What) (s : State) → stands place.Body said ≡ true → IsInside g s → Holds (IsInside g) (act line said s)
act_inside g line (what.Array name len) s may inside = absurd (cc)
act_inside g line (what.Show name) s may inside = absurd (cc)
act_inside g line (what.Comm name) s may inside = absurd (cc)
act_inside g line (what.Let name e) s may inside =
    holds_weaker (Kept g s) (IsInside g) (variable_set line name e s) (λ t kept. inside_of g s t inside kept) (variable_set_sound g line name e s inside.sound)
act_inside g line (what.For name from to) s may inside = inside
act_inside g line (what.If test) s may inside = inside
act_inside g line what.Else s may inside = inside
act_inside g line what.End s may inside = inside
act_inside g line what.Taskwait s may inside = absurd (cc)
act_inside g line what.Task s may inside = inside
act_inside g line (what.Touch mode span) s may inside = inside
act_inside g line what.Do s may inside = inside
act_inside g line (what.Kern kind spans values) s may inside = kernel_done_sound g line kind spans.items values.items s inside
act_inside g line (what.Posting how handle span peer tag comm status) s may inside = call_done_sound g line how handle span peer tag comm status s inside
act_inside g line (what.Waiting later handles status) s may inside = wait_done_sound g line later handles.items status s inside

-- a task's body
pub body_keeps : (g : Stage) (b : Block) (k : ℕ) (s : State) → Nested k place.Body b → IsInside g s → Holds (IsInside g) (unrolled b s)
body_keeps g block.Done k s nested inside = inside
body_keeps g (block.Plain line said plain rest) k s nested inside =
    bind_by (IsInside g) (IsInside g) (act line said s) (unrolled rest) (act_inside g line said s nested.0 inside)
    (λ t after. body_keeps g rest k t nested.1 after)
body_keeps g (block.Loop line name from to body last rest) zero s nested inside = absurd nested
body_keeps g (block.Loop line name from to body last rest) (suc k) s nested inside =
    loop_keeps (IsInside g) (IsInside g) (steady_inside g) line name from to (unrolled body) (unrolled rest)
    (λ t before. body_keeps g body k t nested.0 before) (λ t after. body_keeps g rest (suc k) t nested.1 after) s inside
body_keeps g (block.When line test body last rest) zero s nested inside = absurd nested
body_keeps g (block.When line test body last rest) (suc k) s nested inside =
    choice_keeps (IsInside g) (IsInside g) (steady_inside g) line test (unrolled body) (λ (t : State). Ok t) (unrolled rest)
    (λ t before. body_keeps g body k t nested.0 before) (λ t before. before) (λ t after. body_keeps g rest (suc k) t nested.1 after) s inside
body_keeps g (block.Choice line test body middle other last rest) zero s nested inside = absurd nested
body_keeps g (block.Choice line test body middle other last rest) (suc k) s nested inside =
    choice_keeps (IsInside g) (IsInside g) (steady_inside g) line test (unrolled body) (unrolled other) (unrolled rest)
    (λ t before. body_keeps g body k t nested.0 before) (λ t before. body_keeps g other k t nested.1 before)
    (λ t after. body_keeps g rest (suc k) t nested.2 after) s inside
body_keeps g (block.Work line accesses middle body last rest) zero s nested inside = absurd nested
body_keeps g (block.Work line accesses middle body last rest) (suc k) s nested inside = absurd (no_task nested.0)
  where
    no_task : false ≡ true → ⊥
    no_task h = cc

-- a task, and what stands behind it
pub work_keeps : (g : Stage) (Last : State → Type 0) (line : ℕ) (accesses : List AccessLine) (body : Block) (k last_line : ℕ) (rest : State
    → Result State ExpandRefusal) → Nested k place.Body body
    → ((s : State) → IsMain g s → Holds Last (rest s)) → (s : State) → IsMain g s
    → Holds Last (task_begun line s >>= λ t. accesses_made accesses t >>= λ u. unrolled body u >>= λ v. task_ended line v >>= rest)
work_keeps g Last line accesses body k last_line rest nested ends s main =
    bind_by (IsFresh (opening g)) Last (task_begun line s) _ (task_begun_sound g line s main) (λ t begun.
    bind_by (IsFresh (opening g)) Last (accesses_made accesses t) _ (accesses_keep (opening g) accesses t begun) (λ u made.
    bind_by (IsInside (opening g)) Last (unrolled body u) _ (body_keeps (opening g) body k u nested made.inside) (λ v done.
    bind_by (IsMain (closing (opening g))) Last (task_ended line v) rest (task_ended_sound (opening g) line v done) (λ w after.
    ends w (subst (λ (n : ℕ). IsMain (record g { opened = n }) w) (sym main.closed) after)))))
