-- What is kept while the blocks of a text are unrolled for one rank.
use Rattle.std.proofs.Common.{◌≡◌, ℕ, zero, suc, ◌+◌, Bool, true, false, List, [], ◌∷◌, ◌++◌, Option, Some, None, Result, Ok, Err, refl, sym, ap, ◌∙◌, subst}
use Rattle.std.specs.Prelude.{ℤ, ⊤}
use Rattle.task_tree.specs.Term.{Term}
use Rattle.task_tree.specs.Blocks.{Block, Block as block, Place, Place as place, stands, Nested}
use Rattle.task_tree.specs.declared.tree.What.{What}
use Rattle.task_tree.specs.declared.tree.What.TheVariants as what
use Rattle.task_unroll.specs.States.{State}
use Rattle.task_unroll.specs.Acts.{variable_set, taskwait_met, shown}
use Rattle.task_unroll.specs.Blocks.{act, unrolled}
use Rattle.task_unroll.proofs.Results.{Holds, bind_by}
use Rattle.task_unroll.proofs.Chains.{holds_weaker}
use Rattle.task_unroll.proofs.Sound.{Stage, IsMain}
use Rattle.task_unroll.proofs.Outer.{Kept, variable_set_sound, taskwait_met_sound, shown_sound}
use Rattle.task_unroll.proofs.Making.{array_made_sound, comm_made_sound}
use Rattle.task_unroll.proofs.Inside.{steady_main, loop_keeps, choice_keeps, work_keeps}

main_of : (g : Stage) (s t : State) → IsMain g s → Kept g s t → IsMain g t
main_of g s t main kept = record {
  sound = kept.sound;
  no_accesses = kept.accesses ∙ main.no_accesses;
  no_body = kept.body
      ∙ main.no_body;
  closed = main.closed;
}

-- a statement in a `for` or an `if`, outside every task
act_main : (g : Stage) (line : ℕ) (said : What) (s : State) → stands place.Main said ≡ true → IsMain g s → Holds (IsMain g) (act line said s)
act_main g line (what.Array name len) s may main = absurd (cc)
act_main g line (what.Show name) s may main = absurd (cc)
act_main g line (what.Comm name) s may main = absurd (cc)
act_main g line (what.Let name e) s may main =
    holds_weaker (Kept g s) (IsMain g) (variable_set line name e s) (λ t kept. main_of g s t main kept) (variable_set_sound g line name e s main.sound)
act_main g line (what.For name from to) s may main = main
act_main g line (what.If test) s may main = main
act_main g line what.Else s may main = main
act_main g line what.End s may main = main
act_main g line what.Taskwait s may main =
    holds_weaker (Kept g s) (IsMain g) (taskwait_met s) (λ t kept. main_of g s t main kept) (taskwait_met_sound g s main.sound)
act_main g line what.Task s may main = main
act_main g line (what.Touch mode span) s may main = main
act_main g line what.Do s may main = main
act_main g line (what.Kern kind spans values) s may main = absurd (cc)
act_main g line (what.Posting how handle span peer tag comm status) s may main = absurd (cc)
act_main g line (what.Waiting later handles status) s may main = absurd (cc)

-- what stands in a `for` or an `if`, outside every task
pub main_keeps : (g : Stage) (b : Block) (k : ℕ) (s : State) → Nested k place.Main b → IsMain g s → Holds (IsMain g) (unrolled b s)
main_keeps g block.Done k s nested main = main
main_keeps g (block.Plain line said plain rest) k s nested main =
    bind_by (IsMain g) (IsMain g) (act line said s) (unrolled rest) (act_main g line said s nested.0 main) (λ t after. main_keeps g rest k t nested.1 after)
main_keeps g (block.Loop line name from to body last rest) zero s nested main = absurd nested
main_keeps g (block.Loop line name from to body last rest) (suc k) s nested main =
    loop_keeps (IsMain g) (IsMain g) (steady_main g) line name from to (unrolled body) (unrolled rest)
    (λ t before. main_keeps g body k t nested.0 before) (λ t after. main_keeps g rest (suc k) t nested.1 after) s main
main_keeps g (block.When line test body last rest) zero s nested main = absurd nested
main_keeps g (block.When line test body last rest) (suc k) s nested main =
    choice_keeps (IsMain g) (IsMain g) (steady_main g) line test (unrolled body) (λ (t : State). Ok t) (unrolled rest)
    (λ t before. main_keeps g body k t nested.0 before) (λ t before. before) (λ t after. main_keeps g rest (suc k) t nested.1 after) s main
main_keeps g (block.Choice line test body middle other last rest) zero s nested main = absurd nested
main_keeps g (block.Choice line test body middle other last rest) (suc k) s nested main =
    choice_keeps (IsMain g) (IsMain g) (steady_main g) line test (unrolled body) (unrolled other) (unrolled rest)
    (λ t before. main_keeps g body k t nested.0 before) (λ t before. main_keeps g other k t nested.1 before)
    (λ t after. main_keeps g rest (suc k) t nested.2 after) s main
main_keeps g (block.Work line accesses middle body last rest) zero s nested main = absurd nested
main_keeps g (block.Work line accesses middle body last rest) (suc k) s nested main =
    work_keeps g (IsMain g) line accesses body k last (unrolled rest) nested.1 (λ t after. main_keeps g rest (suc k) t nested.2 after) s main

-- how many arrays and communicators there are after a statement outside every block
abbrev pub arrays_with : What → ℕ → ℕ
arrays_with (what.Array name len) n = n + 1
arrays_with (what.Show name) n = n
arrays_with (what.Comm name) n = n
arrays_with (what.Let name e) n = n
arrays_with (what.For name from to) n = n
arrays_with (what.If test) n = n
arrays_with what.Else n = n
arrays_with what.End n = n
arrays_with what.Taskwait n = n
arrays_with what.Task n = n
arrays_with (what.Touch mode span) n = n
arrays_with what.Do n = n
arrays_with (what.Kern kind spans values) n = n
arrays_with (what.Posting how handle span peer tag comm status) n = n
arrays_with (what.Waiting later handles status) n = n

abbrev pub comms_with : What → ℕ → ℕ
comms_with (what.Array name len) n = n
comms_with (what.Show name) n = n
comms_with (what.Comm name) n = n + 1
comms_with (what.Let name e) n = n
comms_with (what.For name from to) n = n
comms_with (what.If test) n = n
comms_with what.Else n = n
comms_with what.End n = n
comms_with what.Taskwait n = n
comms_with what.Task n = n
comms_with (what.Touch mode span) n = n
comms_with what.Do n = n
comms_with (what.Kern kind spans values) n = n
comms_with (what.Posting how handle span peer tag comm status) n = n
comms_with (what.Waiting later handles status) n = n

-- the same after a whole text
abbrev pub arrays_after : Block → ℕ → ℕ
arrays_after block.Done n = n
arrays_after (block.Plain line said plain rest) n = arrays_after rest (arrays_with said n)
arrays_after (block.Loop line name from to body last rest) n = arrays_after rest n
arrays_after (block.When line test body last rest) n = arrays_after rest n
arrays_after (block.Choice line test body middle other last rest) n = arrays_after rest n
arrays_after (block.Work line accesses middle body last rest) n = arrays_after rest n

abbrev pub comms_after : Block → ℕ → ℕ
comms_after block.Done n = n
comms_after (block.Plain line said plain rest) n = comms_after rest (comms_with said n)
comms_after (block.Loop line name from to body last rest) n = comms_after rest n
comms_after (block.When line test body last rest) n = comms_after rest n
comms_after (block.Choice line test body middle other last rest) n = comms_after rest n
comms_after (block.Work line accesses middle body last rest) n = comms_after rest n

abbrev pub stage_with : What → Stage → Stage
stage_with said g = record g { arrays = arrays_with said g.arrays; comms = comms_with said g.comms }

abbrev pub stage_after : Block → Stage → Stage
stage_after b g = record g { arrays = arrays_after b g.arrays; comms = comms_after b g.comms }

-- a statement outside every block
act_top : (g : Stage) (line : ℕ) (said : What) (s : State) → stands place.Top said ≡ true → IsMain g s → Holds (IsMain (stage_with said g)) (act line said s)
act_top g line (what.Array name len) s may main = array_made_sound g line name len s main
act_top g line (what.Show name) s may main =
    holds_weaker (Kept g s) (IsMain g) (shown line name s) (λ t kept. main_of g s t main kept) (shown_sound g line name s main.sound)
act_top g line (what.Comm name) s may main = comm_made_sound g line name s main
act_top g line (what.Let name e) s may main = act_main g line (what.Let name e) s refl main
act_top g line (what.For name from to) s may main = main
act_top g line (what.If test) s may main = main
act_top g line what.Else s may main = main
act_top g line what.End s may main = main
act_top g line what.Taskwait s may main = act_main g line what.Taskwait s refl main
act_top g line what.Task s may main = main
act_top g line (what.Touch mode span) s may main = main
act_top g line what.Do s may main = main
act_top g line (what.Kern kind spans values) s may main = absurd (cc)
act_top g line (what.Posting how handle span peer tag comm status) s may main = absurd (cc)
act_top g line (what.Waiting later handles status) s may main = absurd (cc)

-- a whole text
pub top_keeps : (g : Stage) (b : Block) (k : ℕ) (s : State) → Nested k place.Top b → IsMain g s → Holds (IsMain (stage_after b g)) (unrolled b s)
top_keeps g block.Done k s nested main = main
top_keeps g (block.Plain line said plain rest) k s nested main =
    bind_by (IsMain (stage_with said g)) (IsMain (stage_after rest (stage_with said g))) (act line said s) (unrolled rest) (act_top g line said s nested.0 main)
    (λ t after. top_keeps (stage_with said g) rest k t nested.1 after)
top_keeps g (block.Loop line name from to body last rest) zero s nested main = absurd nested
top_keeps g (block.Loop line name from to body last rest) (suc k) s nested main =
    loop_keeps (IsMain g) (IsMain (stage_after rest g)) (steady_main g) line name from to (unrolled body) (unrolled rest)
    (λ t before. main_keeps g body k t nested.0 before) (λ t after. top_keeps g rest (suc k) t nested.1 after) s main
top_keeps g (block.When line test body last rest) zero s nested main = absurd nested
top_keeps g (block.When line test body last rest) (suc k) s nested main =
    choice_keeps (IsMain g) (IsMain (stage_after rest g)) (steady_main g) line test (unrolled body) (λ (t : State). Ok t) (unrolled rest)
    (λ t before. main_keeps g body k t nested.0 before) (λ t before. before) (λ t after. top_keeps g rest (suc k) t nested.1 after) s main
top_keeps g (block.Choice line test body middle other last rest) zero s nested main = absurd nested
top_keeps g (block.Choice line test body middle other last rest) (suc k) s nested main =
    choice_keeps (IsMain g) (IsMain (stage_after rest g)) (steady_main g) line test (unrolled body) (unrolled other) (unrolled rest)
    (λ t before. main_keeps g body k t nested.0 before) (λ t before. main_keeps g other k t nested.1 before)
    (λ t after. top_keeps g rest (suc k) t nested.2 after) s main
top_keeps g (block.Work line accesses middle body last rest) zero s nested main = absurd nested
top_keeps g (block.Work line accesses middle body last rest) (suc k) s nested main =
    work_keeps g (IsMain (stage_after rest g)) line accesses body k last (unrolled rest) nested.1 (λ t after. top_keeps g rest (suc k) t nested.2 after) s main
