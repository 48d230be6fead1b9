-- Local operations change nothing of what a record stands for.
use Rattle.std.proofs.Common.{◌≡◌, ℕ, ◌+◌, ℤ, List, [], ◌∷◌, drop, slice_get, Some, sym, ap, ◌∙◌, refl, subst, drop-drop}
use Rattle.rt_base.specs.declared.data.Op.{Op}
use Rattle.rt_base.specs.declared.data.Op.TheVariants as op
use Rattle.rt_base.specs.declared.data.Phase.{Phase}
use Rattle.rt_base.specs.declared.data.Phase.TheVariants as phase
use Rattle.rt_base.specs.declared.data.TaskDef.{TaskDef}
use Rattle.rt_base.specs.declared.data.Program.{Program}
use Rattle.rt_base.specs.State.{State, Task}
use Rattle.task_local.specs.Local.{run_front, computed, stop_at, advanced, stop}
use Rattle.task_local.specs.StandsFor.{Record, StandsFor, StandsAs}
use Rattle.task_local.specs.Standing.{def, moved_on}
use Rattle.task_local.proofs.Programs.{def_is}

-- the rest of a list after one more item
rest_of : (k : ℕ) (all rest : List Op) (first : Op) → drop k all ≡ first ∷ rest → drop (k + 1) all ≡ rest
rest_of k all rest first is = sym (drop-drop 1 k all) ∙ ap (λ (ops : List Op). drop 1 ops) is

-- the copy and the phase that local operations left need no more of them
stands_at : (d : TaskDef) (task : Task) (k : ℕ) (ops : List Op) (copy : List ℤ) → drop k d.body.items ≡ ops
    → stop_at k ops ≡ task.phase → run_front d ops copy ≡ task.copy → StandsAs d (stop_at k ops) (run_front d ops copy) task
unfolding advanced stop
stands_at d task k [] copy is stops cells = (sym stops, cells)
stands_at d task k (op.Compute kind dst left right value step ∷ ops) copy is stops cells =
    stands_at d task (k + 1) ops (computed d (op.Compute kind dst left right value step) copy) (rest_of k d.body.items ops _ is) stops cells
stands_at d task k (op.Post how span peer tag comm status ∷ ops) copy is stops cells =
    (ap (stop_at k) is ∙ stops, ap (λ (left : List Op). run_front d left copy) is ∙ cells)
stands_at d task k (op.Await later handles status ∷ ops) copy is stops cells =
    (ap (stop_at k) is ∙ stops, ap (λ (left : List Op). run_front d left copy) is ∙ cells)

moved_stands : (d : TaskDef) (task : Task) (held : Record) (at : Phase) → held.phase ≡ at → StandsAs d at held.copy task
    → StandsAs d (moved_on d at held).phase (moved_on d at held).copy task
unfolding advanced stop
moved_stands d task held phase.Waiting is stands = rw is stands
moved_stands d task held (phase.At k) is stands = stands_at d task k (drop k d.body.items) held.copy refl stands.0 stands.1
moved_stands d task held (phase.In k) is stands = rw is stands
moved_stands d task held phase.Ended is stands = rw is stands
moved_stands d task held phase.Returned is stands = rw is stands
moved_stands d task held phase.Released is stands = rw is stands

-- the program and the task stay
same_program : (d : TaskDef) (at : Phase) (held : Record) → (moved_on d at held).program ≡ held.program
same_program d phase.Waiting held = refl
same_program d (phase.At k) held = refl
same_program d (phase.In k) held = refl
same_program d phase.Ended held = refl
same_program d phase.Returned held = refl
same_program d phase.Released held = refl

same_task : (d : TaskDef) (at : Phase) (held : Record) → (moved_on d at held).task ≡ held.task
same_task d phase.Waiting held = refl
same_task d (phase.At k) held = refl
same_task d (phase.In k) held = refl
same_task d phase.Ended held = refl
same_task d phase.Returned held = refl
same_task d phase.Released held = refl

pub stands_after_moved_on : (program : Program) (held : Record) (state : State) → StandsFor program held state
    → StandsFor program (moved_on (def held) held.phase held) state
stands_after_moved_on program held state stands =
    let same : def held ≡ stands.def = def_is program held.program held.task stands.def (sym stands.same) stands.is_def in
    let after : Record = moved_on (def held) held.phase held in
    let task : after.task ≡ held.task = same_task (def held) held.phase held in
    record {
      same = same_program (def held) held.phase held ∙ stands.same;
      def = stands.def;
      task = stands.task;
      is_def = ap (λ t. slice_get program.tasks.items t) task ∙ stands.is_def;
      is_task = ap (λ t. slice_get state.tasks t) task ∙ stands.is_task;
      stands = subst (λ (d : TaskDef). StandsAs stands.def (moved_on d held.phase held).phase (moved_on d held.phase held).copy stands.task) (sym same)
          (moved_stands stands.def stands.task held held.phase refl stands.stands);
    }

-- ---- and the other way

stood_at : (d : TaskDef) (task : Task) (k : ℕ) (ops : List Op) (copy : List ℤ) → drop k d.body.items ≡ ops
    → StandsAs d (stop_at k ops) (run_front d ops copy) task → (stop_at k ops ≡ task.phase) × (run_front d ops copy ≡ task.copy)
unfolding advanced stop
stood_at d task k [] copy is stands = (sym stands.0, stands.1)
stood_at d task k (op.Compute kind dst left right value step ∷ ops) copy is stands =
    stood_at d task (k + 1) ops (computed d (op.Compute kind dst left right value step) copy) (rest_of k d.body.items ops _ is) stands
stood_at d task k (op.Post how span peer tag comm status ∷ ops) copy is stands =
    (sym (ap (stop_at k) is) ∙ stands.0, sym (ap (λ (left : List Op). run_front d left copy) is) ∙ stands.1)
stood_at d task k (op.Await later handles status ∷ ops) copy is stands =
    (sym (ap (stop_at k) is) ∙ stands.0, sym (ap (λ (left : List Op). run_front d left copy) is) ∙ stands.1)

stood_before : (d : TaskDef) (task : Task) (held : Record) (at : Phase) → held.phase ≡ at
    → StandsAs d (moved_on d at held).phase (moved_on d at held).copy task → StandsAs d at held.copy task
unfolding advanced stop
stood_before d task held phase.Waiting is stands = rw is at stands
stood_before d task held (phase.At k) is stands = stood_at d task k (drop k d.body.items) held.copy refl stands
stood_before d task held (phase.In k) is stands = rw is at stands
stood_before d task held phase.Ended is stands = rw is at stands
stood_before d task held phase.Returned is stands = rw is at stands
stood_before d task held phase.Released is stands = rw is at stands

pub stands_before_moved_on : (program : Program) (held : Record) (state : State) → StandsFor program (moved_on (def held) held.phase held) state
    → StandsFor program held state
stands_before_moved_on program held state stands =
    let same_held : held.program ≡ program = sym (same_program (def held) held.phase held) ∙ stands.same in
    let task = same_task (def held) held.phase held in
    let is_def : slice_get program.tasks.items held.task ≡ Some stands.def = sym (ap (λ t. slice_get program.tasks.items t) task) ∙ stands.is_def in
    let same : def held ≡ stands.def = def_is program held.program held.task stands.def (sym same_held) is_def in
    record {
      same = same_held;
      def = stands.def;
      task = stands.task;
      is_def = is_def;
      is_task = sym (ap (λ t. slice_get state.tasks t) task) ∙ stands.is_task;
      stands = stood_before stands.def stands.task held held.phase refl
          (subst (λ (d : TaskDef). StandsAs stands.def (moved_on d held.phase held).phase (moved_on d held.phase held).copy stands.task) same stands.stands);
    }
