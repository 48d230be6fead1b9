-- A run whose tasks are all released is finished, and every other quiet one is stuck.
use Rattle.std.proofs.Common.{◌≡◌, ℕ, ℤ, Bool, true, false, ◌&&◌, cond, List, [], ◌∷◌, map, refl, sym, ap, ◌∙◌, subst}
use Rattle.std.proofs.lemmas.Bool.{false≢true}
use Rattle.std.proofs.lemmas.List.Elements.{All-from_recursion, recursion_from_All}
use Rattle.std.specs.List.{AllByRecursion}
use Rattle.rt_base.specs.declared.data.Phase.{Phase}
use Rattle.rt_base.specs.declared.data.Phase.TheVariants as phase
use Rattle.rt_base.specs.declared.data.Status.{Status}
use Rattle.rt_base.specs.declared.data.Entry.{Entry}
use Rattle.rt_base.specs.declared.data.Program.{Program}
use Rattle.rt_base.specs.State.{State, Task, is_released}
use Rattle.task_machine.specs.Legal.{final, IsLegal, IsQuiet}
use Rattle.call_ends.specs.declared.ending.Verdict.{Verdict}
use Rattle.call_ends.specs.declared.ending.Verdict.TheVariants as verdict
use Rattle.report_lines.specs.Report.{is_finished, report}
use Rattle.call_ends.specs.Ending.{verdict_of}
use Rattle.call_ends.specs.Runs.{EndsAs, IsRunOf}

abbrev IsReleased : Task → Type 0
IsReleased task = task.phase ≡ phase.Released

abbrev phases_of : List Task → List Phase
phases_of tasks = map (λ (task : Task). task.phase) tasks

released_only : (at : Phase) → is_released at ≡ true → at ≡ phase.Released
released_only phase.Waiting h = absurd (false≢true h)
released_only (phase.At k) h = absurd (false≢true h)
released_only (phase.In k) h = absurd (false≢true h)
released_only phase.Ended h = absurd (false≢true h)
released_only phase.Returned h = absurd (false≢true h)
released_only phase.Released h = refl

both : (a b : Bool) → (a && b) ≡ true → (a ≡ true) × (b ≡ true)
both true b h = (refl, h)
both false b h = absurd (false≢true h)

each_released : (tasks : List Task) → is_finished (phases_of tasks) ≡ true → AllByRecursion IsReleased tasks
each_released [] h = tt
each_released (task ∷ tasks) h =
    let parts = both (is_released task.phase) (is_finished (phases_of tasks)) h in
    (released_only task.phase parts.0, each_released tasks parts.1)

all_are_released : (tasks : List Task) → AllByRecursion IsReleased tasks → is_finished (phases_of tasks) ≡ true
all_are_released [] h = refl
all_are_released (task ∷ tasks) h = rw (h.0, all_are_released tasks h.1) refl

-- the verdict, by whether all tasks are released
ends_by : (program : Program) (state : State) (finished : Bool) → is_finished (phases_of state.tasks) ≡ finished → IsQuiet program state
    → EndsAs (cond finished verdict.Finished verdict.Stuck) program state
ends_by program state true is quiet = All-from_recursion IsReleased state.tasks (each_released state.tasks is)
ends_by program state false is quiet =
    (quiet, λ finished. false≢true (sym is ∙ all_are_released state.tasks (recursion_from_All IsReleased state.tasks finished)))

pub ends_as : (program : Program) (state : State) (phases : List Phase) → phases ≡ map (λ (task : Task). task.phase) state.tasks → IsQuiet program state
    → EndsAs (verdict_of phases) program state
ends_as program state phases same quiet =
    subst (λ (phases : List Phase). EndsAs (verdict_of phases) program state) (sym same)
    (ends_by program state (is_finished (phases_of state.tasks)) refl quiet)

-- a run from what its end gives
pub run_as : (program : Program) (trace : Bool) (entries : List Entry) (statuses : List Status) (phases : List Phase) (outcome : Verdict)
    → IsLegal program 1 entries statuses → IsQuiet program (final program entries)
    → phases ≡ map (λ (task : Task). task.phase) (final program entries).tasks → outcome ≡ verdict_of phases
    → IsRunOf program trace outcome entries statuses (report program 1 entries statuses trace)
run_as program trace entries statuses phases outcome legal quiet same_phases is_outcome = record {
  legal = legal;
  quiet = quiet;
  ends = subst (λ (outcome : Verdict). EndsAs outcome program (final program entries)) (sym is_outcome)
      (ends_as program (final program entries) phases same_phases quiet);
  reported = refl;
}
