-- A run of a program with one worker, and its report (this project's).
use Rattle.std.specs.Prelude.{◌≡◌, ℕ, Bool, List}
use Rattle.rt_base.specs.declared.data.Status.{Status}
use Rattle.rt_base.specs.declared.data.Entry.{Entry}
use Rattle.rt_base.specs.declared.data.Program.{Program}
use Rattle.rt_base.specs.State.{State}
use Rattle.rt_base.specs.WellFormed.{WellFormed}
use Rattle.task_machine.specs.Legal.{final, phases_of, IsLegal, IsQuiet, IsFinished, IsStuck}
use Rattle.report_lines.specs.Report.{report}
use Rattle.call_ends.specs.declared.ending.Verdict.{Verdict}
use Rattle.call_ends.specs.declared.ending.Verdict.TheVariants as verdict
use Rattle.call_ends.specs.declared.run.Run.{Run}

-- all tasks are released, or the run is stuck
abbrev pub EndsAs : Verdict → Program → State → Type 0
EndsAs verdict.Finished program state = IsFinished state
EndsAs verdict.Stuck program state = IsStuck program state

-- a run of this program with one worker: a legal history that ends where no task may move, as the verdict says, and its report, with its trace where
-- that is asked for
pub record IsRunOf (program : Program) (trace : Bool) (outcome : Verdict) (entries : List Entry) (statuses : List Status) (text : List ℕ) : Type 0 where
  pub legal : IsLegal program 1 entries statuses
  pub quiet : IsQuiet program (final program entries)
  pub ends : EndsAs outcome program (final program entries)
  pub reported : text ≡ report program 1 entries statuses trace

-- the report of a run
abbrev pub report_text : Run → List ℕ
report_text run = report run.program 1 run.end.history.entries.items run.end.history.statuses.items run.trace

-- what the report of a run is written from: a well-formed program, and the cells and the phases of the state after its history
pub record HasEnd (run : Run) : Type 0 where
  pub well_formed : WellFormed run.program
  pub cells : run.end.cells.items ≡ (final run.program run.end.history.entries.items).memory
  pub phases : run.end.phases.items ≡ phases_of (final run.program run.end.history.entries.items).tasks
