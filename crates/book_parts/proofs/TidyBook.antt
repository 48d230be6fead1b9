-- What the tasks of a book have bound and await is in order, as after every run.
use Rattle.tidy_runs.specs.Tidy.{IsTidy}
use Rattle.tidy_runs.proofs.Tidying.{runs_are_tidy}
use Rattle.task_machine.specs.Legal.{callers}
use Rattle.book_parts.specs.Kept.{BookParts, KeepsState, state_now}

pub tidy_now : (parts : BookParts) → KeepsState parts → IsTidy parts.program (state_now parts)
tidy_now parts k = runs_are_tidy parts.program parts.workers (callers parts.program parts.entries) k.well k.legal.runs
