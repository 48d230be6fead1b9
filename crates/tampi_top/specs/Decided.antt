-- What a call was found to owe. No public clause cites this module.
use Rattle.std.specs.Prelude.{List, ℕ, ⊤}
use Rattle.call_words.specs.declared.command.RunOptions.{RunOptions}
use Rattle.call_ends.specs.Runs.{IsRunOf, report_text, HasEnd}
use Rattle.tampi_top.specs.declared.decided.Due.{Due}
use Rattle.tampi_top.specs.declared.decided.Due.TheVariants as due
use Rattle.tampi_top.specs.Accepted.{IsProgramText}
use Rattle.tampi_top.specs.Due.{Call, IsRun, IsRefusedText, HasCause}

-- what a text asks for: a run of its program with the report, or a refusal where it says none; want of memory is free
abbrev pub IsOfText : RunOptions → List ℕ → Due → Type 0
IsOfText asked text (due.Refused why) = IsRefusedText asked text why
IsOfText asked text (due.Ran run) =
    HasEnd run × IsProgramText asked text run.program
    × IsRunOf run.program asked.trace run.verdict run.end.history.entries.items run.end.history.statuses.items (report_text run)
IsOfText asked text due.Memory = ⊤

-- a run with its report, or a refusal with its cause; want of memory is free
abbrev pub IsDecided : Call → Due → Type 0
IsDecided call (due.Refused why) = HasCause call why
IsDecided call (due.Ran run) =
    HasEnd run × IsRun call run.verdict run.end.history.entries.items run.end.history.statuses.items (report_text run)
IsDecided call due.Memory = ⊤
