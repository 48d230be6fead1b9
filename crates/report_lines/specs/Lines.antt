-- The lines of a trace (this project's): its header and its entries, each a word and numbers.
use Rattle.std.specs.Prelude.{ℕ, List, [], ◌∷◌, ◌++◌, map, take, drop, ℤ, pos, codes}
use Rattle.std.specs.List.{flat_map}
use Rattle.std.specs.Fmt.{signed_decimal}
use Rattle.rt_base.specs.declared.data.Status.{Status}
use Rattle.rt_base.specs.declared.data.Entry.{Entry}
use Rattle.rt_base.specs.declared.data.Entry.TheVariants as entry
use Rattle.rt_base.specs.declared.data.Program.{Program}

-- bytes, and LF
abbrev pub line : List ℕ → List ℕ
line bytes = bytes ++ 10 ∷ []

-- a blank, and the number
abbrev pub number_text : ℤ → List ℕ
number_text number = 32 ∷ signed_decimal number

-- each number behind a blank
abbrev pub numbers_text : List ℤ → List ℕ
numbers_text numbers = flat_map number_text numbers

-- source, tag, number of cells, error (MPI 4.0, 3.2.5)
abbrev pub status_numbers : Status → List ℤ
status_numbers status = status.source ∷ status.tag ∷ pos status.count ∷ pos status.error ∷ []

-- the word of an entry
abbrev pub entry_word : Entry → List ℕ
entry_word (entry.Start task) = codes "start"
entry_word (entry.Call task op pending) = codes "call"
entry_word (entry.Leave task op from count) = codes "leave"
entry_word (entry.Return task) = codes "return"
entry_word (entry.Release task from count) = codes "release"
entry_word (entry.Poll poller req) = codes "poll"

-- the numbers of an entry that tells these statuses
abbrev pub entry_numbers : Entry → List Status → List ℤ
entry_numbers (entry.Start task) told = pos task.0 ∷ []
entry_numbers (entry.Call task op pending) told = pos task.0 ∷ pos op ∷ pos pending ∷ []
entry_numbers (entry.Leave task op from count) told = pos task.0 ∷ pos op ∷ flat_map status_numbers told
entry_numbers (entry.Return task) told = pos task.0 ∷ []
entry_numbers (entry.Release task from count) told = pos task.0 ∷ flat_map status_numbers told
entry_numbers (entry.Poll poller req) told = pos poller ∷ pos req.task.0 ∷ pos req.nth ∷ []

-- the line of an entry that tells these statuses, without its LF
abbrev pub entry_text : Entry → List Status → List ℕ
entry_text step told = entry_word step ++ numbers_text (entry_numbers step told)

-- the statuses that an entry tells, of all those of its history
abbrev pub told_by : List Status → Entry → List Status
told_by statuses (entry.Start task) = []
told_by statuses (entry.Call task op pending) = []
told_by statuses (entry.Leave task op from count) = take count (drop from statuses)
told_by statuses (entry.Return task) = []
told_by statuses (entry.Release task from count) = take count (drop from statuses)
told_by statuses (entry.Poll poller req) = []

-- the lines of the entries of a history, in order
abbrev pub entry_lines : List Entry → List Status → List (List ℕ)
entry_lines entries statuses = map (λ step. entry_text step (told_by statuses step)) entries

-- `%trace VERSION RANKS WORKERS EAGER`, without its LF
abbrev pub header_text : ℕ → ℕ → ℕ → ℕ → List ℕ
header_text version ranks workers eager =
    codes "%trace" ++ numbers_text (pos version ∷ pos ranks ∷ pos workers ∷ pos eager ∷ [])

-- the trace of a history, in version 1: the header and a line for each entry
abbrev pub trace_text : Program → ℕ → List Entry → List Status → List ℕ
trace_text program workers entries statuses =
    flat_map line (header_text 1 program.ranks workers program.eager ∷ entry_lines entries statuses)
