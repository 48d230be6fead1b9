-- What the lines of a trace tell (this project's): which line tells which entry, and which line is a header.
use Rattle.std.specs.Prelude.{◌≡◌, ℕ, ◌<◌, ◌≤◌, ◌-◌, ◌^◌, Bool, true, List, [], ◌∷◌, codes, take, length, get_or, ◌==◌, not, ℤ, pos, if◌then◌else◌}
use Rattle.std.specs.Prelude.{All, FitsSigned}
use Rattle.std.specs.Int.{w32}
use Rattle.rt_base.specs.declared.data.Status.{Status}
use Rattle.rt_base.specs.declared.data.Entry.{Entry}
use Rattle.rt_base.specs.declared.data.Entry.TheVariants as entry
use Rattle.trace_lines.specs.declared.header.Header.{Header}
use Rattle.trace_lines.specs.declared.entry.ToldEntry.{ToldEntry}
use Rattle.trace_lines.specs.declared.entry.Word.{Word}
use Rattle.trace_lines.specs.declared.entry.Word.TheVariants as word
use Rattle.report_lines.specs.Lines.{entry_text, header_text}

-- the byte is no blank
abbrev pub is_no_blank : ℕ → Bool
is_no_blank byte = not (byte == 32)

-- a number before this text is whole: the text is at its end, or a blank follows
abbrev pub ends_number : List ℕ → Bool
ends_number [] = true
ends_number (byte ∷ more) = byte == 32

-- an entry, and the statuses that its line tells
pub record Told : Type 0 where
  pub step : Entry
  pub statuses : List Status

-- what the code's entry tells
abbrev pub told_of : ToldEntry → Told
told_of read = record { step = read.step; statuses = read.statuses.items }

-- the word as text
abbrev pub word_text : Word → List ℕ
word_text word.Start = codes "start"
word_text word.Call = codes "call"
word_text word.Leave = codes "leave"
word_text word.Return = codes "return"
word_text word.Release = codes "release"
word_text word.Poll = codes "poll"

-- each number of a status fits the type of its field
abbrev pub FitsStatus : Status → Type 0
FitsStatus status = FitsSigned w32 status.source × FitsSigned w32 status.tag × (status.count < 2 ^ 32) × (status.error < 2 ^ 8)

-- each number of an entry fits the type of its field
abbrev pub FitsEntry : Entry → Type 0
FitsEntry (entry.Start task) = task.0 < 2 ^ 32
FitsEntry (entry.Call task op pending) = (task.0 < 2 ^ 32) × (op < 2 ^ 32) × (pending < 2 ^ 32)
FitsEntry (entry.Leave task op from count) = (task.0 < 2 ^ 32) × (op < 2 ^ 32) × (from < 2 ^ 32) × (count < 2 ^ 32)
FitsEntry (entry.Return task) = task.0 < 2 ^ 32
FitsEntry (entry.Release task from count) = (task.0 < 2 ^ 32) × (from < 2 ^ 32) × (count < 2 ^ 32)
FitsEntry (entry.Poll poller req) = (poller < 2 ^ 16) × (req.task.0 < 2 ^ 32) × (req.nth < 2 ^ 32)

-- where so many statuses were told before, the entry names those that its line tells; an entry that names none tells none
abbrev pub Names : ℕ → Entry → List Status → Type 0
Names before (entry.Start task) told = told ≡ []
Names before (entry.Call task op pending) told = told ≡ []
Names before (entry.Leave task op from count) told = (from ≡ before) × (count ≡ length told)
Names before (entry.Return task) told = told ≡ []
Names before (entry.Release task from count) told = (from ≡ before) × (count ≡ length told)
Names before (entry.Poll poller req) told = told ≡ []

-- behind so many statuses the line tells this
pub record IsLineOf (before : ℕ) (line : List ℕ) (told : Told) : Type 0 where
  pub spelled : line ≡ entry_text told.step told.statuses
  pub names : Names before told.step told.statuses
  pub fits : FitsEntry told.step
  pub statuses_fit : All FitsStatus told.statuses

-- the line without one CR at its end
abbrev pub without_return : List ℕ → List ℕ
without_return line = if get_or line (length line - 1) 0 == 13 then take (length line - 1) line else line

-- the numbers of a header: version, ranks, workers, eager limit
abbrev pub header_numbers : Header → List ℤ
header_numbers header = pos header.version ∷ pos header.ranks ∷ pos header.workers ∷ pos header.eager ∷ []

-- each number of a header fits the type of its field
abbrev pub FitsHeader : Header → Type 0
FitsHeader header = (header.version < 2 ^ 8) × (header.ranks < 2 ^ 16) × (header.workers < 2 ^ 16) × (header.eager < 2 ^ 32)

-- version 1, and each number in range
pub record HasRanges (header : Header) : Type 0 where
  pub version : header.version ≡ 1
  pub ranks : (1 ≤ header.ranks) × (header.ranks ≤ 64)
  pub workers : (1 ≤ header.workers) × (header.workers ≤ 64)
  pub eager : header.eager ≤ 16777216

-- the line is this header, with its numbers in range
pub record IsHeader (line : List ℕ) (header : Header) : Type 0 where
  pub spelled : line ≡ header_text header.version header.ranks header.workers header.eager
  pub ranges : HasRanges header

-- a line tells one entry at most
abbrev pub OneEntry : Type 0
OneEntry = (before : ℕ) (line : List ℕ) (one other : Told) → IsLineOf before line one → IsLineOf before line other → one ≡ other

-- a line is one header at most
abbrev pub OneHeader : Type 0
OneHeader = (line : List ℕ) (one other : Header) → IsHeader line one → IsHeader line other → one ≡ other
