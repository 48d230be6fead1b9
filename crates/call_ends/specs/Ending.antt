-- How a call ends: its exit status and, where it runs nothing, its text (this project's).
use Rattle.std.specs.Prelude.{ℕ, List, ◌++◌, codes, if◌then◌else◌}
use Rattle.std.specs.Fmt.{decimal}
use Rattle.rt_base.specs.declared.data.Phase.{Phase}
use Rattle.rt_base.specs.declared.data.FaultKind.{FaultKind}
use Rattle.rt_base.specs.declared.data.FaultKind.TheVariants as fault
use Rattle.rt_base.specs.declared.data.LimitName.{LimitName}
use Rattle.rt_base.specs.declared.data.LimitName.TheVariants as limit
use Rattle.rt_base.specs.Limits.{most}
use Rattle.call_ends.specs.declared.ending.Refusal.{Refusal}
use Rattle.call_ends.specs.declared.ending.Refusal.TheVariants as refusal
use Rattle.call_ends.specs.declared.ending.Verdict.{Verdict}
use Rattle.call_ends.specs.declared.ending.Verdict.TheVariants as verdict
use Rattle.report_lines.specs.Report.{is_finished}
use Rattle.call_ends.specs.declared.ending.Ending.{Ending}
use Rattle.call_ends.specs.declared.ending.Ending.TheVariants as ending

-- the exit status of a run: 0 where it finished, 1 where it is stuck
abbrev pub verdict_status : Verdict → ℕ
verdict_status verdict.Finished = 0
verdict_status verdict.Stuck = 1

-- the exit status of a refusal, by its kind
abbrev pub refusal_status : Refusal → ℕ
refusal_status refusal.Words = 2
refusal_status refusal.ReadFault = 4
refusal_status refusal.TooLong = 7
refusal_status (refusal.Fault number kind) = 3
refusal_status (refusal.Limit which) = 8

-- the status of a call whose whole text was written
abbrev pub status_of : Ending → ℕ
status_of (ending.Ran outcome) = verdict_status outcome
status_of (ending.Refused why) = refusal_status why

-- the name of a kind of fault
abbrev pub kind_text : FaultKind → List ℕ
kind_text fault.Byte = codes "Byte"
kind_text fault.Number = codes "Number"
kind_text fault.Name = codes "Name"
kind_text fault.Shape = codes "Shape"
kind_text fault.Depth = codes "Depth"
kind_text fault.Place = codes "Place"
kind_text fault.Open = codes "Open"
kind_text fault.UnknownName = codes "UnknownName"
kind_text fault.NameTaken = codes "NameTaken"
kind_text fault.Overflow = codes "Overflow"
kind_text fault.DivisionByZero = codes "DivisionByZero"
kind_text fault.BadSize = codes "BadSize"
kind_text fault.BadSpan = codes "BadSpan"
kind_text fault.BadRank = codes "BadRank"
kind_text fault.BadTag = codes "BadTag"
kind_text fault.AccessOverlap = codes "AccessOverlap"
kind_text fault.NotDeclared = codes "NotDeclared"
kind_text fault.NotWritable = codes "NotWritable"
kind_text fault.LengthMismatch = codes "LengthMismatch"
kind_text fault.BadShift = codes "BadShift"
kind_text fault.EmptySource = codes "EmptySource"
kind_text fault.StatusLength = codes "StatusLength"
kind_text fault.RequestTwice = codes "RequestTwice"
kind_text fault.RequestBusy = codes "RequestBusy"
kind_text fault.InUse = codes "InUse"
kind_text fault.RequestLeft = codes "RequestLeft"
kind_text fault.NoTrace = codes "NoTrace"
kind_text fault.TraceHeader = codes "TraceHeader"

-- `refused LINE KIND`
abbrev pub fault_text : ℕ → FaultKind → List ℕ
fault_text number kind = codes "refused " ++ (decimal number ++ (codes " " ++ (kind_text kind ++ codes "\n")))

-- the name of a limit
abbrev pub limit_name : LimitName → List ℕ
limit_name limit.Arrays = codes "arrays"
limit_name limit.Comms = codes "comms"
limit_name limit.Cells = codes "cells"
limit_name limit.Tasks = codes "tasks"
limit_name limit.Accesses = codes "accesses"
limit_name limit.AccessCells = codes "access_cells"
limit_name limit.Operations = codes "operations"
limit_name limit.Requests = codes "requests"
limit_name limit.Names = codes "names"
limit_name limit.MessageCells = codes "message_cells"
limit_name limit.Steps = codes "steps"
limit_name limit.Pieces = codes "pieces"

-- `limit NAME N`
abbrev pub limit_text : LimitName → List ℕ
limit_text which = codes "limit " ++ (limit_name which ++ (codes " " ++ (decimal (most which) ++ codes "\n")))

-- the one line of a call that runs nothing
abbrev pub refusal_text : Refusal → List ℕ
refusal_text refusal.Words = codes "words refused\n"
refusal_text refusal.ReadFault = codes "read fault\n"
refusal_text refusal.TooLong = codes "too long\n"
refusal_text (refusal.Fault number kind) = fault_text number kind
refusal_text (refusal.Limit which) = limit_text which

-- how a run ended whose tasks stand there
abbrev pub verdict_of : List Phase → Verdict
verdict_of phases = if is_finished phases then verdict.Finished else verdict.Stuck
