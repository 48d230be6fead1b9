use Rattle.std.proofs.Common.{◌≡◌, List, drop}
use Rattle.rt_base.specs.declared.data.Span.{Span}
use Rattle.cell_spans.specs.Requests.{noted_by_all, HasSpans}
use Rattle.cell_spans.proofs.in_use.SpansInUse.note_all.Given as goal

-- what is left to note gives what all give, and the bags have what the requests tell
abbrev pub invariant-loop-handle : goal.invariant-loop-handle
invariant-loop-handle l = record {
  requests : noted_by_all l.later (drop l.handle-index l.handles) l.self.requests.items ≡ noted_by_all l.later l.handles l.initial.self.requests.items;
  spans : (statuses : List Span) → HasSpans l.initial.self statuses → HasSpans l.self statuses;
}
