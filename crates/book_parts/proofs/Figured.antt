-- A book's insides as the laws over its counts have them.
use Rattle.std.proofs.Common.{ℕ, length, ap, ◌∙◌}
use Rattle.rt_base.specs.declared.data.Phase.{Phase}
use Rattle.rt_base.specs.declared.data.TaskDef.{TaskDef}
use Rattle.rt_base.specs.declared.data.Program.{Program}
use Rattle.task_local.specs.StandsFor.{Record}
use Rattle.book_counts.proofs.Figures.{Figures, AreKept, Found}
use Rattle.book_parts.specs.Kept.{BookParts, IsBook, state_now}
use Rattle.book_parts.proofs.Moved.{fits_now}
use Rattle.book_parts.proofs.Held.{Held}
use Rattle.book_parts.proofs.TidyBook.{tidy_now}

abbrev pub figures : BookParts → Figures
figures parts = record {
  program = parts.program;
  state = state_now parts;
  exchange = parts.engine.exchange;
  phases = parts.phases;
  handed = parts.ready.handed;
  unreleased = parts.unreleased;
  waits = parts.waits;
  posted = parts.posted;
  marks = parts.marks;
  bound = parts.bound;
  incomplete = parts.incomplete;
}

pub kept_figures : {parts : BookParts} → IsBook parts → AreKept (figures parts)
kept_figures {parts = parts} b = record {
  well = b.kept.well;
  fits = fits_now parts b.kept;
  tidy = tidy_now parts b.kept;
  long = b.kept.whole.handed ∙ ap (λ (q : Program). length q.tasks.items) b.kept.of_program;
  phases_are = b.kept.phases_are;
  exchange_is = b.kept.exchange_is;
  begun = b.kept.begun;
  counted = b.counted;
  numbered = b.numbered;
  binding = b.binding;
}

-- the task of a record
pub found : {parts : BookParts} {held : Record} {t : ℕ} {def : TaskDef} {at : Phase} → (h : Held parts held t def at) → Found (figures parts) t def h.was
found h = record { is_def = h.is_def; is_task = h.is_task }
