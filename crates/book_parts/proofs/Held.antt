-- The task of a record, as the caller, the book and the machine's state have it.
use Rattle.std.proofs.Common.{◌≡◌, ◌≢◌, ℕ, ◌+◌, ◌^◌, ◌<◌, ◌≤◌, Bool, true, false, List, ◌++◌, length, slice_get, Some, Option, refl, sym, ap, ◌∙◌, subst}
use Rattle.std.proofs.Common.{cond, ltb, arith}
use Rattle.std.specs.Prelude.{ℤ, unwrap_or}
use Rattle.std.proofs.lemmas.Option.{slice_get_within}
use Rattle.std.proofs.lemmas.List.{length-append}
use Rattle.std.proofs.lemmas.Bool.{ltb-false}
use Rattle.rt_base.specs.declared.data.Phase.{Phase}
use Rattle.rt_base.specs.declared.data.Phase.TheVariants as phase
use Rattle.rt_base.specs.declared.data.Op.{Op}
use Rattle.rt_base.specs.declared.data.TaskDef.{TaskDef}
use Rattle.rt_base.specs.declared.data.Program.{Program}
use Rattle.rt_base.specs.declared.data.Entry.{Entry}
use Rattle.rt_base.specs.declared.data.Status.{Status}
use Rattle.rt_base.specs.declared.data.ReqNo.{ReqNo}
use Rattle.rt_base.specs.State.{Task}
use Rattle.rt_base.specs.MayMove.{MayMove}
use Rattle.task_local.specs.Local.{advanced, stop, run_front}
use Rattle.task_local.specs.Standing.{phase_before, def_of, no_task}
use Rattle.task_local.specs.StandsFor.{Record, StandsFor, StandsAs}
use Rattle.task_machine.specs.Legal.{final}
use Rattle.task_machine.specs.Machine.{move}
use Rattle.task_machine.proofs.Items.{same_some}
use Rattle.task_machine.proofs.Stops.{drop_end, stop_ended, stop_begins}
use Rattle.book_counts.proofs.Figures.{phases_long}
use Rattle.book_parts.specs.Ledger.{Ledger}
use Rattle.run_bounds.proofs.Rooms.{bounds_few}
use Rattle.book_parts.specs.Kept.{BookParts, KeepsState, state_now}
use Rattle.book_parts.proofs.Moved.{ledger_of, phase_read, fits_now, short_after}

-- the caller's program is the book's
pub same_program : (parts : BookParts) (l : Ledger) (prog : Program) → ledger_of parts ≡ l → prog ≡ l.program → prog ≡ parts.program
same_program parts l prog view same = same ∙ sym (ap (λ (z : Ledger). z.program) view)

-- what the caller says of its program and the history holds in the book's own terms, and the other way
pub own : (P : Program → List Entry → Type 0) (parts : BookParts) (l : Ledger) (prog : Program) → ledger_of parts ≡ l → prog ≡ l.program
    → P prog l.history → P parts.program parts.entries
own P parts l prog view same said =
    subst (λ (q : Program). P q parts.entries) (same_program parts l prog view same) (subst (P prog) (sym (ap (λ (z : Ledger). z.history) view)) said)

pub theirs : (P : Program → List Entry → Type 0) (parts : BookParts) (l : Ledger) (prog : Program) → ledger_of parts ≡ l → prog ≡ l.program
    → P parts.program parts.entries → P prog l.history
theirs P parts l prog view same said =
    subst (λ (q : Program). P q l.history) (sym (same_program parts l prog view same)) (subst (P parts.program) (ap (λ (z : Ledger). z.history) view) said)

-- the task of a record, read from the program
pub def_is : (p : Program) (t : ℕ) (def : TaskDef) → slice_get p.tasks.items t ≡ Some def → def_of p t ≡ def
def_is p t def is_def = ap (λ (o : Option TaskDef). unwrap_or o no_task) is_def

-- the task of a record that stands there
pub record Held (parts : BookParts) (held : Record) (t : ℕ) (def : TaskDef) (at : Phase) : Type 0 where
  pub was : Task
  pub is_def : slice_get parts.program.tasks.items t ≡ Some def
  pub is_task : slice_get (state_now parts).tasks t ≡ Some was
  pub who : t ≡ held.task
  pub program : held.program ≡ parts.program
  pub held_def : def_of held.program held.task ≡ def
  pub place : held.phase ≡ at
  pub stands : StandsAs def at held.copy was

pub held_as : (parts : BookParts) (held : Record) (t : ℕ) (at : Phase) → (s : StandsFor parts.program held (state_now parts)) → t ≡ held.task → held.phase ≡ at
    → Held parts held t s.def at
held_as parts held t at s who place = record {
  was = s.task;
  is_def = ap (slice_get parts.program.tasks.items) who ∙ s.is_def;
  is_task = ap (slice_get (state_now parts).tasks) who ∙ s.is_task;
  who = who;
  program = s.same;
  held_def = ap (λ (z : Program). def_of z held.task) s.same ∙ def_is parts.program held.task s.def s.is_def;
  place = place;
  stands = subst (λ (q : Phase). StandsAs s.def q held.copy s.task) place s.stands;
}

-- the same, where the code has read the task
pub held_at : (parts : BookParts) (held : Record) (t : ℕ) (def : TaskDef) (at : Phase) (l : Ledger) (prog : Program) → ledger_of parts ≡ l → prog ≡ l.program
    → StandsFor prog held (final prog l.history) → t ≡ held.task → slice_get prog.tasks.items t ≡ Some def → held.phase ≡ at → Held parts held t def at
held_at parts held t def at l prog view same stands who is_def place =
    let s = own (λ (q : Program) (es : List Entry). StandsFor q held (final q es)) parts l prog view same stands in
    let here : slice_get parts.program.tasks.items t ≡ Some def = subst (λ (q : Program). slice_get q.tasks.items t ≡ Some def)
    (same_program parts l prog view same) is_def in
    let one : s.def ≡ def = same_some (sym s.is_def ∙ ap (slice_get parts.program.tasks.items) (sym who) ∙ here) in
    subst (λ (d : TaskDef). Held parts held t d at) one (held_as parts held t at s who place)

-- the move that the caller asks for, in the book's own terms
pub may_move : (parts : BookParts) (held : Record) (t : ℕ) (l : Ledger) (prog : Program) → ledger_of parts ≡ l → prog ≡ l.program
    → MayMove prog (final prog l.history) held.task → t ≡ held.task → MayMove parts.program (state_now parts) t
may_move parts held t l prog view same may who =
    subst (MayMove parts.program (state_now parts)) (sym who) (own (λ (q : Program) (es : List Entry). MayMove q
    (final q es) held.task) parts l prog view same may)

-- where the book reads the phase of the task
pub read_at : (parts : BookParts) (held : Record) (t : ℕ) (def : TaskDef) (at q : Phase) → KeepsState parts → (h : Held parts held t def at) → h.was.phase ≡ q
    → slice_get parts.phases t ≡ Some q
read_at parts held t def at q k h is = phase_read parts t h.was k h.is_task ∙ ap Some is

-- a task that was started was handed out
pub handed_of : (parts : BookParts) (held : Record) (t : ℕ) (def : TaskDef) (at q : Phase) → KeepsState parts → (h : Held parts held t def at) → h.was.phase ≡ q
    → q ≢ phase.Waiting
    → slice_get parts.ready.handed t ≡ Some true
handed_of parts held t def at q k h is started = k.begun t q (read_at parts held t def at q k h is) started

-- a task that may move has room for its entry
pub entry_room : (parts : BookParts) (t : ℕ) → KeepsState parts → MayMove parts.program (state_now parts) t → length parts.entries < parts.entry_places
entry_room parts t k may = omega (arith, (short_after parts t k may).entries, k.places.entries)

-- and for what its move tells, which is counted in 32 bits
pub told_room : (parts : BookParts) (t : ℕ) (more : List Status) → KeepsState parts → MayMove parts.program (state_now parts) t
    → (move parts.program (state_now parts) t).state.statuses ≡ (state_now parts).statuses ++ more
    → length parts.statuses + length more ≤ parts.status_places
told_room parts t more k may told =
    let long = ap (λ (z : List Status). length z) told ∙ length-append (state_now parts).statuses more in
    let own = ap (λ (z : List Status). length z) k.legal.told in
    omega (arith, (short_after parts t k may).statuses, k.places.statuses)

pub told_count : (parts : BookParts) (t : ℕ) (more : List Status) → KeepsState parts → MayMove parts.program (state_now parts) t
    → (move parts.program (state_now parts) t).state.statuses ≡ (state_now parts).statuses ++ more → length parts.statuses + length more < 2 ^ 32
told_count parts t more k may told =
    let long = ap (λ (z : List Status). length z) told ∙ length-append (state_now parts).statuses more in
    let own = ap (λ (z : List Status). length z) k.legal.told in
    omega (arith, (short_after parts t k may).statuses, (bounds_few parts.program k.well).1)

-- there is room for the notices after a move
pub notice_room : (parts : BookParts) (t : ℕ) (notices : List ReqNo) → KeepsState parts → MayMove parts.program (state_now parts) t
    → notices ≡ (move parts.program (state_now parts) t).state.notices → length notices ≤ parts.notice_places
notice_room parts t notices k may are =
    omega (arith, ap (λ (z : List ReqNo). length z) are, (short_after parts t k may).notices, k.places.notices)

pub phases_counted : (parts : BookParts) → KeepsState parts → length parts.phases ≡ length parts.program.tasks.items
phases_counted parts k = phases_long parts.program (state_now parts) parts.phases (fits_now parts k) k.phases_are

pub place_within : (parts : BookParts) (held : Record) (t : ℕ) (def : TaskDef) (at : Phase) → KeepsState parts → Held parts held t def at
    → t < length parts.phases
place_within parts held t def at k h = slice_get_within parts.phases t h.was.phase (phase_read parts t h.was k h.is_task)

-- the end of the body
advanced_past : (def : TaskDef) (k : ℕ) (copy : List ℤ) → length def.body.items ≤ k → advanced def k copy ≡ copy
unfolding advanced
advanced_past def k copy past = ap (λ (ops : List Op). run_front def ops copy) (drop_end def.body.items k past)

stop_past : (def : TaskDef) (k : ℕ) → length def.body.items ≤ k → stop def k ≡ phase.Ended
stop_past def k past = sym (stop_ended def k k (stop_begins def k) past)

stands_if : (def : TaskDef) (k : ℕ) (copy : List ℤ) (task : Task) (more : Bool) → (more ≡ false → length def.body.items ≤ k) → task.phase ≡ stop def k
    → task.copy ≡ advanced def k copy → StandsAs def (cond more (phase.At k) phase.Ended) copy task
stands_if def k copy task true past at copied = (sym at, sym copied)
stands_if def k copy task false past at copied = (at ∙ stop_past def k (past refl), sym (copied ∙ advanced_past def k copy (past refl)))

-- where a task stands that has made the operations before this one
pub stands_before : (def : TaskDef) (k : ℕ) (copy : List ℤ) (task : Task) → task.phase ≡ stop def k → task.copy ≡ advanced def k copy
    → StandsAs def (phase_before def k) copy task
stands_before def k copy task at copied = stands_if def k copy task (ltb k (length def.body.items)) (ltb-false k (length def.body.items)) at copied
