-- What is known of the record of the task that a turn picks.
use Rattle.std.proofs.Common.{◌≡◌, ◌≢◌, ℕ, ◌<◌, Bool, true, false, List, length, slice_get, slice_set, get_or, Some, refl, sym, ap, ◌∙◌, subst, arith}
use Rattle.std.proofs.lemmas.Option.{slice_get_within, slice_get-get_or}
use Rattle.rt_base.specs.declared.data.Phase.{Phase}
use Rattle.rt_base.specs.declared.data.Phase.TheVariants as phase
use Rattle.rt_base.specs.declared.data.TaskDef.{TaskDef}
use Rattle.rt_base.specs.declared.data.Program.{Program}
use Rattle.rt_base.specs.Precedes.{MayStart}
use Rattle.rt_base.specs.State.{State, Task, let_go}
use Rattle.rt_base.specs.MayMove.{MayMove, MayMoveAt}
use Rattle.task_local.specs.StandsFor.{Record, StandsAs}
use Rattle.task_local.specs.Standing.{def, moved_on}
use Rattle.task_machine.specs.Legal.{final, IsQuiet}
use Rattle.book_parts.specs.Ledger.{Ledger, MakesMove, IsReady}
use Rattle.plain_run.specs.Turns.{is_started, IsInLine, AreInLine, GoesOn}
use Rattle.task_machine.proofs.Lists.{slice_get-set_same, slice_get-set_other}
use Rattle.plain_run.proofs.Lines.{goes_on}

same_some : {X : Type 0} {a b : X} → Some a ≡ Some b → a ≡ b
same_some e = cc

-- a started task doesn't wait
started_if : (at : Phase) → at ≢ phase.Waiting → is_started at ≡ true
started_if phase.Waiting other = absurd (other refl)
started_if (phase.At k) other = refl
started_if (phase.In k) other = refl
started_if phase.Ended other = refl
started_if phase.Returned other = refl
started_if phase.Released other = refl

waiting_if : (at : Phase) → is_started at ≡ false → at ≡ phase.Waiting
waiting_if phase.Waiting not_yet = refl
waiting_if (phase.At k) not_yet = absurd (cc)
waiting_if (phase.In k) not_yet = absurd (cc)
waiting_if phase.Ended not_yet = absurd (cc)
waiting_if phase.Returned not_yet = absurd (cc)
waiting_if phase.Released not_yet = absurd (cc)

-- the record of an existing task
pub here_is : (old : Ledger) (recs : List Record) (t : ℕ) (held : Record) → AreInLine old recs → t < length old.program.tasks.items
    → slice_get recs t ≡ Some (get_or recs t held)
here_is old recs t held line exists =
    let counted = line.counted in
    slice_get-get_or recs t held (omega arith)

pub line_here : (p : Program) (old : Ledger) (recs : List Record) (t : ℕ) (held : Record) → p ≡ old.program → AreInLine old recs
    → t < length old.program.tasks.items
    → IsInLine p (final p old.history) old.handed t (get_or recs t held)
line_here p old recs t held same line exists =
    subst (λ (q : Program). IsInLine q (final q old.history) old.handed t (get_or recs t held)) (sym same)
    (line.each t (get_or recs t held) (here_is old recs t held line exists))

pub task_exists : (p : Program) (old : Ledger) (t : ℕ) → p ≡ old.program → MayMove p (final p old.history) t → t < length old.program.tasks.items
task_exists p old t same may = subst (λ (q : Program). t < length q.tasks.items) same (slice_get_within p.tasks.items t may.def may.is_def)

-- the same by the record's own number
pub own_line : (p : Program) (s : State) (handed : List Bool) (t : ℕ) (held : Record) → IsInLine p s handed t held → IsInLine p s handed held.task held
own_line p s handed t held line = subst (λ (v : ℕ). IsInLine p s handed v held) (sym line.mine) line

pub own_may : (p : Program) (s : State) (handed : List Bool) (t : ℕ) (held : Record) → IsInLine p s handed t held → MayMove p s t → MayMove p s held.task
own_may p s handed t held line may = subst (λ (v : ℕ). MayMove p s v) (sym line.mine) may

task_waits : (d : TaskDef) (at : Phase) (held : Record) (task : Task) → StandsAs d held.phase held.copy task → held.phase ≡ phase.Waiting
    → task.phase ≡ phase.Waiting
task_waits d at held task stands waits = subst (λ (q : Phase). StandsAs d q held.copy task) waits stands

-- a task that may move where none is ready was started
pub was_started : (p : Program) (old : Ledger) (t : ℕ) (held : Record) → p ≡ old.program → IsInLine p (final p old.history) old.handed t held
    → MayMove p (final p old.history) t
    → ((u : ℕ) → ¬ IsReady old u) → held.phase ≢ phase.Waiting
was_started p old t held same line may none = λ waits.
    let s = final p old.history in
    let one_task : may.task ≡ line.stands.task = same_some (sym may.is_task ∙ ap (slice_get s.tasks) (sym line.mine) ∙ line.stands.is_task) in
    let waiting : may.task.phase ≡ phase.Waiting = ap (λ (x : Task). x.phase) one_task
    ∙ task_waits line.stands.def held.phase held line.stands.task line.stands.stands waits in
    let start : MayStart p (let_go s.tasks) t = subst (λ (q : Phase). MayMoveAt p s.tasks s.exchange t may.def may.task q) waiting may.enabled in
    none t (
      line.handed_out ∙ ap (λ (q : Phase). Some (is_started q)) waits,
      subst
          (λ (q : Program). MayStart q (let_go (final q old.history).tasks) t) same start,
    )

-- local operations leave a record to its task
moved_on_task : (d : TaskDef) (at : Phase) (held : Record) → (moved_on d at held).task ≡ held.task
moved_on_task d phase.Waiting held = refl
moved_on_task d (phase.At k) held = refl
moved_on_task d (phase.In k) held = refl
moved_on_task d phase.Ended held = refl
moved_on_task d phase.Returned held = refl
moved_on_task d phase.Released held = refl

-- the turn of a task that was started
pub goes_on_started : (p : Program) (old new : Ledger) (recs : List Record) (t : ℕ) (held after : Record) → p ≡ old.program → AreInLine old recs
    → MayMove p (final p old.history) t
    → ((u : ℕ) → ¬ IsReady old u) → MakesMove old new (moved_on (def (get_or recs t held)) (get_or recs t held).phase (get_or recs t held)) after
    → GoesOn old new (slice_set recs t after)
goes_on_started p old new recs t held after same line may none made =
    let exists = task_exists p old t same may in
    let own = line_here p old recs t held same line exists in
    goes_on old new old.handed recs t (get_or recs t held) _ after (moved_on_task (def (get_or recs t held)) (get_or recs t held).phase
    (get_or recs t held)) line (λ u other. refl)
    (own.handed_out ∙ ap Some (started_if (get_or recs t held).phase (was_started p old t (get_or recs t held) same own may none)))
    (here_is old recs t held line exists) (subst (λ (q : Program). MayMove q (final q old.history) t) same may) made

-- the end of the run
pub quiet_here : (p : Program) (old : Ledger) → p ≡ old.program → IsQuiet p (final p old.history) → IsQuiet old.program (final old.program old.history)
quiet_here p old same quiet = subst (λ (q : Program). IsQuiet q (final q old.history)) same quiet

-- a task that is ready is one of the program's, and its record is fresh
pub ready_exists : (old : Ledger) (t : ℕ) → IsReady old t → t < length old.program.tasks.items
ready_exists old t ready = ready.1.exists

pub ready_waits : (p : Program) (old : Ledger) (t : ℕ) (held : Record) → IsInLine p (final p old.history) old.handed t held → IsReady old t
    → held.phase ≡ phase.Waiting
ready_waits p old t held line ready = waiting_if held.phase (same_some (sym line.handed_out ∙ ready.0))

pub ready_may : (p : Program) (old : Ledger) (t : ℕ) (held : Record) → p ≡ old.program → IsInLine p (final p old.history) old.handed t held → IsReady old t
    → MayMove p (final p old.history) held.task
ready_may p old t held same line ready =
    let s = final p old.history in
    let waiting : line.stands.task.phase ≡ phase.Waiting = task_waits line.stands.def held.phase held line.stands.task line.stands.stands
    (ready_waits p old t held line ready) in
    let start : MayStart p (let_go s.tasks) t = subst (λ (q : Program). MayStart q (let_go (final q old.history).tasks) t) (sym same) ready.1 in
    record {
      def = line.stands.def;
      task = line.stands.task;
      is_def = line.stands.is_def;
      is_task = line.stands.is_task;
      enabled = subst (λ (q : Phase). MayMoveAt p s.tasks s.exchange held.task line.stands.def line.stands.task q) (sym waiting)
          (subst (λ (v : ℕ). MayStart p (let_go s.tasks) v) (sym line.mine) start);
    }

pub ready_handed : (p : Program) (old given : Ledger) (t : ℕ) (held : Record) → IsInLine p (final p old.history) old.handed t held
    → given ≡ record old { handed = slice_set old.handed t true } → IsReady old t
    → slice_get given.handed held.task ≡ Some true
ready_handed p old given t held line handed ready =
    ap (λ (l : Ledger). slice_get l.handed held.task) handed ∙ ap (slice_get (slice_set old.handed t true)) line.mine
    ∙ slice_get-set_same old.handed t true (slice_get_within old.handed t false ready.0)

pub given_history : (old given : Ledger) (t : ℕ) → given ≡ record old { handed = slice_set old.handed t true } → given.history ≡ old.history
given_history old given t handed = ap (λ (l : Ledger). l.history) handed

-- the turn of a task that is ready
pub goes_on_ready : (p : Program) (old given new : Ledger) (recs : List Record) (t : ℕ) (held after : Record) → p ≡ old.program → AreInLine old recs
    → IsReady old t → given ≡ record old { handed = slice_set old.handed t true } → MakesMove given new (get_or recs t held) after
    → GoesOn old new (slice_set recs t after)
goes_on_ready p old given new recs t held after same line ready handed made =
    let own = line_here p old recs t held same line ready.1.exists in
    let may : MayMove p (final p old.history) t = subst (MayMove p (final p old.history)) own.mine (ready_may p old t (get_or recs t held) same own ready) in
    goes_on old new (slice_set old.handed t true) recs t (get_or recs t held) (get_or recs t held) after refl line
    (λ u other. slice_get-set_other old.handed t u true other)
    (slice_get-set_same old.handed t true (slice_get_within old.handed t false ready.0))
    (here_is old recs t held line ready.1.exists) (subst (λ (q : Program). MayMove q (final q old.history) t) same may)
    (subst (λ (l : Ledger). MakesMove l new (get_or recs t held) after) handed made)
