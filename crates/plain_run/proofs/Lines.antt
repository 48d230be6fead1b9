-- The records of all tasks stand for them before and after each move.
use Rattle.std.proofs.Common.{◌≡◌, ◌≢◌, ℕ, zero, suc, ◌+◌, ◌*◌, ◌<◌, ◌≤◌, Bool, true, false, ◌⊎◌, List, [], ◌∷◌, ◌++◌, length, take, drop, slice_get}
use Rattle.std.proofs.Common.{slice_set, replicate, Some, refl, sym, ap, ◌∙◌, subst, inl, inr, arith}
use Rattle.std.specs.Prelude.{ℤ, option_map}
use Rattle.std.proofs.Math.ListN.{length-set}
use Rattle.std.proofs.Math.Seq.{take-append_seam}
use Rattle.std.proofs.lemmas.Option.{slice_get_within}
use Rattle.rt_base.specs.declared.data.Phase.{Phase}
use Rattle.rt_base.specs.declared.data.Phase.TheVariants as phase
use Rattle.rt_base.specs.declared.data.Entry.{Entry}
use Rattle.rt_base.specs.declared.data.TaskDef.{TaskDef}
use Rattle.rt_base.specs.declared.data.Program.{Program}
use Rattle.rt_base.specs.State.{State, Task, opening, waiting_task}
use Rattle.rt_base.specs.MayMove.{MayMove, MayMoveAt}
use Rattle.task_local.specs.StandsFor.{Record, StandsFor, StandsAs}
use Rattle.task_local.specs.Standing.{def}
use Rattle.task_machine.specs.Machine.{move}
use Rattle.task_machine.specs.Legal.{final, phases_of, IsQuiet}
use Rattle.book_parts.specs.Ledger.{Ledger, MakesMove, new_ledger}
use Rattle.task_machine.specs.Course.{all_left}
use Rattle.plain_run.specs.Turns.{is_started, HasOperation, IsInLine, AreInLine, IsFresh, AreFresh, left, turns_left, GoesOn, EndsTurn, IsRunning}
use Rattle.task_machine.proofs.Lists.{slice_get-set_same, slice_get-set_other, slice_get-map}
use Rattle.task_machine.proofs.Items.{same_some, either_place, at_replicate}
use Rattle.task_machine.proofs.Moves.{all_left-set}
use Rattle.run_bounds.proofs.Moves.{phases_after}
use Rattle.book_parts.proofs.Held.{def_is}
use Rattle.plain_run.proofs.Others.{IsAble, OnlyMoves, move_others, stop_able}

-- an item after one was written
item_after : {X : Type 0} (xs : List X) (t u : ℕ) (x y : X) → t < length xs → slice_get (slice_set xs t x) u ≡ Some y
    → ((u ≡ t) × (x ≡ y)) ⊎ ((u ≢ t) × (slice_get xs u ≡ Some y))
item_after xs t u x y within here = elim (either_place u t) [
  | inl same ↦ inl (same, same_some (sym (slice_get-set_same xs t x within) ∙ ap (slice_get (slice_set xs t x)) (sym same) ∙ here))
  | inr other ↦ inr (other, sym (slice_get-set_other xs t u x other) ∙ here)
]

-- the definition of the record's task
pub own_line_def : (p : Program) (held : Record) (s : State) (a : StandsFor p held s) → def held ≡ a.def
own_line_def p held s a = def_is held.program held.task a.def (ap (λ (q : Program). slice_get q.tasks.items held.task) a.same ∙ a.is_def)

-- a released task can't move
pub not_released : (p : Program) (s : State) (t : ℕ) (task : Task) → MayMove p s t → slice_get s.tasks t ≡ Some task → task.phase ≢ phase.Released
not_released p s t task may here released =
    let there : may.task.phase ≡ phase.Released = ap (λ (x : Task). x.phase) (same_some (sym may.is_task ∙ here)) ∙ released in
    subst (λ (at : Phase). MayMoveAt p s.tasks s.exchange t may.def may.task at) there may.enabled

-- a task for which a record stands may be moved on where it may move
able_as : (d : TaskDef) (at : Phase) (copy : List ℤ) (task : Task) → StandsAs d at copy task → HasOperation d at → task.phase ≢ phase.Released
    → IsAble d task.phase
able_as d phase.Waiting copy task stands placed held = subst (IsAble d) (sym stands) tt
able_as d (phase.At k) copy task stands placed held = subst (IsAble d) stands.0 (stop_able d k)
able_as d (phase.In k) copy task stands placed held = subst (IsAble d) (sym stands.0) placed
able_as d phase.Ended copy task stands placed held = subst (IsAble d) (sym stands.0) tt
able_as d phase.Returned copy task stands placed held = subst (IsAble d) (sym stands.0) tt
able_as d phase.Released copy task stands placed held = absurd (held stands.0)

-- what is known of a task is known of its record
started_as : (d : TaskDef) (at : Phase) (copy : List ℤ) (task : Task) → StandsAs d at copy task → is_started task.phase ≡ true → is_started at ≡ true
started_as d phase.Waiting copy task stands started = sym (ap is_started stands) ∙ started
started_as d (phase.At k) copy task stands started = refl
started_as d (phase.In k) copy task stands started = refl
started_as d phase.Ended copy task stands started = refl
started_as d phase.Returned copy task stands started = refl
started_as d phase.Released copy task stands started = refl

placed_as : (d : TaskDef) (at : Phase) (copy : List ℤ) (task : Task) → StandsAs d at copy task → HasOperation d task.phase → HasOperation d at
placed_as d phase.Waiting copy task stands placed = tt
placed_as d (phase.At k) copy task stands placed = tt
placed_as d (phase.In k) copy task stands placed = subst (HasOperation d) stands.0 placed
placed_as d phase.Ended copy task stands placed = tt
placed_as d phase.Returned copy task stands placed = tt
placed_as d phase.Released copy task stands placed = tt

-- the moves of a task whose record is in line
line_moves : (p : Program) (s : State) (handed : List Bool) (t : ℕ) (held : Record) → MayMove p s t → (a : IsInLine p s handed t held)
    → OnlyMoves p s t a.stands.def a.stands.task (move p s t).state (move p s t).entry
line_moves p s handed t held may a =
    let d = a.stands.def in
    let is_task : slice_get s.tasks t ≡ Some a.stands.task = ap (slice_get s.tasks) (sym a.mine) ∙ a.stands.is_task in
    move_others p s t d a.stands.task (ap (slice_get p.tasks.items) (sym a.mine) ∙ a.stands.is_def) is_task
    (able_as d held.phase held.copy a.stands.task a.stands.stands
    (subst (λ (x : TaskDef). HasOperation x held.phase) (own_line_def p held s a.stands) a.placed)
    (not_released p s t a.stands.task may is_task))

-- the record of the task that moved
mover_in_line : (p : Program) (s new : State) (handed : List Bool) (t : ℕ) (d : TaskDef) (was : Task) (e : Entry) (after : Record)
    → OnlyMoves p s t d was new e → slice_get p.tasks.items t ≡ Some d
    → t < length s.tasks → after.task ≡ t → StandsFor p after new → slice_get handed t ≡ Some true → IsInLine p new handed t after
mover_in_line p s new handed t d was e after moves is_def within mine stands given =
    let one_def : stands.def ≡ d = same_some (sym stands.is_def ∙ ap (slice_get p.tasks.items) mine ∙ is_def) in
    let one_task : stands.task ≡ moves.now = same_some (sym stands.is_task ∙ ap (slice_get new.tasks) mine
    ∙ ap (λ (xs : List Task). slice_get xs t) moves.tasks ∙ slice_get-set_same s.tasks t moves.now within) in
    record {
      mine = mine;
      stands = stands;
      placed = subst (λ (x : TaskDef). HasOperation x after.phase) (sym (own_line_def p after new stands))
          (placed_as stands.def after.phase after.copy stands.task stands.stands
          (subst (λ (x : TaskDef). HasOperation x stands.task.phase) (sym one_def) (subst (λ (x : Task). HasOperation d x.phase) (sym one_task) moves.placed)));
      handed_out = given ∙ ap Some (sym (started_as stands.def after.phase after.copy stands.task stands.stands
          (ap (λ (x : Task). is_started x.phase) one_task ∙ moves.started)));
    }

-- the record of another task
other_in_line : (p : Program) (s new : State) (old marks : List Bool) (t u : ℕ) (d : TaskDef) (was : Task) (e : Entry) (held : Record)
    → OnlyMoves p s t d was new e → u ≢ t
    → slice_get marks u ≡ slice_get old u → IsInLine p s old u held → IsInLine p new marks u held
other_in_line p s new old marks t u d was e held moves other same a = record {
  mine = a.mine;
  stands = record {
    same = a.stands.same;
    def = a.stands.def;
    task = a.stands.task;
    is_def = a.stands.is_def;
    is_task = ap (slice_get new.tasks) a.mine ∙ ap (λ (xs : List Task). slice_get xs u) moves.tasks ∙ slice_get-set_other s.tasks t u moves.now other
        ∙ ap (slice_get s.tasks) (sym a.mine) ∙ a.stands.is_task;
    stands = a.stands.stands;
  };
  placed = a.placed;
  handed_out = same ∙ a.handed_out;
}

-- fewer moves are left
fewer_left : (p : Program) (s new : State) (t : ℕ) (d : TaskDef) (was : Task) (e : Entry) → OnlyMoves p s t d was new e → slice_get p.tasks.items t ≡ Some d
    → slice_get s.tasks t ≡ Some was
    → all_left p.tasks.items (phases_of new.tasks) + 1 ≤ all_left p.tasks.items (phases_of s.tasks)
fewer_left p s new t d was e moves is_def is_task =
    let is_phase : slice_get (phases_of s.tasks) t ≡ Some was.phase = slice_get-map (λ (x : Task). x.phase) s.tasks t
    ∙ ap (option_map (λ (x : Task). x.phase)) is_task in
    subst (λ (phases : List Phase). all_left p.tasks.items phases + 1 ≤ all_left p.tasks.items (phases_of s.tasks)) (phases_after s new t moves.now moves.tasks)
    (all_left-set p.tasks.items (phases_of s.tasks) t d was.phase moves.now.phase is_def is_phase moves.fewer)

-- the records after a move, of this state
record Onward (p : Program) (s new : State) (marks : List Bool) (recs : List Record) : Type 0 where
  counted : length recs ≡ length p.tasks.items
  each : (u : ℕ) (held : Record) → slice_get recs u ≡ Some held → IsInLine p new marks u held
  fewer : all_left p.tasks.items (phases_of new.tasks) + 1 ≤ all_left p.tasks.items (phases_of s.tasks)
  noticed : length new.notices ≤ length s.notices + 1

onward : (p : Program) (s new : State) (old marks : List Bool) (recs : List Record) (t : ℕ) (before after : Record) → MayMove p s t
    → length recs ≡ length p.tasks.items → ((u : ℕ) (held : Record) → slice_get recs u ≡ Some held → IsInLine p s old u held)
    → ((u : ℕ) → u ≢ t → slice_get marks u ≡ slice_get old u) → slice_get marks t ≡ Some true → slice_get recs t ≡ Some before
    → (move p s t).state ≡ new → after.task ≡ t → StandsFor p after new → Onward p s new marks (slice_set recs t after)
onward p s new old marks recs t before after may counted each others given here moved mine stands =
    let a = each t before here in
    let moves : OnlyMoves p s t a.stands.def a.stands.task new (move p s t).entry =
    subst (λ (x : State). OnlyMoves p s t a.stands.def a.stands.task x (move p s t).entry) moved (line_moves p s old t before may a) in
    let is_def : slice_get p.tasks.items t ≡ Some a.stands.def = ap (slice_get p.tasks.items) (sym a.mine) ∙ a.stands.is_def in
    let is_task : slice_get s.tasks t ≡ Some a.stands.task = ap (slice_get s.tasks) (sym a.mine) ∙ a.stands.is_task in
    record {
      counted = length-set recs t after ∙ counted;
      each = λ u held there. elim (item_after recs t u after held (slice_get_within recs t before here) there) [
        | inl own ↦ subst (λ (x : Record). IsInLine p new marks u x) own.1 (subst (λ (v : ℕ). IsInLine p new marks v after) (sym own.0)
            (mover_in_line p s new marks t a.stands.def a.stands.task (move p s t).entry after moves is_def
            (slice_get_within s.tasks t a.stands.task is_task) mine stands given))
        | inr other ↦ other_in_line p s new old marks t u a.stands.def a.stands.task (move p s t).entry held moves other.0 (others u other.0)
            (each u held other.1)
      ];
      fewer = fewer_left p s new t a.stands.def a.stands.task (move p s t).entry moves is_def is_task;
      noticed = moves.noticed;
    }

-- a move takes one from the moves that are left and adds at most one notice
fewer_turns : (left left' notices notices' : ℕ) → left' + 1 ≤ left → notices' ≤ notices + 1 → (2 * left' + notices') + 1 ≤ 2 * left + notices
fewer_turns left left' notices notices' fewer more = omega arith

-- a turn: the records are in line after a move of one of them
pub goes_on : (old new : Ledger) (marks : List Bool) (recs : List Record) (t : ℕ) (before mid after : Record) → mid.task ≡ before.task
    → AreInLine old recs → ((u : ℕ) → u ≢ t → slice_get marks u ≡ slice_get old.handed u) → slice_get marks t ≡ Some true
    → slice_get recs t ≡ Some before → MayMove old.program (final old.program old.history) t → MakesMove (record old { handed = marks }) new mid after
    → GoesOn old new (slice_set recs t after)
goes_on old new marks recs t before mid after same_task line others given here may made =
    let p = old.program in
    let s = final p old.history in
    let mine : before.task ≡ t = (line.each t before here).mine in
    let moved : (move p s t).state ≡ final p new.history =
    ap (λ (v : ℕ). (move p s v).state) (sym (same_task ∙ mine)) ∙ sym made.state in
    let now = onward p s (final p new.history) old.handed marks recs t before after may line.counted line.each others given here moved (made.task
    ∙ same_task ∙ mine) made.stands in
    record {
      program = made.program;
      workers = made.workers;
      in_line = record {
        counted = now.counted ∙ ap (λ (q : Program). length q.tasks.items) (sym made.program);
        each = λ u held there. subst (λ (q : Program). IsInLine q (final q new.history) new.handed u held) (sym made.program)
            (subst (λ (h : List Bool). IsInLine p (final p new.history) h u held) (sym made.handed) (now.each u held there));
      };
      fewer = subst (λ (q : Program). (2 * all_left q.tasks.items (phases_of (final q new.history).tasks) + length (final q new.history).notices) + 1
          ≤ turns_left old) (sym made.program) (fewer_turns (left old) _ (length s.notices) _ now.fewer now.noticed);
    }

-- an item of a list with one more
pushed : {X : Type 0} (xs : List X) (x : X) (u : ℕ) (y : X) → slice_get (xs ++ x ∷ []) u ≡ Some y → (slice_get xs u ≡ Some y) ⊎ ((u ≡ length xs) × (x ≡ y))
pushed [] x zero y here = inr (refl, same_some here)
pushed [] x (suc u) y here = absurd (cc)
pushed (z ∷ xs) x zero y here = inl here
pushed (z ∷ xs) x (suc u) y here = elim (pushed xs x u y here) [ inl before ↦ inl before | inr last ↦ inr (omega (arith, last.0), last.1) ]

-- one fresh record more
pub fresh_more : (p : Program) (recs : List Record) (held : Record) (t : ℕ) → AreFresh p recs → length recs ≡ t → held.program ≡ p → held.task ≡ t
    → held.phase ≡ phase.Waiting → AreFresh p (recs ++ held ∷ [])
fresh_more p recs held t fresh counted same mine waits = λ u x there. elim (pushed recs held u x there) [
  | inl before ↦ fresh u x before
  | inr last ↦ subst (λ (y : Record). IsFresh p u y) last.1 (record { same = same; mine = mine ∙ sym (last.0 ∙ counted); waits = waits })
]

-- fresh records of all tasks are in line at the opening
fresh_line : (p : Program) (t : ℕ) (held : Record) (d : TaskDef) → IsFresh p t held → slice_get p.tasks.items t ≡ Some d
    → IsInLine p (opening p) (replicate (length p.tasks.items) false) t held
fresh_line p t held d fresh is_def =
    let within : t < length p.tasks.items = slice_get_within p.tasks.items t d is_def in
    record {
      mine = fresh.mine;
      stands = record {
        same = fresh.same;
        def = d;
        task = waiting_task;
        is_def = ap (slice_get p.tasks.items) fresh.mine ∙ is_def;
        is_task = ap (slice_get (replicate (length p.tasks.items) waiting_task)) fresh.mine ∙ at_replicate (length p.tasks.items) waiting_task t within;
        stands = subst (λ (at : Phase). StandsAs d at held.copy waiting_task) (sym fresh.waits) refl;
      };
      placed = subst (HasOperation (def held)) (sym fresh.waits) tt;
      handed_out = at_replicate (length p.tasks.items) false t within ∙ ap (λ (at : Phase). Some (is_started at)) (sym fresh.waits);
    }

some_item : {X : Type 0} (xs : List X) (i : ℕ) → i < length xs → (x : X) × (slice_get xs i ≡ Some x)
some_item [] i within = absurd (omega arith)
some_item (x ∷ xs) zero within = (x, refl)
some_item (x ∷ xs) (suc i) within = some_item xs i (omega arith)

pub line_at_opening : (p : Program) (w : ℕ) (book : Ledger) (recs : List Record) → book ≡ new_ledger p w → length recs ≡ length p.tasks.items
    → AreFresh p recs → AreInLine book recs
line_at_opening p w book recs new counted fresh = subst (λ (b : Ledger). AreInLine b recs) (sym new) (record {
  counted = counted;
  each = λ t held here.
      let within : t < length recs = slice_get_within recs t held here in
      let own = some_item p.tasks.items t (omega arith) in
      fresh_line p t held own.0 (fresh t held here) own.1;
})

-- a whole list put back where it was lent
pub lent_back : {X : Type 0} (new old : List X) (len : ℕ) → length new ≡ len → take len (new ++ drop (length new) old) ≡ new
lent_back new old len is_new = ap (λ (n : ℕ). take n (new ++ drop (length new) old)) (sym is_new) ∙ take-append_seam new (drop (length new) old)

-- the run after a turn that made a move
pub still_running : (p : Program) (old new : Ledger) (before after : List Record) (len : ℕ) (moved : Bool) → length before ≡ len → IsRunning p old before
    → EndsTurn old new after moved → moved ≡ true
    → IsRunning p new (take len (after ++ drop (length after) before))
still_running p old new before after len false counted running turn made = absurd (cc)
still_running p old new before after len true counted running turn made =
    let tasks : length old.program.tasks.items ≡ length new.program.tasks.items = ap (λ (q : Program). length q.tasks.items) (sym turn.program) in
    record {
      of_program = turn.program ∙ running.of_program;
      alone = turn.workers ∙ running.alone;
      in_line = subst (AreInLine new) (sym (lent_back after before len (turn.in_line.counted ∙ sym tasks ∙ sym running.in_line.counted
          ∙ counted))) turn.in_line;
    }

-- the turn that ends the run leaves the book as it is
unmoved : (old new : Ledger) (after : List Record) (moved : Bool) → EndsTurn old new after moved → moved ≡ false
    → (new ≡ old) × IsQuiet old.program (final old.program old.history)
unmoved old new after true turn still = absurd (cc)
unmoved old new after false turn still = turn

-- what holds before the last turn holds of the run at its end
at_the_end : (P : Program → List Entry → Type 0) (p : Program) (old new : Ledger) (es : List Entry) → old.program ≡ p → es ≡ new.history → new ≡ old
    → P old.program old.history → P p es
at_the_end P p old new es programs entries same before =
    subst (P p) (sym (entries ∙ ap (λ (l : Ledger). l.history) same)) (subst (λ (q : Program). P q old.history) programs before)

pub quiet_end : (p : Program) (old new : Ledger) (after : List Record) (es : List Entry) (moved : Bool) → old.program ≡ p → es ≡ new.history
    → EndsTurn old new after moved → moved ≡ false → IsQuiet p (final p es)
quiet_end p old new after es moved programs entries turn still =
    let last = unmoved old new after moved turn still in
    at_the_end (λ (q : Program) (xs : List Entry). IsQuiet q (final q xs)) p old new es programs entries last.0 last.1

pub told_end : (p : Program) (old new : Ledger) (after : List Record) (es : List Entry) (moved : Bool) → old.program ≡ p → es ≡ new.history
    → EndsTurn old new after moved → moved ≡ false → (moved ≡ false → (final p old.history).notices ≡ []) → (final p es).notices ≡ []
told_end p old new after es moved programs entries turn still told =
    at_the_end (λ (q : Program) (xs : List Entry). (final p xs).notices ≡ []) p old new es programs entries (unmoved old new after moved turn still).0
    (told still)
