-- A move of a task changes no other task, and leaves fewer moves.
use Rattle.std.proofs.Common.{◌≡◌, ℕ, zero, suc, ◌+◌, ◌-◌, ◌*◌, ◌<◌, ◌≤◌, Bool, true, false, List, [], ◌∷◌, ◌++◌, length, drop, slice_get, slice_set}
use Rattle.std.proofs.Common.{Option, Some, None, refl, sym, ap, ◌∙◌, subst, drop-drop, arith}
use Rattle.std.specs.Prelude.{◌&&◌, not, cond, ⊤}
use Rattle.std.proofs.lemmas.List.{length-append}
use Rattle.std.proofs.lemmas.Option.{slice_get_within}
use Rattle.rt_base.specs.declared.data.ReqNo.{ReqNo}
use Rattle.rt_base.specs.declared.data.Phase.{Phase}
use Rattle.rt_base.specs.declared.data.Phase.TheVariants as phase
use Rattle.rt_base.specs.declared.data.Handle.{Handle}
use Rattle.rt_base.specs.declared.data.Op.{Op}
use Rattle.rt_base.specs.declared.data.Op.TheVariants as op
use Rattle.rt_base.specs.declared.data.Entry.{Entry}
use Rattle.rt_base.specs.declared.data.TaskDef.{TaskDef}
use Rattle.rt_base.specs.declared.data.Program.{Program}
use Rattle.rt_base.specs.Exchange.{Exchange, partner}
use Rattle.rt_base.specs.Completion.{is_complete}
use Rattle.rt_base.specs.Operations.{blocks, named_requests, nth_at, request}
use Rattle.rt_base.specs.State.{State, Task}
use Rattle.task_local.specs.Regions.{loaded}
use Rattle.task_local.specs.Local.{advanced, stop_at, stop}
use Rattle.task_local.specs.Waits.{taken, taken_at_release}
use Rattle.task_local.specs.Packed.{packed}
use Rattle.task_local.specs.Standing.{IsCall}
use Rattle.task_machine.specs.Machine.{Moved, move, move_at, call_move, post_move, await_move, is_expected, noticed, open_ones}
use Rattle.task_machine.specs.Legal.{caller}
use Rattle.task_machine.specs.Course.{moves_left}
use Rattle.plain_run.specs.Turns.{is_started, HasOperation}
use Rattle.task_machine.proofs.Rows.{move-row}
use Rattle.run_bounds.proofs.Changes.{fewer_at_start, fewer_after_leave, left_by_stop}

-- a task that stands there may be moved on: before a call or in an operation, or before its start, its return or its release
abbrev pub IsAble : TaskDef → Phase → Type 0
IsAble def phase.Waiting = ⊤
IsAble def (phase.At k) = IsCall (slice_get def.body.items k)
IsAble def (phase.In k) = k < length def.body.items
IsAble def phase.Ended = ⊤
IsAble def phase.Returned = ⊤
IsAble def phase.Released = ⊥

-- what a move of task t changes of the tasks
pub record OnlyMoves (p : Program) (s : State) (t : ℕ) (def : TaskDef) (was : Task) (new : State) (e : Entry) : Type 0 where
  pub now : Task
  pub tasks : new.tasks ≡ slice_set s.tasks t now
  pub who : caller (length p.tasks.items) e ≡ t
  pub started : is_started now.phase ≡ true
  pub placed : HasOperation def now.phase
  pub fewer : moves_left (length def.body.items) now.phase + 1 ≤ moves_left (length def.body.items) was.phase
  pub noticed : length new.notices ≤ length s.notices + 1

one_or_none : (holds : Bool) (req : ReqNo) → length (cond holds (req ∷ []) []) ≤ 1
one_or_none true req = omega arith
one_or_none false req = omega arith

-- a posting adds at most one notice
noticed_once : (found : Option ReqNo) (p : Program) (tasks : List Task) (before : Exchange) → length (noticed p tasks before found) ≤ 1
noticed_once None p tasks before = omega arith
noticed_once (Some req) p tasks before = one_or_none (not (is_complete p before req) && is_expected p tasks req) req

told_once : (notices more : List ReqNo) → length more ≤ 1 → length (notices ++ more) ≤ length notices + 1
told_once notices more few = omega (arith, length-append notices more)

-- where a task stops it is started, and in no operation
stop_at_started : (k : ℕ) (ops : List Op) → is_started (stop_at k ops) ≡ true
stop_at_started k [] = refl
stop_at_started k (op.Compute kind dst left right value step ∷ ops) = stop_at_started (k + 1) ops
stop_at_started k (op.Post how span peer tag comm status ∷ ops) = refl
stop_at_started k (op.Await later handles status ∷ ops) = refl

stop_at_placed : (def : TaskDef) (k : ℕ) (ops : List Op) → HasOperation def (stop_at k ops)
stop_at_placed def k [] = tt
stop_at_placed def k (op.Compute kind dst left right value step ∷ ops) = stop_at_placed def (k + 1) ops
stop_at_placed def k (op.Post how span peer tag comm status ∷ ops) = tt
stop_at_placed def k (op.Await later handles status ∷ ops) = tt

pub stop_is_started : (def : TaskDef) (k : ℕ) → is_started (stop def k) ≡ true
unfolding stop
stop_is_started def k = stop_at_started k (drop k def.body.items)

stop_is_placed : (def : TaskDef) (k : ℕ) → HasOperation def (stop def k)
unfolding stop
stop_is_placed def k = stop_at_placed def k (drop k def.body.items)

-- a call is an operation of the body
call_within : (def : TaskDef) (k : ℕ) (o : Option Op) → slice_get def.body.items k ≡ o → IsCall o → k < length def.body.items
call_within def k None here call = absurd call
call_within def k (Some x) here call = slice_get_within def.body.items k x here

fewer_past : (n k left : ℕ) → k < n → left ≤ 2 * (n - (k + 1)) + 2 → left + 1 ≤ 2 * (n - k) + 2
fewer_past n k left within few = omega arith

-- a call that blocks leaves a move fewer
fewer_in : (def : TaskDef) (was : Task) (k : ℕ) → was.phase ≡ phase.At k
    → moves_left (length def.body.items) (phase.In k) + 1 ≤ moves_left (length def.body.items) was.phase
fewer_in def was k at = rw at (omega arith)

-- and so does one that goes on
fewer_on : (def : TaskDef) (was : Task) (k : ℕ) → was.phase ≡ phase.At k → k < length def.body.items
    → moves_left (length def.body.items) (stop def (k + 1)) + 1 ≤ moves_left (length def.body.items) was.phase
fewer_on def was k at within = rw at (fewer_past (length def.body.items) k _ within (left_by_stop def (k + 1) (omega arith)))

-- the row of a posting
post_row : (p : Program) (s : State) (t : ℕ) (def : TaskDef) (was : Task) (k : ℕ) (blocking : Bool) → was.phase ≡ phase.At k → k < length def.body.items
    → OnlyMoves p s t def was (post_move p s t def was k blocking).state (post_move p s t def was k blocking).entry
post_row p s t def was k false at within = record {
  now = record was { phase = stop def (k + 1); copy = advanced def (k + 1) was.copy };
  tasks = refl;
  who = refl;
  started = stop_is_started def (k + 1);
  placed = stop_is_placed def (k + 1);
  fewer = fewer_on def was k at within;
  noticed = told_once s.notices _ (noticed_once (partner p s.exchange (request t (nth_at def k)) (packed def k was.copy)) p s.tasks s.exchange);
}
post_row p s t def was k true at within = record {
  now = record was { phase = phase.In k };
  tasks = refl;
  who = refl;
  started = refl;
  placed = within;
  fewer = fewer_in def was k at;
  noticed = told_once s.notices _ (noticed_once (partner p s.exchange (request t (nth_at def k)) (packed def k was.copy)) p s.tasks s.exchange);
}

-- the row of a wait
await_row : (p : Program) (s : State) (t : ℕ) (def : TaskDef) (was : Task) (k : ℕ) (handles : List Handle) (later : Bool) → was.phase ≡ phase.At k
    → k < length def.body.items
    → OnlyMoves p s t def was (await_move p s t def was k handles later).state (await_move p s t def was k handles later).entry
await_row p s t def was k handles false at within = record {
  now = record was { phase = phase.In k };
  tasks = refl;
  who = refl;
  started = refl;
  placed = within;
  fewer = fewer_in def was k at;
  noticed = omega arith;
}
await_row p s t def was k handles true at within = record {
  now = record was {
    phase = stop def (k + 1);
    copy = advanced def (k + 1) was.copy;
    named = was.named ++ k ∷ [];
    bound = was.bound ++ open_ones p s.exchange (named_requests t handles);
  };
  tasks = refl;
  who = refl;
  started = stop_is_started def (k + 1);
  placed = stop_is_placed def (k + 1);
  fewer = fewer_on def was k at within;
  noticed = omega arith;
}

call_row : (p : Program) (s : State) (t : ℕ) (def : TaskDef) (was : Task) (k : ℕ) (o : Option Op) → slice_get def.body.items k ≡ o → was.phase ≡ phase.At k
    → IsCall o
    → OnlyMoves p s t def was (call_move p s t def was k o).state (call_move p s t def was k o).entry
call_row p s t def was k None here at able = absurd able
call_row p s t def was k (Some (op.Compute kind dst left right value step)) here at able = absurd (cc able)
call_row p s t def was k (Some (op.Post how span peer tag comm status)) here at able = post_row p s t def was k (blocks how) at
    (slice_get_within def.body.items k (op.Post how span peer tag comm status) here)
call_row p s t def was k (Some (op.Await later handles status)) here at able = await_row p s t def was k handles.items later at
    (slice_get_within def.body.items k (op.Await later handles status) here)

-- each row of the machine
row : (p : Program) (s : State) (t : ℕ) (def : TaskDef) (was : Task) (at : Phase) → was.phase ≡ at → IsAble def at
    → OnlyMoves p s t def was (move_at p s t def was at).state (move_at p s t def was at).entry
row p s t def was phase.Waiting waits able = record {
  now = record was { phase = stop def 0; copy = advanced def 0 (loaded p def s.memory) };
  tasks = refl;
  who = refl;
  started = stop_is_started def 0;
  placed = stop_is_placed def 0;
  fewer = rw waits (fewer_at_start (length def.body.items) _ (left_by_stop def 0 (omega arith)));
  noticed = omega arith;
}
row p s t def was (phase.At k) at able = call_row p s t def was k (slice_get def.body.items k) refl at able
row p s t def was (phase.In k) in_k able =
    record {
      now = record was { phase = stop def (k + 1); copy = advanced def (k + 1) (taken p s.exchange t def k was.copy) };
      tasks = refl;
      who = refl;
      started = stop_is_started def (k + 1);
      placed = stop_is_placed def (k + 1);
      fewer = rw in_k (fewer_after_leave (length def.body.items) k _ able (left_by_stop def (k + 1) (omega arith)));
      noticed = omega arith;
    }
row p s t def was phase.Ended ended able = record {
  now = record was { phase = phase.Returned };
  tasks = refl;
  who = refl;
  started = refl;
  placed = tt;
  fewer = rw ended (omega arith);
  noticed = omega arith;
}
row p s t def was phase.Returned returned able = record {
  now = record was { phase = phase.Released; copy = taken_at_release p s.exchange t def was.named was.copy };
  tasks = refl;
  who = refl;
  started = refl;
  placed = tt;
  fewer = rw returned (omega arith);
  noticed = omega arith;
}
row p s t def was phase.Released released able = absurd able

-- a move of a task that may be moved on changes that task alone
pub move_others : (p : Program) (s : State) (t : ℕ) (def : TaskDef) (was : Task) → slice_get p.tasks.items t ≡ Some def → slice_get s.tasks t ≡ Some was
    → IsAble def was.phase
    → OnlyMoves p s t def was (move p s t).state (move p s t).entry
move_others p s t def was is_def is_task able =
    subst (λ (m : Moved). OnlyMoves p s t def was m.state m.entry) (sym (move-row p s t def was was.phase is_def is_task refl))
    (row p s t def was was.phase refl able)

-- what stands at the front of the rest of a list
at_drop : {X : Type 0} (xs : List X) (k : ℕ) (x : X) (rest : List X) → drop k xs ≡ x ∷ rest → slice_get xs k ≡ Some x
at_drop [] zero x rest here = absurd (cc)
at_drop [] (suc k) x rest here = absurd (cc)
at_drop (y ∷ ys) zero x rest here = cc
at_drop (y ∷ ys) (suc k) x rest here = at_drop ys k x rest here

rest_after : (k : ℕ) (ops rest : List Op) (x : Op) → drop k ops ≡ x ∷ rest → drop (k + 1) ops ≡ rest
rest_after k ops rest x here = sym (drop-drop 1 k ops) ∙ ap (λ (xs : List Op). drop 1 xs) here

-- a body stops at a call, or at its end
able_at : (def : TaskDef) (k : ℕ) (ops : List Op) → drop k def.body.items ≡ ops → IsAble def (stop_at k ops)
able_at def k [] here = tt
able_at def k (op.Compute kind dst left right value step ∷ ops) here = able_at def (k + 1) ops
    (rest_after k def.body.items ops (op.Compute kind dst left right value step) here)
able_at def k (op.Post how span peer tag comm status ∷ ops) here =
    subst IsCall (sym (at_drop def.body.items k (op.Post how span peer tag comm status) ops here)) refl
able_at def k (op.Await later handles status ∷ ops) here =
    subst IsCall (sym (at_drop def.body.items k (op.Await later handles status) ops here)) refl

pub stop_able : (def : TaskDef) (k : ℕ) → IsAble def (stop def k)
unfolding stop
stop_able def k = able_at def k (drop k def.body.items) refl
