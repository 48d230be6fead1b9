-- What a task has still to tell and to post, and that it is only in operations that block, as it goes on.
use Rattle.std.proofs.Common.{◌≡◌, ℕ, zero, suc, ◌+◌, ◌≤◌, Bool, true, false, cond, List, [], ◌∷◌, length, drop, get_or, slice_get, Some, None}
use Rattle.std.proofs.Common.{Option, refl, sym, ap, ◌∙◌, subst, arith}
use Rattle.std.specs.Prelude.{sum_by}
use Rattle.std.proofs.Math.Seq.{drop-nil}
use Rattle.std.proofs.lemmas.List.Sums.{sum_by-cons, sum_by-drop_more, sum_by-take-le}
use Rattle.std.proofs.lemmas.Option.{slice_get_within, get_or_from_slice_get}
use Rattle.rt_base.specs.declared.data.Phase.{Phase}
use Rattle.rt_base.specs.declared.data.Phase.TheVariants as phase
use Rattle.rt_base.specs.declared.data.Handle.{Handle}
use Rattle.rt_base.specs.declared.data.Op.{Op}
use Rattle.rt_base.specs.declared.data.Op.TheVariants as op
use Rattle.rt_base.specs.declared.data.TaskDef.{TaskDef}
use Rattle.rt_base.specs.declared.data.Program.{Program}
use Rattle.rt_base.specs.Operations.{is_posting, is_receive, nth_at, postings}
use Rattle.rt_base.specs.Exchange.{Exchange}
use Rattle.task_local.specs.Local.{stop_at, stop}
use Rattle.task_local.specs.Waits.{told, told_by, statuses_of}
use Rattle.task_machine.specs.Laws.{is_blocking_call}
use Rattle.task_local.specs.Standing.{IsCall}
use Rattle.run_bounds.specs.Fits.{MayStand}
use Rattle.run_bounds.specs.Bounds.{tells_now, tells_late}

-- at most how many statuses a task that stands there has still to tell
abbrev pub to_tell : TaskDef → Phase → ℕ
to_tell def phase.Waiting = sum_by tells_now def.body.items + sum_by tells_late def.body.items
to_tell def (phase.At k) = sum_by tells_now (drop k def.body.items) + sum_by tells_late def.body.items
to_tell def (phase.In k) = sum_by tells_now (drop k def.body.items) + sum_by tells_late def.body.items
to_tell def phase.Ended = sum_by tells_late def.body.items
to_tell def phase.Returned = sum_by tells_late def.body.items
to_tell def phase.Released = 0

-- what stands behind the first one of these
pub drop_next : {X : Type 0} (xs : List X) (k : ℕ) (x : X) (rest : List X) → drop k xs ≡ x ∷ rest → drop (k + 1) xs ≡ rest
drop_next [] k x rest is =
    let none : x ∷ rest ≡ [] = sym is ∙ drop-nil k in
    absurd (cc)
drop_next (y ∷ ys) zero x rest is =
    let one : zero + 1 ≡ suc zero = omega arith in
    ap (λ (n : ℕ). drop n (y ∷ ys)) one ∙ cc is
drop_next (y ∷ ys) (suc k) x rest is =
    let one : suc k + 1 ≡ suc (k + 1) = omega arith in
    ap (λ (n : ℕ). drop n (y ∷ ys)) one ∙ drop_next ys k x rest is

-- local operations tell nothing
tell_at_stop : (def : TaskDef) (k : ℕ) (ops : List Op) → drop k def.body.items ≡ ops
    → to_tell def (stop_at k ops) ≡ sum_by tells_now ops + sum_by tells_late def.body.items
tell_at_stop def k [] here = omega arith
tell_at_stop def k (op.Compute kind dst left right value step ∷ ops) here =
    let x : Op = op.Compute kind dst left right value step in
    let rest = tell_at_stop def (k + 1) ops (drop_next def.body.items k x ops here) in
    let none : sum_by tells_now (x ∷ ops) ≡ 0 + sum_by tells_now ops = sum_by-cons tells_now x ops in
    omega arith
tell_at_stop def k (op.Post how span peer tag comm status ∷ ops) here =
    ap (λ (xs : List Op). sum_by tells_now xs + sum_by tells_late def.body.items) here
tell_at_stop def k (op.Await later handles status ∷ ops) here =
    ap (λ (xs : List Op). sum_by tells_now xs + sum_by tells_late def.body.items) here

pub tell_by_stop : (def : TaskDef) (k : ℕ) → to_tell def (stop def k) ≡ sum_by tells_now (drop k def.body.items) + sum_by tells_late def.body.items
unfolding stop
tell_by_stop def k = tell_at_stop def k (drop k def.body.items) refl

-- an operation less to tell
pub tell_next : (def : TaskDef) (k : ℕ) (x : Op) → slice_get def.body.items k ≡ Some x → to_tell def (phase.In k) ≡ tells_now x + to_tell def (stop def (k + 1))
tell_next def k x here =
    let more = sum_by-drop_more tells_now def.body.items k x (slice_get_within def.body.items k x here) in
    let own : tells_now (get_or def.body.items k x) ≡ tells_now x = ap tells_now (get_or_from_slice_get def.body.items k x x here) in
    let on = tell_by_stop def (k + 1) in
    omega arith

-- the operation with which the rest of a body begins
pub at_drop : {X : Type 0} (xs : List X) (k : ℕ) (x : X) (rest : List X) → drop k xs ≡ x ∷ rest → slice_get xs k ≡ Some x
at_drop [] zero x rest is = absurd (cc)
at_drop [] (suc k) x rest is = absurd (cc)
at_drop (y ∷ ys) zero x rest is = ap Some (cc)
at_drop (y ∷ ys) (suc k) x rest is = at_drop ys k x rest is

-- a task that stops is before a call, or has ended
placed_at_stop : (def : TaskDef) (k : ℕ) (ops : List Op) → drop k def.body.items ≡ ops → MayStand def (stop_at k ops)
placed_at_stop def k [] here = tt
placed_at_stop def k (op.Compute kind dst left right value step ∷ ops) here =
    placed_at_stop def (k + 1) ops (drop_next def.body.items k (op.Compute kind dst left right value step) ops here)
placed_at_stop def k (op.Post how span peer tag comm status ∷ ops) here =
    subst IsCall (sym (at_drop def.body.items k (op.Post how span peer tag comm status) ops here)) refl
placed_at_stop def k (op.Await later handles status ∷ ops) here =
    subst IsCall (sym (at_drop def.body.items k (op.Await later handles status) ops here)) refl

pub stop_is_placed : (def : TaskDef) (k : ℕ) → MayStand def (stop def k)
unfolding stop
stop_is_placed def k = placed_at_stop def k (drop k def.body.items) refl

-- no more is posted before a place than in the whole body
pub posted_within : (def : TaskDef) (k : ℕ) → nth_at def k ≤ postings def.body.items
posted_within def k = sum_by-take-le (λ (x : Op). cond (is_posting x) 1 0) def.body.items k

-- an operation that blocks is there
pub blocking_there : (o : Option Op) → is_blocking_call o ≡ true → (x : Op) × (o ≡ Some x)
blocking_there None blocking = absurd (cc)
blocking_there (Some x) blocking = (x, refl)

pub statuses_each : (p : Program) (e : Exchange) (t : ℕ) (handles : List Handle) → length (statuses_of p e t handles) ≡ length handles
statuses_each p e t [] = refl
statuses_each p e t (named ∷ handles) = ap suc (statuses_each p e t handles)

one_or_none : {X : Type 0} (b : Bool) (x : X) → length (cond b (x ∷ []) []) ≤ 1
one_or_none true x = omega arith
one_or_none false x = omega arith

told_by_few : (p : Program) (e : Exchange) (t n : ℕ) (x : Op) → is_blocking_call (Some x) ≡ true → length (told_by p e t n (Some x)) ≤ tells_now x
told_by_few p e t n (op.Compute kind dst left right value step) blocking = absurd (cc)
told_by_few p e t n (op.Post how span peer tag comm status) blocking = one_or_none (is_receive how) _
told_by_few p e t n (op.Await true handles status) blocking = absurd (cc)
told_by_few p e t n (op.Await false handles status) blocking = omega (arith, statuses_each p e t handles.items)

-- an operation that is left tells no more than that
pub told_few : (p : Program) (e : Exchange) (t k : ℕ) (def : TaskDef) (x : Op) → slice_get def.body.items k ≡ Some x
    → is_blocking_call (slice_get def.body.items k) ≡ true → length (told p e t def k) ≤ tells_now x
unfolding told
told_few p e t k def x here blocking = rw here (told_by_few p e t (nth_at def k) x (sym (ap is_blocking_call here) ∙ blocking))
