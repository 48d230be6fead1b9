-- Where a task stands after its local operations: what it has posted, and how many moves it has left.
use Rattle.std.proofs.Common.{◌≡◌, ◌≢◌, ℕ, zero, suc, ◌+◌, ◌-◌, ◌*◌, ◌<◌, ◌≤◌, false, List, [], ◌∷◌, ◌++◌, length, take, drop, get_or, drop-cons}
use Rattle.std.proofs.Common.{add-one, refl, sym, ap, ◌∙◌, append_assoc, arith}
use Rattle.std.proofs.Math.Seq.{take-append_seam, drop-nil}
use Rattle.std.proofs.lemmas.List.{take-append-drop, length-append, length-take}
use Rattle.std.proofs.lemmas.List.Sums.{sum_by-append}
use Rattle.rt_base.specs.declared.data.Phase.TheVariants as phase
use Rattle.rt_base.specs.declared.data.Op.{Op}
use Rattle.rt_base.specs.declared.data.Op.TheVariants as op
use Rattle.rt_base.specs.declared.data.TaskDef.{TaskDef}
use Rattle.rt_base.specs.Operations.{postings, nth_at}
use Rattle.rt_base.specs.State.{is_released}
use Rattle.task_local.specs.Local.{stop_at, stop}
use Rattle.task_machine.specs.Course.{moves_left, posted_by_phase}

append_nil : {X : Type 0} (xs : List X) → xs ++ [] ≡ xs
append_nil [] = refl
append_nil (x ∷ xs) = ap (λ ys. x ∷ ys) (append_nil xs)

-- local operations post nothing
pub posted_at_stop : (def : TaskDef) (front ops : List Op) → def.body.items ≡ front ++ ops → posted_by_phase def (stop_at (length front) ops) ≡ postings front
posted_at_stop def front [] whole = ap postings (whole ∙ append_nil front)
posted_at_stop def front (op.Compute kind dst left right value step ∷ ops) whole =
    let compute : Op = op.Compute kind dst left right value step in
    let longer = posted_at_stop def (front ++ compute ∷ []) ops (whole ∙ sym (append_assoc front (compute ∷ []) ops)) in
    let len : length (front ++ compute ∷ []) ≡ length front + 1 = length-append front (compute ∷ []) in
    ap (λ n. posted_by_phase def (stop_at n ops)) (sym len) ∙ longer ∙ sum_by-append _ front (compute ∷ []) ∙ omega arith
posted_at_stop def front (op.Post how span peer tag comm status ∷ ops) whole = ap postings (ap (take (length front)) whole
    ∙ take-append_seam front (op.Post how span peer tag comm status ∷ ops))
posted_at_stop def front (op.Await later handles status ∷ ops) whole = ap postings (ap (take (length front)) whole
    ∙ take-append_seam front (op.Await later handles status ∷ ops))

pub posted_by-stop : (def : TaskDef) (k : ℕ) → k ≤ length def.body.items → posted_by_phase def (stop def k) ≡ nth_at def k
unfolding stop
posted_by-stop def k within =
    let len : length (take k def.body.items) ≡ k = omega (arith, length-take k def.body.items) in
    ap (λ n. posted_by_phase def (stop_at n (drop k def.body.items))) (sym len)
    ∙ posted_at_stop def (take k def.body.items) (drop k def.body.items) (sym (take-append-drop k def.body.items))

-- the moves that are left from there
pub left_at_stop : (n k : ℕ) (ops : List Op) → k + length ops ≡ n → moves_left n (stop_at k ops) ≤ 2 * (n - k) + 2
left_at_stop n k [] whole = omega arith
left_at_stop n k (op.Compute kind dst left right value step ∷ ops) whole =
    let rest = left_at_stop n (k + 1) ops (omega arith) in
    omega arith
left_at_stop n k (op.Post how span peer tag comm status ∷ ops) whole = omega arith
left_at_stop n k (op.Await later handles status ∷ ops) whole = omega arith

-- a task that has run its local operations is started, and not released
pub stop_started : (k : ℕ) (ops : List Op) → stop_at k ops ≢ phase.Waiting
stop_started k [] = λ e. cc
stop_started k (op.Compute kind dst left right value step ∷ ops) = stop_started (k + 1) ops
stop_started k (op.Post how span peer tag comm status ∷ ops) = λ e. cc
stop_started k (op.Await later handles status ∷ ops) = λ e. cc

pub stop_held : (k : ℕ) (ops : List Op) → is_released (stop_at k ops) ≡ false
stop_held k [] = refl
stop_held k (op.Compute kind dst left right value step ∷ ops) = stop_held (k + 1) ops
stop_held k (op.Post how span peer tag comm status ∷ ops) = refl
stop_held k (op.Await later handles status ∷ ops) = refl

-- the operations from a place on
pub drop_at : (ops : List Op) (k : ℕ) (x : Op) → k < length ops → x ≡ get_or ops k x → drop k ops ≡ x ∷ drop (k + 1) ops
drop_at ops k x within here = drop-cons ops k x within ∙ ap (λ y. y ∷ drop (suc k) ops) (sym here) ∙ ap (λ n. x ∷ drop n ops) (sym (add-one k))

pub drop_end : (ops : List Op) (k : ℕ) → length ops ≤ k → drop k ops ≡ []
drop_end [] k past = drop-nil k
drop_end (x ∷ ops) zero past = absurd (omega arith)
drop_end (x ∷ ops) (suc k) past = drop_end ops k (omega arith)

pub stop_ended : (def : TaskDef) (k at : ℕ) → stop_at at (drop at def.body.items) ≡ stop def k → length def.body.items ≤ at → phase.Ended ≡ stop def k
stop_ended def k at before past = sym (ap (stop_at at) (drop_end def.body.items at past)) ∙ before

pub stop_begins : (def : TaskDef) (k : ℕ) → stop_at k (drop k def.body.items) ≡ stop def k
unfolding stop
stop_begins def k = refl
