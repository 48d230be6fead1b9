-- Whose entry a step adds, and what the fronts of a run are.
use Rattle.std.proofs.Common.{◌≡◌, ℕ, zero, suc, ◌-◌, ◌<◌, ◌≤◌, Bool, true, false, cond, List, [], ◌∷◌, ◌++◌, length, take, drop, slice_get, Option}
use Rattle.std.proofs.Common.{Some, None, refl, sym, ap, ◌∙◌, subst, inl, inr, arith, append_assoc}
use Rattle.std.specs.Prelude.{nat_lt}
use Rattle.std.proofs.lemmas.Bool.Decides.{nat_tests}
use Rattle.std.proofs.lemmas.List.{append-nil}
use Rattle.rt_base.specs.declared.data.ReqNo.{ReqNo}
use Rattle.rt_base.specs.declared.data.Phase.{Phase}
use Rattle.rt_base.specs.declared.data.Phase.TheVariants as phase
use Rattle.rt_base.specs.declared.data.Op.{Op}
use Rattle.rt_base.specs.declared.data.Op.TheVariants as op
use Rattle.rt_base.specs.declared.data.Status.{Status}
use Rattle.rt_base.specs.declared.data.Entry.{Entry}
use Rattle.rt_base.specs.declared.data.TaskDef.{TaskDef}
use Rattle.rt_base.specs.declared.data.Program.{Program}
use Rattle.rt_base.specs.State.{State, Task, opening}
use Rattle.task_machine.specs.Machine.{Moved, move, move_at, move_of, call_move, poll, polled, step, MayStep}
use Rattle.task_machine.specs.Legal.{IsDefined, state_after, state_of, entries_after, caller, callers, IsLegal}
use Rattle.task_machine.proofs.Runs.{step-task, exists_of_move}

-- ---- the caller of an entry

call_who : (p : Program) (s : State) (t : ℕ) (def : TaskDef) (task : Task) (k : ℕ) (operation : Option Op)
    → caller (length p.tasks.items) (call_move p s t def task k operation).entry ≡ t
call_who p s t def task k None = refl
call_who p s t def task k (Some (op.Compute kind dst left right value step)) = refl
call_who p s t def task k (Some (op.Post how span peer tag comm status)) = refl
call_who p s t def task k (Some (op.Await true handles status)) = refl
call_who p s t def task k (Some (op.Await false handles status)) = refl

row_who : (p : Program) (s : State) (t : ℕ) (def : TaskDef) (task : Task) (at : Phase) → caller (length p.tasks.items) (move_at p s t def task at).entry ≡ t
row_who p s t def task phase.Waiting = refl
row_who p s t def task (phase.At k) = call_who p s t def task k (slice_get def.body.items k)
row_who p s t def task (phase.In k) = refl
row_who p s t def task phase.Ended = refl
row_who p s t def task phase.Returned = refl
row_who p s t def task phase.Released = refl

of_who : (p : Program) (s : State) (t : ℕ) (def : Option TaskDef) (task : Option Task) → caller (length p.tasks.items) (move_of p s t def task).entry ≡ t
of_who p s t None task = refl
of_who p s t (Some def) None = refl
of_who p s t (Some def) (Some task) = row_who p s t def task task.phase

-- each entry of a move is of its task
pub move_who : (p : Program) (s : State) (t : ℕ) → caller (length p.tasks.items) (move p s t).entry ≡ t
unfolding move
move_who p s t = of_who p s t (slice_get p.tasks.items t) (slice_get s.tasks t)

-- a number that is no task's
pub past : (c n : ℕ) → n ≤ c → nat_lt c n ≡ false
past c n above = grind (arith, nat_tests)

-- each entry of a poll is of its poller
poll_who : (n c : ℕ) (s : State) (notices : List ReqNo) → n ≤ c → 0 < length notices → caller n (polled s (c - n) notices).entry ≡ c
poll_who n c s [] above some = absurd (omega (arith, some))
poll_who n c s (req ∷ notices) above some = omega (arith, above)

step_poll_who : (p : Program) (s : State) (c : ℕ) → length p.tasks.items ≤ c → 0 < length s.notices → caller (length p.tasks.items) (step p s c).entry ≡ c
unfolding step poll
step_poll_who p s c above some = rw (past c (length p.tasks.items) above) (poll_who (length p.tasks.items) c s s.notices above some)

pub step_who : (p : Program) (w : ℕ) (s : State) (c : ℕ) → MayStep p w s c → caller (length p.tasks.items) (step p s c).entry ≡ c
step_who p w s c may = elim may [
  | inl moves ↦ ap (λ (m : Moved). caller (length p.tasks.items) m.entry) (step-task p s c (exists_of_move p s c moves)) ∙ move_who p s c
  | inr polls ↦ step_poll_who p s c polls.poller polls.notice
]

pub callers_of_run : (p : Program) (w : ℕ) (s : State) (cs : List ℕ) → IsDefined p w s cs → callers p (entries_after p s cs) ≡ cs
callers_of_run p w s [] runs = refl
callers_of_run p w s (c ∷ cs) runs =
    ap (λ (x : ℕ). x ∷ callers p (entries_after p (step p s c).state cs)) (step_who p w s c runs.0)
    ∙ ap (λ (xs : List ℕ). c ∷ xs) (callers_of_run p w (step p s c).state cs runs.1)

-- ---- a run and its history

pub legal_run : (p : Program) (w : ℕ) (cs : List ℕ) → IsDefined p w (opening p) cs → IsLegal p w (entries_after p (opening p) cs) (state_of p cs).statuses
legal_run p w cs runs =
    let same = sym (callers_of_run p w (opening p) cs runs) in
    record {
      runs = subst (λ (xs : List ℕ). IsDefined p w (opening p) xs) same runs;
      replies = ap (λ (xs : List ℕ). entries_after p (opening p) xs) same;
      told = ap (λ (xs : List ℕ). (state_of p xs).statuses) same;
    }

-- ---- the statuses only grow

abbrev Grows : State → State → Type 0
Grows old new = (later : List Status) × (new.statuses ≡ old.statuses ++ later)

stays : (s : State) → Grows s s
stays s = ([], sym (append-nil s.statuses))

call_grows : (p : Program) (s : State) (t : ℕ) (def : TaskDef) (task : Task) (k : ℕ) (operation : Option Op)
    → Grows s (call_move p s t def task k operation).state
call_grows p s t def task k None = stays s
call_grows p s t def task k (Some (op.Compute kind dst left right value step)) = stays s
call_grows p s t def task k (Some (op.Post how span peer tag comm status)) = ([], sym (append-nil s.statuses))
call_grows p s t def task k (Some (op.Await true handles status)) = ([], sym (append-nil s.statuses))
call_grows p s t def task k (Some (op.Await false handles status)) = ([], sym (append-nil s.statuses))

row_grows : (p : Program) (s : State) (t : ℕ) (def : TaskDef) (task : Task) (at : Phase) → Grows s (move_at p s t def task at).state
row_grows p s t def task phase.Waiting = ([], sym (append-nil s.statuses))
row_grows p s t def task (phase.At k) = call_grows p s t def task k (slice_get def.body.items k)
row_grows p s t def task (phase.In k) = (_, refl)
row_grows p s t def task phase.Ended = ([], sym (append-nil s.statuses))
row_grows p s t def task phase.Returned = (_, refl)
row_grows p s t def task phase.Released = stays s

of_grows : (p : Program) (s : State) (t : ℕ) (def : Option TaskDef) (task : Option Task) → Grows s (move_of p s t def task).state
of_grows p s t None task = stays s
of_grows p s t (Some def) None = stays s
of_grows p s t (Some def) (Some task) = row_grows p s t def task task.phase

move_grows : (p : Program) (s : State) (t : ℕ) → Grows s (move p s t).state
unfolding move
move_grows p s t = of_grows p s t (slice_get p.tasks.items t) (slice_get s.tasks t)

polled_grows : (s : State) (poller : ℕ) (notices : List ReqNo) → Grows s (polled s poller notices).state
polled_grows s poller [] = stays s
polled_grows s poller (req ∷ notices) = ([], sym (append-nil s.statuses))

poll_grows : (s : State) (poller : ℕ) → Grows s (poll s poller).state
unfolding poll
poll_grows s poller = polled_grows s poller s.notices

chosen_grows : (p : Program) (s : State) (c : ℕ) (is_task : Bool)
    → Grows s (cond is_task (move p s c) (poll s (c - length p.tasks.items))).state
chosen_grows p s c true = move_grows p s c
chosen_grows p s c false = poll_grows s (c - length p.tasks.items)

step_grows : (p : Program) (s : State) (c : ℕ) → Grows s (step p s c).state
unfolding step
step_grows p s c = chosen_grows p s c (nat_lt c (length p.tasks.items))

run_grows : (p : Program) (s : State) (cs : List ℕ) → Grows s (state_after p s cs)
run_grows p s [] = stays s
run_grows p s (c ∷ cs) =
    let one = step_grows p s c in
    let rest = run_grows p (step p s c).state cs in
    (one.0 ++ rest.0, rest.1 ∙ ap (λ (told : List Status). told ++ rest.0) one.1 ∙ append_assoc s.statuses one.0 rest.0)

-- ---- fronts

entries_front : (p : Program) (s : State) (cs : List ℕ) (n : ℕ) → take n (entries_after p s cs) ≡ entries_after p s (take n cs)
entries_front p s [] zero = refl
entries_front p s [] (suc n) = refl
entries_front p s (c ∷ cs) zero = refl
entries_front p s (c ∷ cs) (suc n) = ap (λ (es : List Entry). (step p s c).entry ∷ es) (entries_front p (step p s c).state cs n)

defined_front : (p : Program) (w : ℕ) (s : State) (cs : List ℕ) (n : ℕ) → IsDefined p w s cs → IsDefined p w s (take n cs)
defined_front p w s [] zero runs = tt
defined_front p w s [] (suc n) runs = tt
defined_front p w s (c ∷ cs) zero runs = tt
defined_front p w s (c ∷ cs) (suc n) runs = (runs.0, defined_front p w (step p s c).state cs n runs.1)

run_on : (p : Program) (s : State) (cs : List ℕ) (n : ℕ) → state_after p s cs ≡ state_after p (state_after p s (take n cs)) (drop n cs)
run_on p s [] zero = refl
run_on p s [] (suc n) = refl
run_on p s (c ∷ cs) zero = refl
run_on p s (c ∷ cs) (suc n) = run_on p (step p s c).state cs n

pub front_legal : (p : Program) (w : ℕ) (es : List Entry) (ss : List Status) → IsLegal p w es ss → (n : ℕ)
    → (told : List Status) × (later : List Status) × IsLegal p w (take n es) told × (ss ≡ told ++ later)
front_legal p w es ss legal n =
    let cs = callers p es in
    let front = take n cs in
    let same : take n es ≡ entries_after p (opening p) front =
    ap (λ (xs : List Entry). take n xs) legal.replies ∙ entries_front p (opening p) cs n in
    let grown = run_grows p (state_of p front) (drop n cs) in (
      (state_of p front).statuses,
      grown.0,
      subst (λ (xs : List Entry). IsLegal p w xs (state_of p front).statuses) (sym same)
          (legal_run p w front (defined_front p w (opening p) cs n legal.runs)),
      legal.told ∙ ap (λ (s : State). s.statuses) (run_on p (opening p) cs n) ∙ grown.1,
    )
