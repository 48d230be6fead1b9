-- What the last move opened, as a history goes on.
use Rattle.std.proofs.Common.{◌≡◌, ℕ, ◌+◌, ◌<◌, List, [], ◌∷◌, ◌++◌, length, refl, ap, ◌∙◌, lt-ltb, arith}
use Rattle.rt_base.specs.declared.data.ReqNo.{ReqNo}
use Rattle.rt_base.specs.declared.data.Entry.{Entry}
use Rattle.rt_base.specs.declared.data.Entry.TheVariants as entry
use Rattle.rt_base.specs.declared.data.Program.{Program}
use Rattle.rt_base.specs.State.{State, opening}
use Rattle.task_machine.specs.Machine.{step}
use Rattle.task_machine.specs.Legal.{state_after, caller, callers, final}
use Rattle.task_machine.specs.Owed.{opened, opened_by_step, opened_after, last_opened}
use Rattle.task_machine.proofs.Runs.{callers-push}
use Rattle.task_machine.proofs.Fronts.{past}

opened_after-push : (p : Program) (s : State) (before : List ReqNo) (cs : List ℕ) (c : ℕ)
    → opened_after p s before (cs ++ c ∷ []) ≡ opened_by_step p (state_after p s cs) c (opened_after p s before cs)
opened_after-push p s before [] c = refl
opened_after-push p s before (d ∷ cs) c = opened_after-push p (step p s d).state (opened_by_step p s d before) cs c

opened-push : (p : Program) (es : List Entry) (e : Entry)
    → last_opened p (es ++ e ∷ []) ≡ opened_by_step p (final p es) (caller (length p.tasks.items) e) (last_opened p es)
unfolding last_opened
opened-push p es e = ap (opened_after p (opening p) []) (callers-push p es e)
    ∙ opened_after-push p (opening p) [] (callers p es) (caller (length p.tasks.items) e)

opened-task : (p : Program) (s : State) (t : ℕ) (before : List ReqNo) → t < length p.tasks.items → opened_by_step p s t before ≡ opened p s t
opened-task p s t before exists = rw (lt-ltb t (length p.tasks.items) exists) refl

opened-poller : (p : Program) (s : State) (w : ℕ) (before : List ReqNo) → opened_by_step p s (length p.tasks.items + w) before ≡ before
opened-poller p s w before = rw (past (length p.tasks.items + w) (length p.tasks.items) (omega arith)) refl

pub last_opened-push : (p : Program) (es : List Entry) (t : ℕ) (e : Entry) → t < length p.tasks.items → caller (length p.tasks.items) e ≡ t
    → last_opened p (es ++ e ∷ []) ≡ opened p (final p es) t
last_opened-push p es t e exists who = opened-push p es e
    ∙ ap (λ (c : ℕ). opened_by_step p (final p es) c (last_opened p es)) who ∙ opened-task p (final p es) t (last_opened p es) exists

pub last_opened-poll : (p : Program) (es : List Entry) (w : ℕ) (req : ReqNo) → last_opened p (es ++ entry.Poll w req ∷ []) ≡ last_opened p es
last_opened-poll p es w req = opened-push p es (entry.Poll w req) ∙ opened-poller p (final p es) w (last_opened p es)
