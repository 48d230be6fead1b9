-- A run goes on by one step: what becomes of its state, its entries and its legality.
use Rattle.std.proofs.Common.{◌≡◌, ℕ, ◌<◌, List, [], ◌∷◌, ◌++◌, length, refl, sym, ap, ◌∙◌, inl, lt-ltb}
use Rattle.std.proofs.lemmas.Option.{slice_get_within}
use Rattle.rt_base.specs.declared.data.Status.{Status}
use Rattle.rt_base.specs.declared.data.Entry.{Entry}
use Rattle.rt_base.specs.declared.data.Program.{Program}
use Rattle.rt_base.specs.State.{State, opening}
use Rattle.rt_base.specs.MayMove.{MayMove}
use Rattle.task_machine.specs.Machine.{Moved, move, step, MayStep}
use Rattle.task_machine.specs.Legal.{IsDefined, state_after, entries_after, caller, callers, final, IsLegal}

-- one caller more at the end
pub state_after-push : (p : Program) (s : State) (cs : List ℕ) (c : ℕ) → state_after p s (cs ++ c ∷ []) ≡ (step p (state_after p s cs) c).state
state_after-push p s [] c = refl
state_after-push p s (d ∷ cs) c = state_after-push p (step p s d).state cs c

pub entries_after-push : (p : Program) (s : State) (cs : List ℕ) (c : ℕ)
    → entries_after p s (cs ++ c ∷ []) ≡ entries_after p s cs ++ (step p (state_after p s cs) c).entry ∷ []
entries_after-push p s [] c = refl
entries_after-push p s (d ∷ cs) c = ap (λ (es : List Entry). (step p s d).entry ∷ es) (entries_after-push p (step p s d).state cs c)

pub IsDefined-push : (p : Program) (workers : ℕ) (s : State) (cs : List ℕ) (c : ℕ) → IsDefined p workers s cs → MayStep p workers (state_after p s cs) c
    → IsDefined p workers s (cs ++ c ∷ [])
IsDefined-push p workers s [] c runs may = (may, tt)
IsDefined-push p workers s (d ∷ cs) c runs may = (runs.0, IsDefined-push p workers (step p s d).state cs c runs.1 may)

pub callers-push : (p : Program) (es : List Entry) (e : Entry) → callers p (es ++ e ∷ []) ≡ callers p es ++ caller (length p.tasks.items) e ∷ []
callers-push p [] e = refl
callers-push p (d ∷ es) e = ap (λ (cs : List ℕ). caller (length p.tasks.items) d ∷ cs) (callers-push p es e)

-- a task's step is its move, a poller's is a poll
pub step-task : (p : Program) (s : State) (t : ℕ) → t < length p.tasks.items → step p s t ≡ move p s t
unfolding step
step-task p s t exists = rw (lt-ltb t (length p.tasks.items) exists) refl

-- the state of a history with one entry more, by a task's move
pub final-push : (p : Program) (es : List Entry) (t : ℕ) (new : State) (e : Entry) → t < length p.tasks.items → caller (length p.tasks.items) e ≡ t
    → move p (final p es) t ≡ record { state = new; entry = e } → final p (es ++ e ∷ []) ≡ new
final-push p es t new e exists who moved =
    ap (state_after p (opening p)) (callers-push p es e)
    ∙ state_after-push p (opening p) (callers p es) (caller (length p.tasks.items) e)
    ∙ ap (λ c. (step p (final p es) c).state) who
    ∙ ap (λ (m : Moved). m.state) (step-task p (final p es) t exists ∙ moved)

pub exists_of_move : (p : Program) (s : State) (t : ℕ) → MayMove p s t → t < length p.tasks.items
exists_of_move p s t may = slice_get_within p.tasks.items t may.def may.is_def

-- the history with one entry more is legal, by a task's move
pub legal-push : (p : Program) (workers : ℕ) (es : List Entry) (old told : List Status) (t : ℕ) (new : State) (e : Entry) → IsLegal p workers es old
    → t < length p.tasks.items
    → caller (length p.tasks.items) e ≡ t → MayMove p (final p es) t → move p (final p es) t ≡ record { state = new; entry = e } → new.statuses ≡ told
    → IsLegal p workers (es ++ e ∷ []) told
legal-push p workers es old told t new e legal exists who may moved statuses = record {
  runs = rw (callers-push p es e, who) (IsDefined-push p workers (opening p) (callers p es) t legal.runs (inl may));
  replies =
      ap (λ (xs : List Entry). xs ++ e ∷ []) legal.replies
      ∙ ap (λ (x : Entry). entries_after p (opening p) (callers p es) ++ x ∷ []) (sym (ap (λ (m : Moved). m.entry) (step-task p (final p es) t exists ∙ moved)))
      ∙ sym (entries_after-push p (opening p) (callers p es) t)
      ∙ ap (λ c. entries_after p (opening p) (callers p es ++ c ∷ [])) (sym who)
      ∙ ap (entries_after p (opening p)) (sym (callers-push p es e));
  told = sym (ap (λ (s : State). s.statuses) (final-push p es t new e exists who moved) ∙ statuses);
}
