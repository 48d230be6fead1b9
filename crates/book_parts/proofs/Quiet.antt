-- What the counts of a book say of who may move, in the caller's terms.
use Rattle.std.proofs.Common.{◌≡◌, ◌≢◌, ℕ, ◌<◌, ◌≤◌, ◌↔◌, false, length, get_or, slice_get, Some, IsTrue, refl, sym, ap, ◌∙◌, subst, eqb-true, eq-eqb}
use Rattle.std.proofs.Common.{arith}
use Rattle.std.specs.Prelude.{◌==◌}
use Rattle.std.proofs.lemmas.Option.{slice_get_within, slice_get_read}
use Rattle.rt_base.specs.declared.data.Phase.{Phase}
use Rattle.rt_base.specs.declared.data.Phase.TheVariants as phase
use Rattle.rt_base.specs.declared.data.Program.{Program}
use Rattle.rt_base.specs.MayMove.{MayMove}
use Rattle.task_machine.specs.Legal.{final}
use Rattle.book_counts.proofs.Quiet.{started_answer}
use Rattle.book_parts.specs.Ledger.{Ledger}
use Rattle.book_parts.specs.Kept.{BookParts, KeepsState, IsBook}
use Rattle.book_parts.proofs.Moved.{ledger_of}
use Rattle.book_parts.proofs.Held.{same_program, phases_counted}
use Rattle.book_parts.proofs.Questions.{can_move_answer}
use Rattle.book_parts.proofs.Figured.{kept_figures}

-- a task that was started may move exactly where its number is 0
pub can_move_started : (parts : BookParts) (t r : ℕ) (found : Phase) (l : Ledger) (prog : Program) → IsBook parts → ledger_of parts ≡ l → prog ≡ l.program
    → t < length prog.tasks.items
    → found ≡ get_or parts.phases t found → found ≢ phase.Waiting → slice_get parts.waits t ≡ Some r → IsTrue (r == 0) ↔ MayMove prog (final prog l.history) t
can_move_started parts t r found l prog book view same exists read started number =
    let within : t < length parts.program.tasks.items = subst (λ (z : Program). t < length z.tasks.items) (same_program parts l prog view same) exists in
    let here = slice_get_read parts.phases (length parts.program.tasks.items) t found (sym (phases_counted parts book.kept)) within read in
    can_move_answer parts t found found (r == 0) l prog book.kept view same exists read refl (λ def task is_def is_task.
    let answer = started_answer (kept_figures book) t r found def task here started number is_def is_task in
    (λ yes. answer.0 (eqb-true r 0 yes), λ may. eq-eqb r 0 (answer.1 may)))

-- the program of the caller has as many tasks as the book has phases
caller_counted : (parts : BookParts) (l : Ledger) (prog : Program) → KeepsState parts → ledger_of parts ≡ l → prog ≡ l.program
    → length parts.phases ≡ length prog.tasks.items
caller_counted parts l prog k view same = phases_counted parts k ∙ ap (λ (z : Program). length z.tasks.items) (sym (same_program parts l prog view same))

-- a task that the program doesn't have may not move
pub past_stays : (parts : BookParts) (t : ℕ) (l : Ledger) (prog : Program) → KeepsState parts → ledger_of parts ≡ l → prog ≡ l.program → length parts.phases ≤ t
    → IsTrue false ↔ MayMove prog (final prog l.history) t
past_stays parts t l prog k view same past =
    let count = caller_counted parts l prog k view same in
    (λ yes. absurd (cc yes), λ may. absurd (omega (arith, slice_get_within prog.tasks.items t may.def may.is_def)))

pub exists_at : (parts : BookParts) (t : ℕ) (l : Ledger) (prog : Program) → KeepsState parts → ledger_of parts ≡ l → prog ≡ l.program → t < length parts.phases
    → t < length prog.tasks.items
exists_at parts t l prog k view same within =
    let count = caller_counted parts l prog k view same in
    omega arith
