-- A turn that takes a notice: no task moves, so every record still stands for its task.
use Rattle.std.proofs.Common.{◌≡◌, ℕ, ◌+◌, ◌*◌, ◌<◌, ◌≤◌, ◌↔◌, Bool, true, false, List, [], ◌∷◌, length, Result, Ok, Err, IsTrue, refl, sym, ap, ◌∙◌}
use Rattle.std.proofs.Common.{subst, arith}
use Rattle.std.specs.Prelude.{IfOk}
use Rattle.rt_base.specs.declared.data.ReqNo.{ReqNo}
use Rattle.rt_base.specs.declared.data.Program.{Program}
use Rattle.rt_base.specs.State.{State}
use Rattle.task_local.specs.StandsFor.{Record}
use Rattle.task_machine.specs.Legal.{final, phases_of}
use Rattle.task_machine.specs.Machine.{Moved}
use Rattle.task_machine.specs.Course.{all_left}
use Rattle.book_parts.specs.Ledger.{Ledger, TakesNotice}
use Rattle.plain_run.specs.Turns.{IsInLine, AreInLine, GoesOn, turns_left}
use Rattle.book_parts.proofs.Polled.{without_first, poll-first}

-- a record stands as before where a notice is gone
still_in_line : (p : Program) (s : State) (rest : List ReqNo) (handed : List Bool) (t : ℕ) (held : Record) → IsInLine p s handed t held
    → IsInLine p (without_first s rest) handed t held
still_in_line p s rest handed t held line = record {
  mine = line.mine;
  stands = record {
    same = line.stands.same;
    def = line.stands.def;
    task = line.stands.task;
    is_def = line.stands.is_def;
    is_task = line.stands.is_task;
    stands = line.stands.stands;
  };
  placed = line.placed;
  handed_out = line.handed_out;
}

-- one notice less
fewer_notices : (moves : ℕ) (req : ReqNo) (notices rest : List ReqNo) → notices ≡ req ∷ rest → (moves + length rest) + 1 ≤ moves + length notices
fewer_notices moves req notices rest first = omega (arith, ap (λ (z : List ReqNo). length z) first)

-- the records are in line after the poll, and one turn less is left
pub goes_on_polled : (old new : Ledger) (recs : List Record) (w : ℕ) (req : ReqNo) → AreInLine old recs → TakesNotice old new w req → GoesOn old new recs
goes_on_polled old new recs w req line took =
    let p = old.program in
    let s = final p old.history in
    let rest = (final p new.history).notices in
    let end : final p new.history ≡ without_first s rest = took.state ∙ ap (λ (m : Moved). m.state) (poll-first s w req rest took.first) in
    let moves = 2 * all_left p.tasks.items (phases_of s.tasks) in
    record {
      program = took.program;
      workers = took.workers;
      in_line = record {
        counted = line.counted ∙ ap (λ (q : Program). length q.tasks.items) (sym took.program);
        each = λ u held there. subst (λ (q : Program). IsInLine q (final q new.history) new.handed u held) (sym took.program)
            (subst (λ (h : List Bool). IsInLine p (final p new.history) h u held) (sym took.handed)
            (subst (λ (z : State). IsInLine p z old.handed u held) (sym end) (still_in_line p s rest old.handed u held (line.each u held there))));
      };
      fewer = subst (λ (q : Program). (2 * all_left q.tasks.items (phases_of (final q new.history).tasks) + length (final q new.history).notices) + 1
          ≤ turns_left old) (sym took.program)
          (subst (λ (z : State). (2 * all_left p.tasks.items (phases_of z.tasks) + length z.notices) + 1 ≤ turns_left old) (sym end)
          (fewer_notices moves req s.notices rest took.first));
    }

-- where no notice stands there is none to take
none_stands : (notices : List ReqNo) (found : Bool) → (IsTrue found ↔ (0 < length notices)) → found ≡ false → notices ≡ []
none_stands [] found stands off = refl
none_stands (req ∷ notices) found stands off =
    let on : found ≡ true = stands.1 (omega arith) in
    absurd (cc)

if_made : {E : Type 0} (turn : Result Bool E) (P : Type 0) → P → IfOk turn (λ moved. moved ≡ false → P)
if_made (Ok moved) P holds = λ still. holds
if_made (Err error) P holds = tt

pub none_left : {E : Type 0} (p : Program) (book : Ledger) (found : Bool) (turn : Result Bool E) → p ≡ book.program
    → (IsTrue found ↔ (0 < length (final book.program book.history).notices)) → found ≡ false
    → IfOk turn (λ moved. moved ≡ false → (final p book.history).notices ≡ [])
none_left p book found turn same stands off =
    if_made turn ((final p book.history).notices ≡ []) (subst (λ (q : Program). (final q book.history).notices ≡ []) (sym same)
    (none_stands (final book.program book.history).notices found stands off))
