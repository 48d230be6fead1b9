-- The end of a book with its list, beside what a note has seen of it.
use Rattle.std.proofs.Common.{◌≡◌, ℕ, List, sym, ap, ◌∙◌, subst}
use mathlib.Core.List.{IsPrefix}
use Rattle.rt_base.specs.declared.data.Entry.{Entry}
use Rattle.task_machine.specs.Legal.{IsQuiet, final}
use Rattle.shared_lists.specs.Deeds.{moves, state_seen}
use Rattle.shared_lists.specs.Sound.{IsSound}
use Rattle.shared_lists.proofs.Pairs.{moves-append}
use Rattle.shared_lists.proofs.Since.{quiet_since}
use Rattle.listed_book.specs.Listed.{BookIs}
use Rattle.listed_book.specs.Kept.{Insides, seen_as, Keeps}
use Rattle.listed_book.proofs.Keeping.{final_seen}

-- the steps of a front are a front of the steps
pub moves_front : (xs ys : List (ℕ × ℕ)) → IsPrefix xs ys → IsPrefix (moves xs) (moves ys)
moves_front xs ys front = (moves front.0, sym (moves-append xs front.0) ∙ ap moves front.1)

-- where no task might move after what a note has seen, none may at the end
pub quiet_end : (i : Insides) (old : BookIs) (seen : List (ℕ × ℕ)) (h : List Entry) → Keeps i → seen_as i ≡ old → IsPrefix seen i.pen.seen
    → h ≡ i.book.history → IsQuiet old.program (state_seen old.program seen) → IsQuiet old.program (final old.program h)
quiet_end i old seen h k view front same =
    subst (λ (b : BookIs). IsQuiet b.program (state_seen b.program seen) → IsQuiet b.program (final b.program h)) view by_insides where
      by_insides : IsQuiet i.book.program (state_seen i.book.program seen) → IsQuiet i.book.program (final i.book.program h)
      by_insides quiet =
          subst (λ (es : List Entry). IsQuiet i.book.program (final i.book.program es)) (sym same)
          (subst (IsQuiet i.book.program) (sym (final_seen i k))
          (subst (λ (xs : List (ℕ × ℕ)). IsQuiet i.book.program (state_seen i.book.program xs)) front.1
          (quiet_since i.book.program i.book.workers seen front.0 (subst (IsSound i.book.program i.book.workers) (sym front.1) k.sound) quiet)))
