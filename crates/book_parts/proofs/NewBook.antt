-- The insides of a new book: nothing has happened, nothing is bound, and each task waits to be handed out.
use Rattle.std.proofs.Common.{◌≡◌, ℕ, List, length, ap}
use Rattle.std.specs.Prelude.{replicate}
use Rattle.rt_base.specs.declared.data.ReqNo.{ReqNo}
use Rattle.rt_base.specs.State.{let_go}
use Rattle.region_deps.specs.Readiness.{Readiness}
use Rattle.wait_steps.specs.MarkedRows.{unmarked}
use Rattle.book_parts.specs.Ledger.{bound_in}
use Rattle.book_parts.specs.Kept.{BookParts, IsBook, state_now}
use Rattle.book_counts.proofs.Bindings.{binding_first, nothing_bound}
use Rattle.book_parts.proofs.BookLemmas.{IsNew, new_book}
use Rattle.book_counts.proofs.CountLemmas.{counted_first}
use Rattle.book_counts.proofs.Numbers.{numbered_first}

-- the insides are new, and so are the numbers and marks
pub record IsFresh (parts : BookParts) : Type 0 where
  pub new : IsNew parts
  pub unreleased_is : parts.unreleased ≡ length parts.program.tasks.items
  pub waits_are : parts.waits ≡ replicate (length parts.program.tasks.items) 1
  pub posted_are : parts.posted ≡ replicate (length parts.program.tasks.items) 0
  pub marks_are : parts.marks ≡ unmarked parts.program
  pub bound_are : parts.bound ≡ replicate (length parts.program.tasks.items) 0
  pub incomplete_are : parts.incomplete ≡ replicate (length parts.program.tasks.items) 0

pub fresh_book : (parts : BookParts) → IsFresh parts → IsBook parts
fresh_book parts f =
    let bound : ℕ → List ReqNo = bound_in (state_now parts) in
    record {
      kept = new_book parts f.new;
      counted = counted_first parts.program (let_go (state_now parts).tasks) parts.ready.handed parts.phases bound parts.engine.exchange parts.unreleased
          parts.waits (ap (λ (r : Readiness). r.handed) f.new.fresh) f.new.phases_are f.unreleased_is f.waits_are;
      numbered = numbered_first parts.program parts.phases parts.posted f.new.phases_are f.posted_are;
      binding = binding_first parts.program bound parts.engine.exchange parts.marks parts.bound parts.incomplete
          (nothing_bound parts.program parts.entries f.new.entries_are) f.marks_are f.bound_are f.incomplete_are;
    }
