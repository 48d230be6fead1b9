-- The offer of a task: what is known before it, and what book and list say after it.
use Rattle.std.proofs.Common.{◌≡◌, ℕ, ◌+◌, Bool, true, false, List, [], ◌∷◌, ◌++◌, slice_get, slice_set, get_or, Option, Some, None, refl, sym, ap, ◌∙◌}
use Rattle.std.proofs.Common.{subst, arith}
use Rattle.std.proofs.lemmas.Option.{slice_get-get_or}
use Rattle.rt_base.specs.declared.data.TaskNo.{TaskNo}
use Rattle.rt_base.specs.declared.data.Program.{Program}
use Rattle.rt_base.specs.Precedes.{MayStart}
use Rattle.rt_base.specs.State.{State, let_go}
use Rattle.task_machine.proofs.Items.{same_some}
use Rattle.book_parts.specs.Ledger.{Ledger, IsReady}
use Rattle.pass_table.specs.Passes.{PassIs, NoteIs, HasItsSteps, times}
use Rattle.shared_lists.specs.Deeds.{state_seen, is_offered}
use Rattle.shared_lists.specs.Sound.{IsPoller}
use Rattle.shared_lists.specs.Said.{IsFreshTask}
use Rattle.shared_lists.proofs.Since.{new_waits}
use Rattle.shared_lists.proofs.Offers.{offered-own}
use Rattle.listed_book.specs.Listed.{BookIs, with_pair}
use Rattle.listed_book.specs.Replies.{OffersTask}
use Rattle.listed_book.specs.Kept.{Insides, seen_as, Keeps, IsPassOf}
use Rattle.listed_book.proofs.Keeping.{pen_with, state-else, keeps_offer, final_seen}
use Rattle.listed_book.proofs.Adding.{Carries, pass_with, adds_by}

-- a task that the book may hand out was not offered
pub not_offered : (i : Insides) (t : ℕ) → Keeps i → IsReady i.book t → is_offered t i.pen.seen ≡ false
not_offered i t k ready = same_some (sym (k.handed t ready.1.exists) ∙ ready.0)

is_there : (table : _) (t : ℕ) (lying : Option PassIs) → IsPassOf table t false lying → (pass : PassIs) × (lying ≡ Some pass)
is_there table t None fits = absurd fits
is_there table t (Some pass) fits = (pass, refl)

-- and its pass lies there
pub lies_there : (i : Insides) (t : ℕ) → Keeps i → IsReady i.book t → (pass : PassIs) × (slice_get i.passes t ≡ Some (Some pass))
lies_there i t k ready =
    let here = slice_get-get_or i.passes t None (omega (arith, k.counted, ready.1.exists)) in
    let fits = subst (λ (b : Bool). IsPassOf i.pen.table t b (get_or i.passes t None)) (not_offered i t k ready) (k.passes_are t
    (get_or i.passes t None) here) in
    let found = is_there i.pen.table t (get_or i.passes t None) fits in
    (found.0, here ∙ ap (λ (o : Option PassIs). Some o) found.1)

pub record Offers (i : Insides) (t : ℕ) (book : Ledger) (pen : NoteIs) (passes : List (Option PassIs)) (pass after lying own : PassIs) : Type 0 where
  pub keeps : Keeps i
  pub ready : IsReady i.book t
  pub poller : IsPoller i.book.program i.book.workers pass.caller
  pub carried : Carries i.pen pass
  pub book_is : book ≡ record i.book { handed = slice_set i.book.handed t true }
  pub pen_is : pen ≡ pen_with i.pen pass.caller (t + 1)
  pub after_is : after ≡ pass_with i.pen pass (t + 1)
  pub lying_is : slice_get i.passes t ≡ Some (Some lying)
  pub passes_is : passes ≡ slice_set i.passes t None
  pub own_is : own ≡ record lying { seen = pen.seen }
  pub own_steps : HasItsSteps lying pen.seen

-- what lies there for a task that was not offered
pub lying_fits : (i : Insides) (t : ℕ) (lying : PassIs) → Keeps i → IsReady i.book t → slice_get i.passes t ≡ Some (Some lying)
    → (lying.table ≡ i.pen.table) × (lying.caller ≡ t) × (lying.steps ≡ 0)
lying_fits i t lying k ready here =
    subst (λ (b : Bool). IsPassOf i.pen.table t b (Some lying)) (not_offered i t k ready) (k.passes_are t (Some lying) here)

module _ (i : Insides) (t : ℕ) (book : Ledger) (pen : NoteIs) (passes : List (Option PassIs)) (pass after lying own : PassIs)
    (o : Offers i t book pen passes pass after lying own) where
  abbrev p : Program
  p = i.book.program

  may_start : MayStart p (let_go (state_seen p i.pen.seen).tasks) t
  may_start = subst (λ (s : State). MayStart p (let_go s.tasks) t) (final_seen i o.keeps) o.ready.1

  offer_kept : Keeps (record i {
    book = record i.book { handed = slice_set i.book.handed t true };
    pen = pen_with i.pen pass.caller (t + 1);
    passes = slice_set i.passes t None;
  })
  offer_kept = keeps_offer i pass.caller t o.keeps o.ready.1.exists (o.poller, may_start, not_offered i t o.keeps o.ready)

  pub keeps_offered : Keeps (record i { book = book; pen = pen; passes = passes })
  keeps_offered =
      subst (λ (xs : List (Option PassIs)). Keeps (record i { book = book; pen = pen; passes = xs })) (sym o.passes_is)
      (subst (λ (n : NoteIs). Keeps (record i { book = book; pen = n; passes = slice_set i.passes t None })) (sym o.pen_is)
      (subst (λ (b : Ledger). Keeps (record i { book = b; pen = pen_with i.pen pass.caller (t + 1); passes = slice_set i.passes t None }))
      (sym o.book_is) offer_kept))

  -- the task's own pass
  own_fresh : IsFreshTask p i.book.workers i.pen.table t (record lying { seen = i.pen.seen ++ (pass.caller, t + 1) ∷ [] })
  own_fresh =
      let fits = lying_fits i t lying o.keeps o.ready o.lying_is in
      let none : times t (i.pen.seen ++ (pass.caller, t + 1) ∷ []) ≡ 0 =
      subst (λ (u : ℕ). times u (i.pen.seen ++ (pass.caller, t + 1) ∷ []) ≡ 0) fits.1
      (subst (λ (n : NoteIs). times lying.caller n.seen ≡ lying.steps) o.pen_is o.own_steps ∙ fits.2) in
      record {
        table_is = fits.0;
        caller = fits.1;
        steps = fits.2;
        sound = offer_kept.sound;
        offered = offered-own t pass.caller i.pen.seen;
        waits = new_waits p i.book.workers (i.pen.seen ++ (pass.caller, t + 1) ∷ []) offer_kept.sound t o.ready.1.exists none;
        may =
            subst (λ (s : State). MayStart p (let_go s.tasks) t) (sym (state-else p pass.caller (t + 1) i.pen.seen (omega arith))) may_start;
      }

  pub offers_task : (old : BookIs) → seen_as i ≡ old
      → OffersTask old (record { program = book.program; workers = book.workers; table = pen.table; seen = pen.seen }) pass after
      (record { task = record { 0 = t }; pass = own })
  offers_task old view =
      subst (λ (b : BookIs). OffersTask b (seen_as (record i { book = book; pen = pen })) pass after (record { task = task; pass = own })) view
      (subst (λ (q : PassIs). OffersTask (seen_as i) (seen_as (record i { book = book; pen = pen })) pass after (record { task = task; pass = q })) own_here
      (subst (λ (n : NoteIs). OffersTask (seen_as i) (seen_as (record i { book = book; pen = n })) pass after (record { task = task; pass = own_seen }))
      (sym o.pen_is)
      (subst (λ (b : Ledger). OffersTask (seen_as i) (seen_as (record i { book = b; pen = pen_with i.pen pass.caller (t + 1) })) pass after
      (record { task = task; pass = own_seen }))
      (sym o.book_is)
      (subst (λ (q : PassIs). OffersTask (seen_as i) (with_pair (seen_as i) pass.caller (t + 1)) pass q (record { task = task; pass = own_seen }))
      (sym o.after_is)
      (record {
        adds = adds_by i pass (t + 1) o.carried offer_kept.sound;
        first = not_offered i t o.keeps o.ready;
        fresh = own_fresh;
        whole = refl;
      }))))) where
        task : TaskNo
        task = record { 0 = t }

        own_seen : PassIs
        own_seen = record lying { seen = i.pen.seen ++ (pass.caller, t + 1) ∷ [] }

        own_here : own_seen ≡ own
        own_here = ap (λ (n : NoteIs). record lying { seen = n.seen }) (sym o.pen_is) ∙ sym o.own_is
