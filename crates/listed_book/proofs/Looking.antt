-- Looks and stops: what they keep, and what they say.
use Rattle.std.proofs.Common.{◌≡◌, ℕ, ◌+◌, ◌^◌, ◌<◌, ◌≤◌, Bool, true, false, List, [], ◌∷◌, ◌++◌, length, Some, refl, sym, ap, ◌∙◌, subst, inl, inr, arith}
use Rattle.std.specs.Prelude.{nat_lt}
use Rattle.rt_base.specs.declared.data.ReqNo.{ReqNo}
use Rattle.rt_base.specs.declared.data.Program.{Program}
use Rattle.rt_base.specs.Precedes.{MayStart}
use Rattle.rt_base.specs.State.{State, let_go}
use Rattle.task_machine.specs.Legal.{final}
use Rattle.book_parts.specs.Ledger.{IsReady}
use Rattle.pass_table.specs.Passes.{PassIs, NoteIs}
use Rattle.shared_lists.specs.Deeds.{state_seen, is_offered, is_stopped, look_number, stop_number}
use Rattle.shared_lists.specs.Sound.{IsPoller}
use Rattle.shared_lists.specs.Said.{NoneLeft}
use Rattle.shared_lists.proofs.Pairs.{how_many-else}
use Rattle.shared_lists.proofs.Numbers.{has_few}
use Rattle.shared_lists.proofs.Offers.{offered-else}
use Rattle.listed_book.specs.Listed.{BookIs, with_pair, state_in, LooksAt, StopsAt}
use Rattle.listed_book.specs.Kept.{Insides, seen_as, Keeps}
use Rattle.listed_book.proofs.Keeping.{pen_with, state-else, keeps_look, keeps_stop, final_seen}
use Rattle.listed_book.proofs.Adding.{Carries, pass_with, adds_by, stays_by}

-- a pair of a poller that is no step: what is known before it, and what it makes of pen and pass
pub record Writes (i : Insides) (pen : NoteIs) (pass after : PassIs) (number : ℕ) : Type 0 where
  pub keeps : Keeps i
  pub poller : IsPoller i.book.program i.book.workers pass.caller
  pub carried : Carries i.pen pass
  pub pen_is : pen ≡ pen_with i.pen pass.caller number
  pub after_is : after ≡ pass_with i.pen pass number

-- a pass that has only caught up
pub record Follows (i : Insides) (pass after : PassIs) : Type 0 where
  pub keeps : Keeps i
  pub carried : Carries i.pen pass
  pub after_is : after ≡ record pass { seen = i.pen.seen }

module _ (i : Insides) (pen : NoteIs) (pass after : PassIs) (number : ℕ) (w : Writes i pen pass after number) (is_look : number ≡ look_number i.book.program)
    (few : i.looked < 2 ^ 63) where
  look_kept : Keeps (record i { pen = pen_with i.pen pass.caller (look_number i.book.program); looked = i.looked + 1 })
  look_kept = keeps_look i pass.caller w.keeps (w.poller, subst (λ (n : ℕ). n < 2 ^ 63) w.keeps.looked_is few)

  pub keeps_look_at : Keeps (record i { pen = pen; looked = i.looked + 1 })
  keeps_look_at =
      subst (λ (n : NoteIs). Keeps (record i { pen = n; looked = i.looked + 1 }))
      (ap (pen_with i.pen pass.caller) (sym is_look) ∙ sym w.pen_is) look_kept

  pub looks_at : (old : BookIs) → seen_as i ≡ old → LooksAt old (seen_as (record i { pen = pen })) pass after
  looks_at old view =
      subst (λ (b : BookIs). LooksAt b (seen_as (record i { pen = pen })) pass after) view
      (subst (λ (n : NoteIs). LooksAt (seen_as i) (seen_as (record i { pen = n })) pass after)
      (ap (pen_with i.pen pass.caller) (sym is_look) ∙ sym w.pen_is)
      (subst (LooksAt (seen_as i) (with_pair (seen_as i) pass.caller (look_number i.book.program)) pass)
      (ap (pass_with i.pen pass) (sym is_look) ∙ sym w.after_is)
      (inl (adds_by i pass (look_number i.book.program) w.carried look_kept.sound))))

pub looks_left : (i : Insides) (pass after : PassIs) → Follows i pass after → 2 ^ 63 ≤ i.looked → (old : BookIs) → seen_as i ≡ old
    → LooksAt old (seen_as i) pass after
looks_left i pass after f enough old view =
    subst (λ (b : BookIs). LooksAt b (seen_as i) pass after) view
    (subst (LooksAt (seen_as i) (seen_as i) pass) (sym f.after_is)
    (inr (
      stays_by i pass f.carried f.keeps.sound,
      omega (arith, enough, f.keeps.looked_is, (has_few i.book.program i.book.workers i.pen.seen f.keeps.sound).few_looks),
    )))

module _ (i : Insides) (pen : NoteIs) (pass after : PassIs) (number : ℕ) (w : Writes i pen pass after number) (is_stop : number ≡ stop_number i.book.program)
    (none : i.stopped ≡ false) where
  stop_kept : Keeps (record i { pen = pen_with i.pen pass.caller (stop_number i.book.program); stopped = true })
  stop_kept = keeps_stop i pass.caller w.keeps (w.poller, sym w.keeps.stopped_is ∙ none)

  pub keeps_stop_at : Keeps (record i { pen = pen; stopped = true })
  keeps_stop_at =
      subst (λ (n : NoteIs). Keeps (record i { pen = n; stopped = true })) (ap (pen_with i.pen pass.caller) (sym is_stop) ∙ sym w.pen_is) stop_kept

  pub stops_at : (old : BookIs) → seen_as i ≡ old → StopsAt old (seen_as (record i { pen = pen })) pass after
  stops_at old view =
      subst (λ (b : BookIs). StopsAt b (seen_as (record i { pen = pen })) pass after) view
      (subst (λ (n : NoteIs). StopsAt (seen_as i) (seen_as (record i { pen = n })) pass after)
      (ap (pen_with i.pen pass.caller) (sym is_stop) ∙ sym w.pen_is)
      (subst (StopsAt (seen_as i) (with_pair (seen_as i) pass.caller (stop_number i.book.program)) pass)
      (ap (pass_with i.pen pass) (sym is_stop) ∙ sym w.after_is)
      (inl (adds_by i pass (stop_number i.book.program) w.carried stop_kept.sound))))

pub stops_before : (i : Insides) (pass after : PassIs) → Follows i pass after → i.stopped ≡ true → (old : BookIs) → seen_as i ≡ old
    → StopsAt old (seen_as i) pass after
stops_before i pass after f stands old view =
    subst (λ (b : BookIs). StopsAt b (seen_as i) pass after) view
    (subst (StopsAt (seen_as i) (seen_as i) pass) (sym f.after_is) (inr (stays_by i pass f.carried f.keeps.sound, sym f.keeps.stopped_is ∙ stands)))

-- ---- what a look leaves

pub record Looked (old new : BookIs) (before after : PassIs) : Type 0 where
  pub program : new.program ≡ old.program
  pub whole : after.seen ≡ new.seen
  pub state : state_seen old.program after.seen ≡ state_in old
  pub offered : (t : ℕ) → t < length old.program.tasks.items → is_offered t after.seen ≡ is_offered t old.seen
  pub stopped : is_stopped old.program after.seen ≡ is_stopped old.program old.seen

pub looked : (old new : BookIs) (before after : PassIs) → LooksAt old new before after → Looked old new before after
looked old new before after said = elim said [
  | inl added ↦
      let is : after.seen ≡ old.seen ++ (before.caller, look_number old.program) ∷ [] = added.whole ∙ ap (λ (b : BookIs). b.seen) added.book in
      record {
        program = ap (λ (b : BookIs). b.program) added.book;
        whole = added.whole;
        state = ap (state_seen old.program) is ∙ state-else old.program before.caller (look_number old.program) old.seen (omega arith);
        offered = λ t exists.
            ap (is_offered t) is ∙ offered-else t before.caller (look_number old.program) old.seen (λ e. absurd (omega (arith, e, exists)));
        stopped =
            ap (is_stopped old.program) is
            ∙ ap (nat_lt 0) (how_many-else (stop_number old.program) before.caller (look_number old.program) old.seen (λ e. absurd (omega (arith, e))));
      }
  | inr stayed ↦
      let is : after.seen ≡ old.seen = stayed.0.whole ∙ ap (λ (b : BookIs). b.seen) stayed.0.book in
      record {
        program = ap (λ (b : BookIs). b.program) stayed.0.book;
        whole = stayed.0.whole;
        state = ap (state_seen old.program) is;
        offered = λ t exists. ap (is_offered t) is;
        stopped = ap (is_stopped old.program) is;
      }
]

-- where the book has nothing to hand out, each task that may start was offered
pub none_left : (i : Insides) (old new : BookIs) (before after : PassIs) → Keeps i → seen_as i ≡ old → ((t : ℕ) → ¬ IsReady i.book t)
    → LooksAt old new before after → NoneLeft old.program after.seen
none_left i old new before after k view none said t may =
    (subst (λ (b : BookIs). LooksAt b new before after → MayStart b.program (let_go (state_seen b.program after.seen).tasks) t → is_offered t after.seen ≡ true)
    view (λ looks_here may_here. by_test looks_here may_here (is_offered t i.pen.seen) refl)) said may where
      by_test : LooksAt (seen_as i) new before after → MayStart i.book.program (let_go (state_seen i.book.program after.seen).tasks) t
          → (b : Bool) → is_offered t i.pen.seen ≡ b → is_offered t after.seen ≡ true
      by_test said may true test = (looked (seen_as i) new before after said).offered t may.exists ∙ test
      by_test said may false test =
          let here = looked (seen_as i) new before after said in
          absurd (none t (
            k.handed t may.exists ∙ ap (λ (b : Bool). Some b) test,
            subst (λ (s : State). MayStart i.book.program (let_go s.tasks) t) (here.state ∙ sym (final_seen i k)) may,
          ))

-- the state that the book has after a look is that of the list that its pass has seen, and so is whether it stops
module _ (i : Insides) (old new : BookIs) (before after : PassIs) (k : Keeps i) (view : seen_as i ≡ new) (said : LooksAt old new before after) where
  program_is : i.book.program ≡ old.program
  program_is = ap (λ (b : BookIs). b.program) view ∙ (looked old new before after said).program

  seen_is : i.pen.seen ≡ after.seen
  seen_is = ap (λ (b : BookIs). b.seen) view ∙ sym (looked old new before after said).whole

  pub state_looked : (prog : Program) → prog ≡ old.program → final prog i.book.history ≡ state_seen old.program after.seen
  state_looked prog same =
      ap (λ (q : Program). final q i.book.history) (same ∙ sym program_is) ∙ final_seen i k
      ∙ ap (λ (q : Program). state_seen q i.pen.seen) program_is ∙ ap (state_seen old.program) seen_is

  pub stopped_looked : i.stopped ≡ is_stopped old.program after.seen
  stopped_looked = k.stopped_is ∙ ap (λ (q : Program). is_stopped q i.pen.seen) program_is ∙ ap (is_stopped old.program) seen_is

-- no notice stands in the state that the book had before a look
pub none_stands : (i : Insides) (old new : BookIs) (before after : PassIs) → Keeps i → seen_as i ≡ old → LooksAt old new before after
    → ¬ (0 < length (final i.book.program i.book.history).notices) → (state_seen old.program after.seen).notices ≡ []
none_stands i old new before after k view said none =
    let same : final i.book.program i.book.history ≡ state_seen old.program after.seen =
    final_seen i k ∙ ap state_in view ∙ sym (looked old new before after said).state in
    empty (state_seen old.program after.seen).notices (subst (λ (s : State). ¬ (0 < length s.notices)) same none) where
      empty : (notices : List ReqNo) → ¬ (0 < length notices) → notices ≡ []
      empty [] none = refl
      empty (req ∷ notices) none = absurd (none (omega arith))
