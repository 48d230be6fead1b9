-- The taking of a notice: what is known before it, and what book and list say after it.
use Rattle.std.proofs.Common.{◌≡◌, ◌≢◌, ℕ, ◌+◌, ◌-◌, ◌<◌, ◌≤◌, Bool, true, false, cond, List, [], ◌∷◌, ◌++◌, length, slice_get, Option, Some, None}
use Rattle.std.proofs.Common.{option_map, refl, sym, ap, ◌∙◌, subst, inl, inr, arith}
use Rattle.std.specs.Prelude.{count_by, replicate}
use Rattle.std.proofs.lemmas.List.{length-replicate}
use Rattle.std.proofs.lemmas.List.Sums.{sum_by-cons}
use Rattle.std.proofs.lemmas.Option.{slice_get_past}
use Rattle.rt_base.specs.declared.data.ReqNo.{ReqNo}
use Rattle.rt_base.specs.declared.data.Phase.TheVariants as phase
use Rattle.rt_base.specs.declared.data.Entry.TheVariants as entry
use Rattle.rt_base.specs.declared.data.Program.{Program}
use Rattle.rt_base.specs.Matching.{same_request}
use Rattle.rt_base.specs.Completion.{is_complete}
use Rattle.rt_base.specs.State.{State, Task, opening, waiting_task, phase_of}
use Rattle.rt_base.proofs.SameRequest.{same_request-self}
use Rattle.task_machine.specs.Machine.{poll, polled, step, MayStep}
use Rattle.task_machine.specs.Legal.{IsDefined, state_after, caller, final}
use Rattle.task_machine.proofs.Runs.{exists_of_move}
use Rattle.task_machine.proofs.Fronts.{past}
use Rattle.task_machine.proofs.Others.{leaves_others, complete_stays}
use Rattle.book_parts.specs.Ledger.{Ledger, TakesNotice}
use Rattle.history_laws.specs.Notices.{standing}
use Rattle.history_laws.proofs.Standing.{stands_once}
use Rattle.pass_table.specs.Passes.{PassIs, NoteIs}
use Rattle.shared_lists.specs.Deeds.{Move, moves, state_seen}
use Rattle.shared_lists.specs.Sound.{IsPoller, MayDo}
use Rattle.shared_lists.proofs.Pairs.{state_seen-step}
use Rattle.shared_lists.proofs.Fronts.{sound_runs}
use Rattle.listed_book.specs.Listed.{BookIs, with_pair}
use Rattle.listed_book.specs.Replies.{IsNoteOf, TakesFirst}
use Rattle.listed_book.specs.Kept.{Insides, seen_as, Keeps}
use Rattle.listed_book.proofs.Keeping.{pen_with, keeps_step, final_seen}
use Rattle.listed_book.proofs.Adding.{Carries, pass_with, adds_by}
use Rattle.listed_book.proofs.Moving.{ledger_as}

-- ---- no task has a poller's number

polled_tasks : (s : State) (poller : ℕ) (notices : List ReqNo) → (polled s poller notices).state.tasks ≡ s.tasks
polled_tasks s poller [] = refl
polled_tasks s poller (req ∷ notices) = refl

poll_tasks : (p : Program) (s : State) (c : ℕ) → length p.tasks.items ≤ c → (step p s c).state.tasks ≡ s.tasks
unfolding step poll
poll_tasks p s c above = rw (past c (length p.tasks.items) above) (polled_tasks s (c - length p.tasks.items) s.notices)

none_after : (p : Program) (w : ℕ) (s : State) (c : ℕ) → MayStep p w s c → (u : ℕ) → length p.tasks.items ≤ u → slice_get s.tasks u ≡ None
    → slice_get (step p s c).state.tasks u ≡ None
none_after p w s c may u above none = elim may [
  | inl own ↦
      let other : u ≢ c = λ e. absurd (omega (arith, e, exists_of_move p s c own, above)) in leaves_others p w s c (inl own) u other ∙ none
  | inr polls ↦ ap (λ (ts : List Task). slice_get ts u) (poll_tasks p s c polls.poller) ∙ none
]

none_there : (p : Program) (w : ℕ) (s : State) (cs : List ℕ) (u : ℕ) → length p.tasks.items ≤ u → IsDefined p w s cs → slice_get s.tasks u ≡ None
    → slice_get (state_after p s cs).tasks u ≡ None
none_there p w s [] u above runs none = none
none_there p w s (c ∷ cs) u above runs none = none_there p w (step p s c).state cs u above runs.1 (none_after p w s c runs.0 u above none)

waits_never : (p : Program) (w : ℕ) (cs : List ℕ) (u : ℕ) → length p.tasks.items ≤ u → IsDefined p w (opening p) cs
    → phase_of (state_after p (opening p) cs) u ≡ Some phase.Waiting → ⊥
waits_never p w cs u above runs waits =
    let first = slice_get_past (replicate (length p.tasks.items) waiting_task) u (omega (arith, above, length-replicate (length p.tasks.items) waiting_task)) in
    let none = none_there p w (opening p) cs u above runs first in
    let is : None ≡ Some phase.Waiting = sym (ap (λ (o : Option Task). option_map (λ (task : Task). task.phase) o) none) ∙ waits in
    absurd (cc)

-- ---- a notice is of a complete request

complete_noticed : (p : Program) (w : ℕ) (cs : List ℕ) (req : ReqNo) (rest : List ReqNo) → IsDefined p w (opening p) cs
    → (state_after p (opening p) cs).notices ≡ req ∷ rest → is_complete p (state_after p (opening p) cs).exchange req ≡ true
complete_noticed p w cs req rest runs first = by_test (is_complete p (state_after p (opening p) cs).exchange req) refl where
  by_test : (b : Bool) → is_complete p (state_after p (opening p) cs).exchange req ≡ b → is_complete p (state_after p (opening p) cs).exchange req ≡ true
  by_test true test = test
  by_test false test =
      let once = stands_once p w cs runs req in
      let here : count_by (same_request req) (req ∷ rest) ≡ 1 + count_by (same_request req) rest =
      sum_by-cons (λ (z : ReqNo). cond (same_request req z) 1 0) req rest
      ∙ ap (λ (b : Bool). cond b 1 0 + count_by (same_request req) rest) (same_request-self req) in
      let standing_is : standing p (state_after p (opening p) cs) req ≡ count_by (same_request req) (req ∷ rest) + 1 =
      ap (λ (b : Bool). count_by (same_request req) (state_after p (opening p) cs).notices + cond b 0 1) test
      ∙ ap (λ (ns : List ReqNo). count_by (same_request req) ns + 1) first in
      absurd (omega (arith, once, here, standing_is))

-- ---- the poll

pub record Polls (i : Insides) (new : Ledger) (pen : NoteIs) (pass after : PassIs) (poller : ℕ) (req : ReqNo) : Type 0 where
  pub keeps : Keeps i
  pub is_poller : IsPoller i.book.program i.book.workers pass.caller
  pub carried : Carries i.pen pass
  pub notice : 0 < length (final i.book.program i.book.history).notices
  pub number : poller ≡ pass.caller - length i.book.program.tasks.items
  pub takes : TakesNotice i.book new poller req
  pub pen_is : pen ≡ pen_with i.pen pass.caller 0
  pub after_is : after ≡ pass_with i.pen pass 0

module _ (i : Insides) (new : Ledger) (pen : NoteIs) (pass after : PassIs) (poller : ℕ) (req : ReqNo) (m : Polls i new pen pass after poller req) where
  abbrev p : Program
  p = i.book.program

  abbrev s : State
  s = state_seen p i.pen.seen

  seen_final : final p i.book.history ≡ s
  seen_final = final_seen i m.keeps

  runs : IsDefined p i.book.workers (opening p) (moves i.pen.seen)
  runs = sound_runs p i.book.workers i.pen.seen m.keeps.sound

  may_step : MayStep p i.book.workers s pass.caller
  may_step = inr (record {
    poller = m.is_poller.poller;
    exists = m.is_poller.exists;
    notice = subst (λ (t : State). 0 < length t.notices) seen_final m.notice;
  })

  may_do : MayDo p i.book.workers i.pen.seen pass.caller Move
  may_do = (may_step, λ waits. absurd (waits_never p i.book.workers (moves i.pen.seen) pass.caller m.is_poller.poller runs waits))

  entry_of : caller (length p.tasks.items) (entry.Poll poller req) ≡ pass.caller
  entry_of = let above = m.is_poller.poller in let is = m.number in omega (arith, above, is)

  book_is : record i.book { history = new.history; statuses = new.statuses } ≡ new
  book_is = ledger_as i.book new m.takes.program m.takes.workers m.takes.handed

  abbrev j : Insides
  j = record i { book = record i.book { history = new.history; statuses = new.statuses }; pen = pen_with i.pen pass.caller 0 }

  kept : Keeps j
  kept = keeps_step i pass.caller _ new.history new.statuses m.keeps may_do entry_of m.takes.entry m.takes.short

  pub keeps_polled : Keeps (record i { book = new; pen = pen })
  keeps_polled =
      subst (λ (n : NoteIs). Keeps (record i { book = new; pen = n })) (sym m.pen_is)
      (subst (λ (b : Ledger). Keeps (record i { book = b; pen = pen_with i.pen pass.caller 0 })) book_is kept)

  abbrev t : State
  t = state_seen p (i.pen.seen ++ (pass.caller, 0) ∷ [])

  after_final : final p new.history ≡ t
  after_final = final_seen j kept

  first_notice : s.notices ≡ req ∷ t.notices
  first_notice =
      ap (λ (u : State). u.notices) (sym seen_final) ∙ m.takes.first ∙ ap (λ (u : State). req ∷ u.notices) after_final

  complete_after : is_complete p t.exchange req ≡ true
  complete_after =
      subst (λ (u : State). is_complete p u.exchange req ≡ true) (sym (state_seen-step p i.pen.seen pass.caller))
      (complete_stays p i.book.workers s pass.caller may_step req (complete_noticed p i.book.workers (moves i.pen.seen) req t.notices runs first_notice))

  pub takes_first : (old : BookIs) (note : NoteIs) → seen_as i ≡ old → IsNoteOf after note
      → TakesFirst old (record { program = new.program; workers = new.workers; table = pen.table; seen = pen.seen }) pass after
      (record { req = req; note = note })
  takes_first old note view told =
      subst (λ (b : BookIs). TakesFirst b (seen_as (record i { book = new; pen = pen })) pass after (record { req = req; note = note })) view
      (subst (λ (n : NoteIs). TakesFirst (seen_as i) (seen_as (record i { book = new; pen = n })) pass after (record { req = req; note = note })) (sym m.pen_is)
      (subst (λ (b : Ledger). TakesFirst (seen_as i) (seen_as (record i { book = b; pen = pen_with i.pen pass.caller 0 })) pass after
      (record { req = req; note = note }))
      book_is
      (subst (λ (q : PassIs). IsNoteOf q note → TakesFirst (seen_as i) (with_pair (seen_as i) pass.caller 0) pass q (record { req = req; note = note }))
      (sym m.after_is)
      (λ told. record {
        adds = adds_by i pass 0 m.carried kept.sound;
        first = first_notice;
        state = sym after_final ∙ m.takes.state ∙ ap (λ (u : State). (poll u poller).state) seen_final ∙ ap (λ (n : ℕ). (poll s n).state) m.number;
        complete = complete_after;
        note = told;
      })
      told)))
