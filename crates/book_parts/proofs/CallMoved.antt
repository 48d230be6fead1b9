-- The move that the call of a posting makes, and where it leaves the book and the record.
use Rattle.std.proofs.Common.{◌≡◌, ℕ, ◌+◌, ◌≤◌, Bool, true, false, cond, List, [], ◌∷◌, ◌++◌, length, slice_get, slice_set, Option}
use Rattle.std.proofs.Common.{refl, sym, ap, ◌∙◌, subst, arith}
use Rattle.std.specs.Prelude.{ℤ, IfSome, ◌==◌}
use Rattle.std.proofs.lemmas.List.{length-append}
use Rattle.rt_base.specs.declared.data.ReqNo.{ReqNo}
use Rattle.rt_base.specs.declared.data.Phase.{Phase}
use Rattle.rt_base.specs.declared.data.Phase.TheVariants as phase
use Rattle.rt_base.specs.declared.data.Entry.{Entry}
use Rattle.rt_base.specs.declared.data.Entry.TheVariants as entry
use Rattle.rt_base.specs.declared.data.TaskDef.{TaskDef}
use Rattle.rt_base.specs.declared.data.Program.{Program}
use Rattle.rt_base.specs.Operations.{task_no, request, blocks, posting_of, nth_at}
use Rattle.rt_base.specs.Exchange.{Exchange, post, partner}
use Rattle.rt_base.specs.Completion.{is_complete, completes_alone}
use Rattle.rt_base.specs.State.{State, Task, is_released}
use Rattle.match_engine.specs.Switch.{Switch}
use Rattle.task_local.specs.Local.{stop}
use Rattle.task_local.specs.Packed.{packed}
use Rattle.task_local.specs.StandsFor.{Record, StandsAs}
use Rattle.task_local.specs.Standing.{phase_before, def_of, packed_next}
use Rattle.task_machine.specs.Machine.{Moved, move, call_move, post_move, posted_task, noticed}
use Rattle.task_machine.specs.Legal.{final}
use Rattle.task_machine.specs.Laws.{is_blocking_call}
use Rattle.task_machine.specs.Owed.{opened, opened_by, opened_by_posting}
use Rattle.task_machine.proofs.Rows.{move-row}
use Rattle.book_counts.specs.Counted.{completed_now, expects_now}
use Rattle.book_counts.proofs.CountLemmas.{stop_is_held}
use Rattle.book_counts.proofs.Listeners.{MarksBound, told_now_is}
use Rattle.book_counts.proofs.OpenCounts.{open_one}
use Rattle.book_parts.specs.declared.posting.Posting.{Posting}
use Rattle.book_parts.specs.Ledger.{Ledger, LeavesPending, record_at}
use Rattle.book_parts.specs.Kept.{BookParts, KeepsState, state_now}
use Rattle.book_parts.proofs.Moved.{IsMoved, gone_kept, ledger_of, opened-row}
use Rattle.book_parts.proofs.Held.{handed_of, notice_room, stands_before, theirs}
use Rattle.book_parts.proofs.CallLemmas.{Calls, call_may, call_packs}

-- what the calls before the entry have answered, by its parts
pub record Answered (parts : BookParts) (held : Record) (t k n count : ℕ) (def : TaskDef) (posting : Posting) (cells : List ℤ) (engine : Switch)
    (found : Option ReqNo) : Type 0 where
  pub nth : n ≡ nth_at def k
  pub packs : cells ≡ packed_next (def_of held.program held.task) held.phase held.copy
  pub program : engine.program ≡ parts.engine.program
  pub exchange : engine.exchange ≡ post parts.engine.program parts.engine.exchange (record { task = task_no t; nth = n }) cells
  pub partner_is : found ≡ partner parts.engine.program parts.engine.exchange (record { task = task_no t; nth = n }) cells
  pub before : IfSome found (λ other. is_complete parts.engine.program parts.engine.exchange other
      ≡ completes_alone parts.engine.program.eager (posting_of parts.engine.program other))
  pub completed : IfSome found (λ other. is_complete engine.program engine.exchange other ≡ true)
  pub counted : count ≡ cond (is_complete engine.program engine.exchange (record { task = task_no t; nth = n })) 0 1

posted_phase : (def : TaskDef) (k : ℕ) (blocking : Bool) (was : Task) → (posted_task def k blocking was).phase ≡ cond blocking (phase.In k) (stop def (k + 1))
posted_phase def k true was = refl
posted_phase def k false was = refl

posted_held : (def : TaskDef) (k : ℕ) (blocking : Bool) (was : Task) → is_released (posted_task def k blocking was).phase ≡ false
posted_held def k true was = refl
posted_held def k false was = stop_is_held def (k + 1)

-- a posting binds nothing
pub posted_bound : (def : TaskDef) (k : ℕ) (blocking : Bool) (was : Task) → (posted_task def k blocking was).bound ≡ was.bound
posted_bound def k true was = refl
posted_bound def k false was = refl

-- the exchange after the posting
abbrev exchange_after : BookParts → ℕ → ℕ → TaskDef → Task → Exchange
exchange_after parts t k def was = post parts.program (state_now parts).exchange (request t (nth_at def k)) (packed def k was.copy)

-- what a posting opens: its own request, where it blocks and the request is incomplete
opens_if : (blocking done : Bool) (req : ReqNo)
    → cond (cond blocking (cond done 0 1) 0 == 0) [] (req ∷ []) ≡ cond blocking (cond done [] (req ∷ [])) []
opens_if true true req = refl
opens_if true false req = refl
opens_if false done req = refl

posting_opens : (parts : BookParts) (t k : ℕ) (def : TaskDef) (was : Task) (blocking : Bool)
    → opened_by_posting parts.program (state_now parts) t def was k blocking
    ≡ cond blocking (cond (is_complete parts.program (exchange_after parts t k def was) (request t (nth_at def k))) [] (request t (nth_at def k) ∷ [])) []
posting_opens parts t k def was true = refl
posting_opens parts t k def was false = refl

stands_after_post : (def : TaskDef) (k : ℕ) (blocking : Bool) (was : Task)
    → StandsAs def (cond blocking (phase.In k) (phase_before def (k + 1))) was.copy (posted_task def k blocking was)
stands_after_post def k true was = (refl, refl)
stands_after_post def k false was = stands_before def (k + 1) was.copy (posted_task def k false was) refl refl

module _ {parts : BookParts} {held : Record} {t k : ℕ} {def : TaskDef} {posting : Posting} (c : Calls parts held t k def posting) where
  -- the move
  abbrev pub call_moves : Moved
  call_moves = post_move parts.program (state_now parts) t def c.here.was k (blocks posting.how)

  call_made : move parts.program (state_now parts) t ≡ call_moves
  call_made =
      move-row parts.program (state_now parts) t def c.here.was (phase.At k) c.here.is_def c.here.is_task c.at
      ∙ ap (call_move parts.program (state_now parts) t def c.here.was k) c.posts.is

  -- where the record is left
  pub call_left : {after : Record} {next : Phase} → next ≡ cond (blocks posting.how) (phase.In k) (phase_before def (k + 1))
      → after ≡ record held { phase = next } → after ≡ record_at parts.program (state_now parts) def held (phase.At k)
  call_left is went =
      let blocking : blocks posting.how ≡ is_blocking_call (slice_get def.body.items k) = sym (ap is_blocking_call c.posts.is) in
      went ∙ ap (λ (q : Phase). record held { phase = q }) is
      ∙ ap (λ (b : Bool). record held { phase = cond b (phase.In k) (phase_before def (k + 1)) }) blocking

  pub call_stands : {after : Record} {next : Phase} → next ≡ cond (blocks posting.how) (phase.In k) (phase_before def (k + 1))
      → after ≡ record held { phase = next } → StandsAs def after.phase after.copy (posted_task def k (blocks posting.how) c.here.was)
  call_stands is went =
      let now : Task = posted_task def k (blocks posting.how) c.here.was in
      subst (λ (z : Record). StandsAs def z.phase z.copy now) (sym went)
      (subst (λ (q : Phase). StandsAs def q held.copy now) (sym is)
      (subst (λ (cs : List ℤ). StandsAs def (cond (blocks posting.how) (phase.In k) (phase_before def (k + 1))) cs now) (sym c.copy)
      (stands_after_post def k (blocks posting.how) c.here.was)))

module _ {parts : BookParts} {held : Record} {t k n count : ℕ} {def : TaskDef} {posting : Posting} {cells : List ℤ} {engine : Switch} {found : Option ReqNo}
    (kept : KeepsState parts) (c : Calls parts held t k def posting) (a : Answered parts held t k n count def posting cells engine found) where
  -- the exchange, the entry and the notices of the call, as the code has them
  call_exchange : engine.exchange ≡ exchange_after parts t k def c.here.was
  call_exchange =
      a.exchange ∙ ap (λ (q : Program). post q parts.engine.exchange (request t n) cells) kept.engine_of
      ∙ ap (λ (e : Exchange). post parts.program e (request t n) cells) kept.exchange_is
      ∙ ap (λ (i : ℕ). post parts.program (state_now parts).exchange (request t i) cells) a.nth
      ∙ ap (post parts.program (state_now parts).exchange (request t (nth_at def k))) (call_packs c a.packs)

  call_count : count ≡ cond (is_complete parts.program (exchange_after parts t k def c.here.was) (request t (nth_at def k))) 0 1
  call_count =
      a.counted ∙ ap (λ (q : Program). cond (is_complete q engine.exchange (request t n)) 0 1) (a.program ∙ kept.engine_of)
      ∙ ap (λ (e : Exchange). cond (is_complete parts.program e (request t n)) 0 1) call_exchange
      ∙ ap (λ (i : ℕ). cond (is_complete parts.program (exchange_after parts t k def c.here.was) (request t i)) 0 1) a.nth

  call_entry : entry.Call (task_no t) k count ≡ (call_moves c).entry
  call_entry =
      ap (entry.Call (task_no t) k)
      (call_count ∙ sym (open_one parts.program (exchange_after parts t k def c.here.was) (request t (nth_at def k))))

  pub call_opens : {number : ℕ} {listed none : List ReqNo} → number ≡ cond (blocks posting.how) count 0 → none ≡ []
      → listed ≡ none ++ cond (number == 0) [] (request t n ∷ []) → listed ≡ opened parts.program (state_now parts) t
  call_opens {number = number} is_number cleared is_listed =
      let p : Program = parts.program in
      let s : State = state_now parts in
      let done : Bool = is_complete p (exchange_after parts t k def c.here.was) (request t (nth_at def k)) in
      is_listed ∙ ap (λ (z : List ReqNo). z ++ cond (number == 0) [] (request t n ∷ [])) cleared
      ∙ ap (λ (m : ℕ). cond (m == 0) [] (request t n ∷ [])) is_number
      ∙ ap (λ (m : ℕ). cond (cond (blocks posting.how) m 0 == 0) [] (request t n ∷ [])) call_count
      ∙ opens_if (blocks posting.how) done (request t n)
      ∙ ap (λ (i : ℕ). cond (blocks posting.how) (cond done [] (request t i ∷ [])) []) a.nth
      ∙ sym (posting_opens parts t k def c.here.was (blocks posting.how)) ∙ sym (ap (opened_by p s t def c.here.was k) c.posts.is)
      ∙ sym (opened-row p s t def c.here.was (phase.At k) c.here.is_def c.here.is_task c.at)

  call_notices : {notices : List ReqNo} → MarksBound (state_now parts) parts.marks
      → notices ≡ parts.notices ++ completed_now parts.program (expects_now parts.program parts.phases parts.marks) found
      → notices ≡ (call_moves c).state.notices
  call_notices marked told =
      let p : Program = parts.program in
      let s : State = state_now parts in
      let of_state : found ≡ partner p s.exchange (request t (nth_at def k)) (packed def k c.here.was.copy) =
      a.partner_is ∙ ap (λ (q : Program). partner q parts.engine.exchange (request t n) cells) kept.engine_of
      ∙ ap (λ (e : Exchange). partner p e (request t n) cells) kept.exchange_is
      ∙ ap (λ (i : ℕ). partner p s.exchange (request t i) cells) a.nth
      ∙ ap (partner p s.exchange (request t (nth_at def k))) (call_packs c a.packs) in
      let was_open : IfSome found (λ other. is_complete p s.exchange other ≡ completes_alone p.eager (posting_of p other)) =
      subst (λ (e : Exchange). IfSome found (λ other. is_complete p e other ≡ completes_alone p.eager (posting_of p other))) kept.exchange_is
      (subst (λ (q : Program). IfSome found (λ other. is_complete q parts.engine.exchange other ≡ completes_alone q.eager
      (posting_of q other))) kept.engine_of a.before) in
      told ∙ ap (λ (z : List ReqNo). z ++ completed_now p (expects_now p parts.phases parts.marks) found) kept.notices_are
      ∙ ap (λ (z : List ReqNo). s.notices ++ z) (told_now_is p s parts.phases parts.marks found marked kept.phases_are was_open)
      ∙ ap (λ (o : Option ReqNo). s.notices ++ noticed p s.tasks s.exchange o) of_state

  -- there is room for the notice
  pub post_room : {more : List ReqNo} → MarksBound (state_now parts) parts.marks
      → more ≡ completed_now parts.program (expects_now parts.program parts.phases parts.marks) found
      → length parts.notices + length more ≤ parts.notice_places
  post_room {more = more} marked told =
      let fits = notice_room parts t (parts.notices ++ more) kept (call_may c)
      (call_notices marked (ap (λ (z : List ReqNo). parts.notices ++ z) told) ∙ ap (λ (z : Moved). z.state.notices) (sym (call_made c))) in
      omega (arith, length-append parts.notices more)

  pub call_moved : {at : Phase} {notices more listed : List ReqNo} {entries : List Entry} {entry_places notice_places opened_places : ℕ}
      (waits posted incomplete : List ℕ) → MarksBound (state_now parts) parts.marks → notices ≡ parts.notices ++ more
      → more ≡ completed_now parts.program (expects_now parts.program parts.phases parts.marks) found
      → at ≡ cond (blocks posting.how) (phase.In k) (stop def (k + 1)) → entries ≡ parts.entries ++ entry.Call (task_no t) k count ∷ []
      → listed ≡ opened parts.program (state_now parts) t
      → parts.entry_places ≤ entry_places → parts.notice_places ≤ notice_places → parts.opened_places ≤ opened_places
      → IsMoved parts (record parts {
        engine = engine;
        phases = slice_set parts.phases t at;
        notices = notices;
        entries = entries;
        waits = waits;
        posted = posted;
        incomplete = incomplete;
        opened = listed;
        entry_places = entry_places;
        notice_places = notice_places;
        opened_places = opened_places;
      }) t c.here.was (posted_task def k (blocks posting.how) c.here.was) (call_moves c)
  call_moved waits posted incomplete marked told tells stops grown opens more more' more'' =
      record {
        may = call_may c;
        moved = call_made c;
        is_task = c.here.is_task;
        tasks = refl;
        program = refl;
        workers = refl;
        handed = handed_of parts held t def (phase.At k) (phase.At k) kept c.here c.at (λ e. absurd (cc e));
        marks = refl;
        of_program = refl;
        gone = gone_kept parts t c.here.was _ kept c.here.is_task (ap is_released c.at) (posted_held def k (blocks posting.how) c.here.was);
        whole = kept.whole;
        engine = a.program;
        exchange = call_exchange;
        phases = ap (slice_set parts.phases t) (stops ∙ sym (posted_phase def k (blocks posting.how) c.here.was));
        memory = kept.memory_is;
        cells = refl;
        notices = call_notices marked (told ∙ ap (λ (z : List ReqNo). parts.notices ++ z) tells);
        entries = grown ∙ ap (λ (e : Entry). parts.entries ++ e ∷ []) call_entry;
        statuses = kept.legal.told;
        opened = opens;
        places = record { entries = more; statuses = omega arith; notices = more'; opened = more'' };
      }

  pub call_pending : {l : Ledger} {prog : Program} → ledger_of parts ≡ l → prog ≡ l.program
      → LeavesPending (move prog (final prog l.history) held.task).entry count
  call_pending {l = l} {prog = prog} view same =
      theirs (λ (q : Program) (es : List Entry). LeavesPending (move q (final q es) held.task).entry count) parts l prog view same
      (subst (λ (e : Entry). LeavesPending e count)
      (call_entry ∙ sym (ap (λ (z : Moved). z.entry) (ap (move parts.program (state_now parts)) (sym c.here.who) ∙ call_made c))) refl)
