-- What the end of a posting in which a task waited asks for, and what it stores, in terms of a book's fields.
use Rattle.std.proofs.Common.{◌≡◌, ℕ, ◌+◌, ◌≤◌, Bool, true, false, cond, List, [], ◌∷◌, length, filter, slice_get, Some, None}
use Rattle.std.proofs.Common.{Option, refl, sym, ap, ◌∙◌, subst, arith}
use Rattle.std.specs.Prelude.{ℤ}
use Rattle.std.proofs.lemmas.List.{length-take}
use Rattle.rt_base.specs.declared.data.ReqNo.{ReqNo}
use Rattle.rt_base.specs.declared.data.Span.{Span}
use Rattle.rt_base.specs.declared.data.How.{How}
use Rattle.rt_base.specs.declared.data.Op.{Op}
use Rattle.rt_base.specs.declared.data.Op.TheVariants as op
use Rattle.rt_base.specs.declared.data.Phase.{Phase}
use Rattle.rt_base.specs.declared.data.Phase.TheVariants as phase
use Rattle.rt_base.specs.declared.data.Status.{Status}
use Rattle.rt_base.specs.declared.data.TaskDef.{TaskDef}
use Rattle.rt_base.specs.declared.data.Program.{Program}
use Rattle.rt_base.specs.Spans.{span_len}
use Rattle.rt_base.specs.Operations.{request, is_receive, is_posting, nth_at, posting_of, awaited}
use Rattle.rt_base.specs.Exchange.{Exchange, Match}
use Rattle.rt_base.specs.Completion.{is_complete, request_cells, request_status, receive_cells, cells_by, match_with}
use Rattle.rt_base.specs.State.{Task}
use Rattle.rt_base.specs.MayMove.{MayMove, AreComplete}
use Rattle.rt_base.specs.WellFormed.{IsPostingOf, IsDeclared}
use Rattle.task_local.specs.Regions.{put}
use Rattle.task_local.specs.Waits.{taken, told, put_statuses, put_at_posting}
use Rattle.task_local.specs.StandsFor.{Record, StandsFor}
use Rattle.wait_steps.specs.StatusSpans.{HasPlaces}
use Rattle.book_parts.specs.declared.posting.Posting.{Posting}
use Rattle.task_local.specs.Standing.{def_of, phase_before}
use Rattle.task_machine.specs.Legal.{final}
use Rattle.task_machine.specs.Laws.{is_blocking_call}
use Rattle.book_parts.specs.Ledger.{Ledger}
use Rattle.book_parts.specs.Kept.{BookParts, KeepsState, PostsAs, state_now, told_now}
use Rattle.book_counts.proofs.Awaiting.{awaited_is}
use Rattle.book_parts.proofs.Moved.{ledger_of}
use Rattle.run_bounds.proofs.Operations.{posting_found, posting_is, operation_is}
use Rattle.run_bounds.proofs.Operations.{HasStatus, has_status, span_declared}
use Rattle.book_parts.proofs.Within.{Within, enabled_in, is_within, stored_def}

-- a task that waits in a posting
pub record Inside (parts : BookParts) (held : Record) (t k : ℕ) (def : TaskDef) (posting : Posting) : Type 0 where
  pub in_it : Within parts held t k def
  pub posts : PostsAs (slice_get def.body.items k) posting

pub inside : (parts : BookParts) (held : Record) (t k : ℕ) (def : TaskDef) (posting : Posting) (l : Ledger) (prog : Program) → KeepsState parts
    → ledger_of parts ≡ l → prog ≡ l.program → StandsFor prog held (final prog l.history) → MayMove prog (final prog l.history) held.task → t ≡ held.task
    → slice_get prog.tasks.items t ≡ Some def → held.phase ≡ phase.In k → PostsAs (slice_get (def_of held.program held.task).body.items k) posting
    → Inside parts held t k def posting
inside parts held t k def posting l prog kept view same stands may who is_def place posts =
    let w = is_within parts held t k def l prog kept view same stands may who is_def place in
    record { in_it = w; posts = subst (λ (d : TaskDef). PostsAs (slice_get d.body.items k) posting) w.here.held_def posts }

-- at most the cells of its span
few_cells : (span : Span) (found : Option Match) (receives : Bool) → length (cond receives (receive_cells span found) []) ≤ span_len span
few_cells span None true = omega arith
few_cells span (Some found) true = omega (arith, length-take (span_len span) found.message.cells)
few_cells span found false = omega arith

few_by : (found : Option Match) (o : Option Op) (posting : Posting) → PostsAs o posting → length (cells_by found o) ≤ span_len posting.span
few_by found o posting posts = subst (λ (z : Option Op). length (cells_by found z) ≤ span_len posting.span) (sym posts.is)
    (few_cells posting.span found (is_receive posting.how))

cells_fit : (p : Program) (e : Exchange) (req : ReqNo) (posting : Posting) → PostsAs (posting_of p req) posting
    → length (request_cells p e req) ≤ span_len posting.span
unfolding request_cells
cells_fit p e req posting posts = few_by (match_with e.matches req) (posting_of p req) posting posts

posts_request : (p : Program) (t k : ℕ) (def : TaskDef) (posting : Posting) → slice_get p.tasks.items t ≡ Some def
    → PostsAs (slice_get def.body.items k) posting
    → PostsAs (posting_of p (request t (nth_at def k))) posting
posts_request p t k def posting is_def posts = record {
  peer = posts.peer;
  tag = posts.tag;
  comm = posts.comm;
  is = posting_is p t k def (op.Post posting.how posting.span posts.peer posts.tag posts.comm posting.status) is_def posts.is refl;
}

-- a status span has room for what its posting tells
places_told : (def : TaskDef) (how : How) (status : Option Span) (here : List Status) (p : Program) (e : Exchange) (req : ReqNo) → here ≡ told_now p e req how
    → HasStatus def how status → HasPlaces def status (length here)
places_told def how None here p e req tells own = tt
places_told def how (Some span) here p e req tells own =
    let one = ap (λ (z : List Status). length z) (tells ∙ ap (λ (b : Bool). cond b (request_status p e req ∷ []) []) (own.receive refl)) in
    (own.declared.0, omega (arith, one, own.declared.1))

-- what the posting tells, and what is stored
told_is : (p : Program) (e : Exchange) (t k : ℕ) (def : TaskDef) (posting : Posting) → PostsAs (slice_get def.body.items k) posting
    → told p e t def k ≡ told_now p e (request t (nth_at def k)) posting.how
unfolding told
told_is p e t k def posting posts = rw (posts.is) refl

taken_is : (p : Program) (e : Exchange) (t k : ℕ) (def : TaskDef) (posting : Posting) (copy : List ℤ) → PostsAs (slice_get def.body.items k) posting
    → taken p e t def k copy
    ≡ put_statuses def posting.status (told_now p e (request t (nth_at def k)) posting.how)
    (put def posting.span (request_cells p e (request t (nth_at def k))) copy)
unfolding taken
taken_is p e t k def posting copy posts =
    let req : ReqNo = request t (nth_at def k) in
    let x : Op = op.Post posting.how posting.span posts.peer posts.tag posts.comm posting.status in
    let among : slice_get (filter is_posting def.body.items) (nth_at def k) ≡ Some x = posting_found def.body.items k x posts.is refl in
    let stored : put_at_posting def (slice_get (filter is_posting def.body.items) (nth_at def k)) (request_cells p e req) copy ≡ put def posting.span
    (request_cells p e req) copy =
    ap (λ (o : Option Op). put_at_posting def o (request_cells p e req) copy) among in
    rw (told_is p e t k def posting posts, posts.is) (ap (put_statuses def posting.status (told_now p e req posting.how)) stored)

module _ {parts : BookParts} {held : Record} {t k : ℕ} {def : TaskDef} {posting : Posting} (i : Inside parts held t k def posting) where
  -- the request is complete, as the task may move
  complete_in : is_complete parts.program (state_now parts).exchange (request t (nth_at def k)) ≡ true
  complete_in =
      let req : ReqNo = request t (nth_at def k) in
      let listed : awaited t def k ≡ req ∷ [] =
      awaited_is t def k (op.Post posting.how posting.span i.posts.peer i.posts.tag i.posts.comm posting.status) i.posts.is
      ∙ ap (λ (b : Bool). cond b (req ∷ []) []) (sym (ap is_blocking_call i.posts.is) ∙ i.in_it.blocking) in
      let all : AreComplete parts.program (state_now parts).exchange (req ∷ []) =
      subst (AreComplete parts.program (state_now parts).exchange) listed (enabled_in i.in_it) in
      all.0

module _ {parts : BookParts} {held : Record} {t k n : ℕ} {def : TaskDef} {posting : Posting} (kept : KeepsState parts)
    (i : Inside parts held t k def posting) (nth : n ≡ nth_at def k) where
  pub is_done : is_complete parts.engine.program parts.engine.exchange (request t n) ≡ true
  is_done =
      ap (λ (z : Program). is_complete z parts.engine.exchange (request t n)) kept.engine_of
      ∙ ap (λ (e : Exchange). is_complete parts.program e (request t n)) kept.exchange_is
      ∙ ap (λ (m : ℕ). is_complete parts.program (state_now parts).exchange (request t m)) nth ∙ complete_in i

  cells_here : request_cells parts.engine.program parts.engine.exchange (request t n)
      ≡ request_cells parts.program (state_now parts).exchange (request t (nth_at def k))
  cells_here =
      ap (λ (z : Program). request_cells z parts.engine.exchange (request t n)) kept.engine_of
      ∙ ap (λ (z : Exchange). request_cells parts.program z (request t n)) kept.exchange_is
      ∙ ap (λ (m : ℕ). request_cells parts.program (state_now parts).exchange (request t m)) nth

  pub received_fit : (cells : List ℤ) → cells ≡ request_cells parts.engine.program parts.engine.exchange (request t n) → length cells ≤ span_len posting.span
  received_fit cells received =
      subst (λ (z : List ℤ). length z ≤ span_len posting.span) (sym (received ∙ cells_here))
      (cells_fit parts.program (state_now parts).exchange (request t (nth_at def k)) posting
      (posts_request parts.program t k def posting i.in_it.here.is_def i.posts))

  told_at_once : told_now parts.engine.program parts.engine.exchange (request t n) posting.how
      ≡ told_now parts.program (state_now parts).exchange (request t (nth_at def k)) posting.how
  told_at_once =
      ap (λ (z : Program). told_now z parts.engine.exchange (request t n) posting.how) kept.engine_of
      ∙ ap (λ (z : Exchange). told_now parts.program z (request t n) posting.how) kept.exchange_is
      ∙ ap (λ (m : ℕ). told_now parts.program (state_now parts).exchange (request t m) posting.how) nth

  pub told_here : told_now parts.engine.program parts.engine.exchange (request t n) posting.how ≡ told parts.program (state_now parts).exchange t def k
  told_here = told_at_once ∙ sym (told_is parts.program (state_now parts).exchange t k def posting i.posts)

  -- the copy after both stores
  copy_taken : (stored : Record) (cells copy' : List ℤ) → cells ≡ request_cells parts.engine.program parts.engine.exchange (request t n)
      → stored ≡ record held { copy = put (def_of held.program held.task) posting.span cells held.copy }
      → copy' ≡ put_statuses (def_of stored.program stored.task) posting.status
      (told_now parts.engine.program parts.engine.exchange (request t n) posting.how) stored.copy
      → copy' ≡ taken parts.program (state_now parts).exchange t def k i.in_it.here.was.copy
  copy_taken stored cells copy' received went is =
      let p : Program = parts.program in
      let e : Exchange = (state_now parts).exchange in
      let was : Task = i.in_it.here.was in
      let after = stored_def held stored def (put (def_of held.program held.task) posting.span cells held.copy) i.in_it.here.held_def went in
      let first : stored.copy ≡ put def posting.span (request_cells p e (request t (nth_at def k))) was.copy =
      ap (λ (z : Record). z.copy) went ∙ ap (λ (d : TaskDef). put d posting.span cells held.copy) i.in_it.here.held_def
      ∙ ap (put def posting.span cells) i.in_it.here.stands.1
      ∙ ap (λ (z : List ℤ). put def posting.span z was.copy) (received ∙ cells_here) in
      is ∙ ap (λ (d : TaskDef). put_statuses d posting.status (told_now parts.engine.program parts.engine.exchange (request t n) posting.how) stored.copy) after
      ∙ ap (put_statuses def posting.status (told_now parts.engine.program parts.engine.exchange (request t n) posting.how)) first
      ∙ ap (λ (z : List Status). put_statuses def posting.status z (put def posting.span (request_cells p e (request t (nth_at def k))) was.copy)) told_at_once
      ∙ sym (taken_is p e t k def posting was.copy i.posts)

  -- where the record is left
  pub leave_left : {stored put_both after : Record} {next : Phase} {here : List Status} (cells : List ℤ)
      → cells ≡ request_cells parts.engine.program parts.engine.exchange (request t n)
      → stored ≡ record held { copy = put (def_of held.program held.task) posting.span cells held.copy }
      → here ≡ told_now parts.engine.program parts.engine.exchange (request t n) posting.how
      → put_both ≡ record stored { copy = put_statuses (def_of stored.program stored.task) posting.status here stored.copy }
      → next ≡ phase_before def (k + 1) → after ≡ record put_both { phase = next }
      → after ≡ record held { phase = phase_before def (k + 1); copy = taken parts.program (state_now parts).exchange t def k i.in_it.here.was.copy }
  leave_left {stored = stored} {next = next} {here = here} cells received went tells went' is goes =
      let both : List ℤ = put_statuses (def_of stored.program stored.task) posting.status here stored.copy in
      let copied : both ≡ taken parts.program (state_now parts).exchange t def k i.in_it.here.was.copy =
      copy_taken stored cells both received went
      (ap (λ (z : List Status). put_statuses (def_of stored.program stored.task) posting.status z stored.copy) tells) in
      goes ∙ ap (λ (z : Record). record z { phase = next }) (went' ∙ ap (λ (z : Record). record z { copy = both }) went)
      ∙ ap (λ (q : Phase). record held { copy = both; phase = q }) is
      ∙ ap (λ (z : List ℤ). record held { copy = z; phase = phase_before def (k + 1) }) copied

module _ {parts : BookParts} {held : Record} {t k : ℕ} {def : TaskDef} {posting : Posting} (kept : KeepsState parts)
    (i : Inside parts held t k def posting) where
  -- what a well-formed program says of the posting
  posting_allowed : IsPostingOf parts.program def posting.how posting.span i.posts.peer i.posts.tag posting.status
  posting_allowed =
      (operation_is parts.program t k def (op.Post posting.how posting.span i.posts.peer i.posts.tag i.posts.comm posting.status) kept.well
      i.in_it.here.is_def i.posts.is).0

  -- what a store asks of the posting's span
  pub stores : IsDeclared (def_of held.program held.task).accesses.items posting.span
  stores =
      subst (λ (d : TaskDef). IsDeclared d.accesses.items posting.span) (sym i.in_it.here.held_def)
      (span_declared parts.program def posting.how posting.span i.posts.peer i.posts.tag posting.status posting_allowed)

  own_status : HasStatus def posting.how posting.status
  own_status = has_status parts.program def posting.how posting.span i.posts.peer i.posts.tag posting.status posting_allowed

  -- where its status goes there is room for what it tells
  pub status_places : {stored : Record} {copy : List ℤ} {here : List Status} (p : Program) (e : Exchange) (req : ReqNo) → stored ≡ record held { copy = copy }
      → here ≡ told_now p e req posting.how → HasPlaces (def_of stored.program stored.task) posting.status (length here)
  status_places {stored = stored} {copy = copy} {here = here} p e req went tells =
      subst (λ (d : TaskDef). HasPlaces d posting.status (length here)) (sym (stored_def held stored def copy i.in_it.here.held_def went))
      (places_told def posting.how posting.status here p e req tells own_status)
