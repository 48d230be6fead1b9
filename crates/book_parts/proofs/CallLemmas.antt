-- What the calls of a posting ask for, in terms of a book's fields.
use Rattle.std.proofs.Common.{◌≡◌, ℕ, ◌+◌, ◌<◌, ◌≤◌, ◌⊎◌, Bool, true, false, cond, List, [], length, drop, slice_get, Some, Option}
use Rattle.std.proofs.Common.{refl, sym, ap, ◌∙◌, subst, inl, inr, arith}
use Rattle.std.specs.Prelude.{ℤ}
use Rattle.std.proofs.lemmas.Bool.{false_from_ne_true}
use Rattle.std.proofs.lemmas.Option.{slice_get_within}
use Rattle.std.proofs.lemmas.List.{length-take, length-drop}
use Rattle.rt_base.specs.declared.data.Span.{Span}
use Rattle.rt_base.specs.declared.data.Op.{Op}
use Rattle.rt_base.specs.declared.data.Op.TheVariants as op
use Rattle.rt_base.specs.declared.data.Phase.{Phase}
use Rattle.rt_base.specs.declared.data.Phase.TheVariants as phase
use Rattle.rt_base.specs.declared.data.TaskDef.{TaskDef}
use Rattle.rt_base.specs.declared.data.Program.{Program}
use Rattle.rt_base.specs.Spans.{span_len}
use Rattle.rt_base.specs.Operations.{request, blocks, is_receive, posting_of, nth_at}
use Rattle.rt_base.specs.Exchange.{Exchange}
use Rattle.rt_base.specs.Completion.{is_posted}
use Rattle.rt_base.specs.MayMove.{MayMove}
use Rattle.rt_base.specs.WellFormed.{IsDeclared, region_cells}
use Rattle.match_engine.specs.Requests.{IsSend, IsReceive, Sends, Receives}
use Rattle.task_local.specs.Regions.{cells_of_span, place}
use Rattle.task_local.specs.Packed.{packed, packed_by}
use Rattle.task_local.specs.StandsFor.{Record, StandsFor}
use Rattle.task_local.specs.Standing.{phase_before, def_of, packed_next, GoesTo, IsCall}
use Rattle.task_local.proofs.Places.{declared_fits}
use Rattle.task_machine.specs.Course.{posted_by_phase}
use Rattle.task_machine.specs.Legal.{final}
use Rattle.run_bounds.proofs.Operations.{operation_is, posting_is, send_declares}
use Rattle.book_parts.specs.declared.posting.Posting.{Posting}
use Rattle.book_parts.specs.Ledger.{Ledger}
use Rattle.book_parts.specs.Kept.{BookParts, KeepsState, PostsAs, opens, state_now}
use Rattle.book_parts.proofs.Moved.{fits_now, ledger_of}
use Rattle.book_parts.proofs.Held.{Held}
use Rattle.book_parts.proofs.Before.{before, before_may}

-- what is known at the call of a posting
pub record Calls (parts : BookParts) (held : Record) (t k : ℕ) (def : TaskDef) (posting : Posting) : Type 0 where
  pub here : Held parts held t def (phase.At k)
  pub posts : PostsAs (slice_get def.body.items k) posting
  pub at : here.was.phase ≡ phase.At k
  pub copy : held.copy ≡ here.was.copy

-- the operation that a posting is
abbrev pub posting_op : (posting : Posting) (o : Option Op) → PostsAs o posting → Op
posting_op posting o posts = op.Post posting.how posting.span posts.peer posts.tag posts.comm posting.status

pub calls : (parts : BookParts) (held : Record) (t k : ℕ) (def : TaskDef) (posting : Posting) (l : Ledger) (prog : Program) → ledger_of parts ≡ l
    → prog ≡ l.program → StandsFor prog held (final prog l.history) → t ≡ held.task → slice_get prog.tasks.items t ≡ Some def → held.phase ≡ phase.At k
    → PostsAs (slice_get (def_of held.program held.task).body.items k) posting → Calls parts held t k def posting
calls parts held t k def posting l prog view same stands who is_def place posts =
    let b = before parts held t k def (posting_op posting _ posts) l prog view same stands who is_def place posts.is refl in
    record {
      here = b.here;
      posts = record { peer = posts.peer; tag = posts.tag; comm = posts.comm; is = b.is };
      at = b.at;
      copy = b.copy;
    }

-- the cells of a declared span are all in the copy
whole_span : (def : TaskDef) (span : Span) (copy : List ℤ) → IsDeclared def.accesses.items span → length copy ≡ region_cells def
    → length (cells_of_span def span copy) ≡ span_len span
whole_span def span copy declared counted =
    let fits = declared_fits def.accesses.items span declared in
    omega (arith, length-take (span_len span) (drop (place def span.array span.from) copy), length-drop (place def span.array span.from) copy)

packed_post : (def : TaskDef) (k : ℕ) (copy : List ℤ) (posting : Posting) → PostsAs (slice_get def.body.items k) posting
    → packed def k copy ≡ cond (is_receive posting.how) [] (cells_of_span def posting.span copy)
unfolding packed
packed_post def k copy posting posts = ap (λ (o : Option Op). packed_by def o copy) posts.is

either_next : (blocking : Bool) (def : TaskDef) (k : ℕ) (next : Phase) → next ≡ cond blocking (phase.In k) (phase_before def (k + 1))
    → (next ≡ phase.In k) ⊎ (next ≡ phase_before def (k + 1))
either_next true def k next is = inl is
either_next false def k next is = inr is

module _ {parts : BookParts} {held : Record} {t k : ℕ} {def : TaskDef} {posting : Posting} (c : Calls parts held t k def posting) where
  pub call_may : MayMove parts.program (state_now parts) t
  call_may = before_may {x = posting_op posting _ c.posts} (record { here = c.here; is = c.posts.is; at = c.at; copy = c.copy })

  pub call_within : k < length def.body.items
  call_within = slice_get_within def.body.items k (posting_op posting _ c.posts) c.posts.is

  -- the packed cells, in the state's own terms
  pub call_packs : {cells : List ℤ} → cells ≡ packed_next (def_of held.program held.task) held.phase held.copy → cells ≡ packed def k c.here.was.copy
  call_packs packs =
      packs ∙ ap (λ (q : Phase). packed_next (def_of held.program held.task) q held.copy) c.here.place
      ∙ ap (λ (d : TaskDef). packed d k held.copy) c.here.held_def ∙ ap (packed def k) c.copy

  -- where the record goes on
  pub call_follows : {next : Phase} → next ≡ cond (blocks posting.how) (phase.In k) (phase_before def (k + 1))
      → GoesTo (def_of held.program held.task) held.phase next
  call_follows {next = next} is =
      subst (λ (q : Phase). GoesTo (def_of held.program held.task) q next) (sym c.here.place)
      (subst (λ (d : TaskDef). GoesTo d (phase.At k) next) (sym c.here.held_def)
      (subst IsCall (sym c.posts.is) refl, either_next (blocks posting.how) def k next is))

module _ {parts : BookParts} {held : Record} {t k : ℕ}
    {def : TaskDef} {posting : Posting} (kept : KeepsState parts) (c : Calls parts held t k def posting) where
  -- a posting has room for its own request among what is opened
  pub post_opens : 1 ≤ parts.opened_places
  post_opens =
      let one : opens (slice_get def.body.items k) ≡ 1 = ap opens c.posts.is in
      let room = kept.places.opened t k def c.here.is_def in
      omega arith

  -- what the program says of the request
  of_request : {n : ℕ} → n ≡ nth_at def k → posting_of parts.program (request t n) ≡ Some (posting_op posting _ c.posts)
  of_request nth =
      ap (λ (i : ℕ). posting_of parts.program (request t i)) nth ∙ posting_is parts.program t k def (posting_op posting _ c.posts) c.here.is_def c.posts.is refl

  call_cells : {cells : List ℤ} → cells ≡ packed_next (def_of held.program held.task) held.phase held.copy
      → cells ≡ cond (is_receive posting.how) [] (cells_of_span def posting.span c.here.was.copy)
  call_cells packs = call_packs c packs ∙ packed_post def k c.here.was.copy posting c.posts

  pub call_sends : {n : ℕ} {cells : List ℤ} → cells ≡ packed_next (def_of held.program held.task) held.phase held.copy
      → length held.copy ≡ region_cells (def_of held.program held.task) → n ≡ nth_at def k → is_receive posting.how ≡ false
      → IsSend parts.engine.program (request t n) (length cells)
  call_sends {n = n} {cells = cells} packs counted nth sends =
      let declared = send_declares parts.program def posting.how posting.span c.posts.peer c.posts.tag posting.status sends
      (operation_is parts.program t k def (posting_op posting _ c.posts) kept.well c.here.is_def c.posts.is).0 in
      let whole : length c.here.was.copy ≡ region_cells def = ap (λ (cs : List ℤ). length cs) (sym c.copy) ∙ counted ∙ ap region_cells c.here.held_def in
      let is_cells : cells ≡ cells_of_span def posting.span c.here.was.copy =
      call_cells packs ∙ ap (λ (b : Bool). cond b [] (cells_of_span def posting.span c.here.was.copy)) sends in
      subst (λ (q : Program). IsSend q (request t n) (length cells)) (sym kept.engine_of)
      (subst (Sends (length cells)) (sym (of_request nth))
      (sends, ap (λ (cs : List ℤ). length cs) is_cells ∙ whole_span def posting.span c.here.was.copy declared whole))

  pub call_receives : {n : ℕ} {cells : List ℤ} → cells ≡ packed_next (def_of held.program held.task) held.phase held.copy → n ≡ nth_at def k
      → is_receive posting.how ≡ true → IsReceive parts.engine.program (request t n) × (cells ≡ [])
  call_receives {n = n} packs nth receives = (
    subst (λ (q : Program). IsReceive q (request t n)) (sym kept.engine_of) (subst Receives (sym (of_request nth)) receives),
    call_cells packs ∙ ap (λ (b : Bool). cond b [] (cells_of_span def posting.span c.here.was.copy)) receives,
  )

  pub call_is_new : {n : ℕ} → n ≡ nth_at def k → is_posted parts.engine.exchange (request t n) ≡ false
  call_is_new {n = n} nth =
      false_from_ne_true (is_posted parts.engine.exchange (request t n)) (λ posted.
      let already = (fits_now parts kept).posted t n def c.here.was c.here.is_def c.here.is_task
      (subst (λ (e : Exchange). is_posted e (request t n) ≡ true) kept.exchange_is posted) in
      let count : posted_by_phase def c.here.was.phase ≡ nth_at def k = ap (posted_by_phase def) c.at in
      absurd (omega arith))
