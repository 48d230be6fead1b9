-- A new book, and a book that hands out a task.
use Rattle.std.proofs.Common.{◌≡◌, ℕ, zero, suc, ◌^◌, ◌<◌, ◌≤◌, Bool, true, List, [], ◌∷◌, length, map, slice_get, slice_set, Some, None, Option}
use Rattle.std.proofs.Common.{IfSome, IfNone, refl, sym, ap, ◌∙◌, subst, arith}
use Rattle.std.specs.Prelude.{ℤ, pos, replicate}
use Rattle.std.proofs.lemmas.List.{length-replicate}
use Rattle.rt_base.specs.declared.data.TaskNo.{TaskNo}
use Rattle.rt_base.specs.declared.data.Phase.{Phase}
use Rattle.rt_base.specs.declared.data.Phase.TheVariants as phase
use Rattle.rt_base.specs.declared.data.Status.{Status}
use Rattle.rt_base.specs.declared.data.Entry.{Entry}
use Rattle.rt_base.specs.declared.data.Program.{Program}
use Rattle.rt_base.specs.Layout.{memory_len}
use Rattle.rt_base.specs.Precedes.{LetGo}
use Rattle.rt_base.specs.Exchange.{silent}
use Rattle.rt_base.specs.State.{State, Task, opening, waiting_task, is_released, let_go}
use Rattle.rt_base.specs.WellFormed.{WellFormed}
use Rattle.region_deps.specs.Readiness.{Readiness, IsWhole, IsStartable, none_handed_out}
use Rattle.rt_base.specs.declared.data.TaskDef.{TaskDef}
use Rattle.task_machine.specs.Owed.{last_opened}
use Rattle.book_parts.specs.Ledger.{Ledger, IsReady}
use Rattle.run_bounds.specs.Bounds.{most_entries, most_postings, most_statuses}
use Rattle.run_bounds.proofs.Rooms.{bounds_few}
use Rattle.book_parts.specs.Kept.{BookParts, KeepsState, opens, state_now}
use Rattle.book_parts.proofs.Moved.{ledger_of, short_now}
use Rattle.book_parts.proofs.Questions.{gone_of}
use Rattle.book_counts.proofs.Quiet.{MayBeHanded}

-- the insides of a new book
pub record IsNew (parts : BookParts) : Type 0 where
  pub well : WellFormed parts.program
  pub fresh : parts.ready ≡ none_handed_out parts.program
  pub whole : IsWhole parts.ready
  pub engine_of : parts.engine.program ≡ parts.program
  pub quiet : parts.engine.exchange ≡ silent parts.program.ranks
  pub memory_is : parts.memory ≡ replicate (memory_len parts.program) (pos 0)
  pub phases_are : parts.phases ≡ replicate (length parts.program.tasks.items) phase.Waiting
  pub notices_are : parts.notices ≡ []
  pub entries_are : parts.entries ≡ []
  pub statuses_are : parts.statuses ≡ []
  pub opened_are : parts.opened ≡ []
  pub entry_places : most_entries parts.program ≤ parts.entry_places
  pub status_places : most_statuses parts.program ≤ parts.status_places
  pub notice_places : most_postings parts.program.tasks.items ≤ parts.notice_places
  pub opened_places : (t k : ℕ) (def : TaskDef) → slice_get parts.program.tasks.items t ≡ Some def → opens (slice_get def.body.items k) ≤ parts.opened_places

none_opened : (p : Program) → [] ≡ last_opened p []
unfolding last_opened
none_opened p = refl

-- what stands in a list of equal items
in_replicate : {X : Type 0} (n : ℕ) (y : X) (i : ℕ) (x : X) → slice_get (replicate n y) i ≡ Some x → x ≡ y
in_replicate zero y i x here = absurd (cc)
in_replicate (suc n) y zero x here = cc
in_replicate (suc n) y (suc i) x here = in_replicate n y i x here

map-replicate : {X Y : Type 0} (f : X → Y) (n : ℕ) (x : X) → map f (replicate n x) ≡ replicate n (f x)
map-replicate f zero x = refl
map-replicate f (suc n) x = ap (λ ys. f x ∷ ys) (map-replicate f n x)

pub new_book : (parts : BookParts) → IsNew parts → KeepsState parts
new_book parts n =
    let p : Program = parts.program in
    let tasks : ℕ = length p.tasks.items in
    let start : state_now parts ≡ opening p = ap (λ (es : List Entry). state_now (record parts { entries = es })) n.entries_are in
    record {
      well = n.well;
      legal = rw (n.entries_are, n.statuses_are) (record { runs = tt; replies = refl; told = refl });
      cells = ap (λ (z : List ℤ). length z) n.memory_is ∙ length-replicate (memory_len p) (pos 0);
      memory_is = n.memory_is ∙ ap (λ (z : State). z.memory) (sym start);
      phases_are = n.phases_are ∙ sym (map-replicate (λ (z : Task). z.phase) tasks waiting_task)
          ∙ ap (λ (z : State). map (λ (x : Task). x.phase) z.tasks) (sym start);
      exchange_is = n.quiet ∙ ap (λ (z : State). z.exchange) (sym start);
      notices_are = n.notices_are ∙ ap (λ (z : State). z.notices) (sym start);
      opened_are = n.opened_are ∙ none_opened p ∙ ap (last_opened p) (sym n.entries_are);
      gone_is = ap (λ (r : Readiness). r.gone) n.fresh
          ∙ ap (λ (r : List Bool). record { released = r }) (sym (map-replicate (λ (z : Task). is_released z.phase) tasks waiting_task))
          ∙ ap (λ (z : State). let_go z.tasks) (sym start);
      begun = λ t at here started. absurd (started (in_replicate tasks phase.Waiting t at (sym (ap (λ (z : List Phase). slice_get z t) n.phases_are) ∙ here)));
      of_program = ap (λ (r : Readiness). r.program) n.fresh;
      whole = n.whole;
      engine_of = n.engine_of;
      places = record { entries = n.entry_places; statuses = n.status_places; notices = n.notice_places; opened = n.opened_places };
    }

-- what is startable in the graph is what may be handed out in the state
pub may_be_handed : (parts : BookParts) (t : ℕ) → KeepsState parts → IsStartable parts.ready t → IsReady (ledger_of parts) t
may_be_handed parts t k startable =
    subst (λ (g : LetGo). MayBeHanded parts.ready.handed parts.program g t) (gone_of parts k)
    (subst (λ (q : Program). MayBeHanded parts.ready.handed q parts.ready.gone t) k.of_program startable)

pub startable_here : (parts : BookParts) (t : ℕ) → KeepsState parts → IsReady (ledger_of parts) t → IsStartable parts.ready t
startable_here parts t k here =
    subst (λ (q : Program). MayBeHanded parts.ready.handed q parts.ready.gone t) (sym k.of_program)
    (subst (λ (g : LetGo). MayBeHanded parts.ready.handed parts.program g t) (sym (gone_of parts k)) here)

pub is_ready : (parts : BookParts) (l : Ledger) (t : ℕ) → KeepsState parts → ledger_of parts ≡ l → IsStartable parts.ready t → IsReady l t
is_ready parts l t k view startable = subst (λ (z : Ledger). IsReady z t) view (may_be_handed parts t k startable)

is_startable : (parts : BookParts) (l : Ledger) (t : ℕ) → KeepsState parts → ledger_of parts ≡ l → IsReady l t → IsStartable parts.ready t
is_startable parts l t k view here = startable_here parts t k (subst (λ (z : Ledger). IsReady z t) (sym view) here)

pub ready_none : (parts : BookParts) (l : Ledger) (found : Option TaskNo) → KeepsState parts → ledger_of parts ≡ l
    → IfNone found ((t : ℕ) → ¬ IsStartable parts.ready t)
    → IfNone found ((t : ℕ) → ¬ IsReady l t)
ready_none parts l None k view nothing = λ t here. nothing t (is_startable parts l t k view here)
ready_none parts l (Some t) k view nothing = tt

-- a task that was handed out stays so when another is
still_handed : (handed : List Bool) (t u : ℕ) → slice_get handed u ≡ Some true → slice_get (slice_set handed t true) u ≡ Some true
still_handed [] t u here = here
still_handed (h ∷ handed) zero zero here = refl
still_handed (h ∷ handed) zero (suc u) here = here
still_handed (h ∷ handed) (suc t) zero here = here
still_handed (h ∷ handed) (suc t) (suc u) here = still_handed handed t u here

still_handed_out : (ready ready' : Readiness) (found : Option TaskNo) (u : ℕ) → IfSome found (λ t. ready'.handed ≡ slice_set ready.handed t.0 true)
    → IfNone found (ready' ≡ ready)
    → slice_get ready.handed u ≡ Some true → slice_get ready'.handed u ≡ Some true
still_handed_out ready ready' None u more same here = ap (λ (r : Readiness). slice_get r.handed u) same ∙ here
still_handed_out ready ready' (Some t) u more same here = ap (λ (z : List Bool). slice_get z u) more ∙ still_handed ready.handed t.0 u here

-- the book after a task was handed out
pub ready_book : (parts : BookParts) (ready : Readiness) (waits : List ℕ) (found : Option TaskNo) → KeepsState parts → ready.program ≡ parts.ready.program
    → ready.gone ≡ parts.ready.gone
    → IsWhole ready → IfSome found (λ t. ready.handed ≡ slice_set parts.ready.handed t.0 true) → IfNone found (ready ≡ parts.ready)
    → KeepsState (record parts { ready = ready; waits = waits })
ready_book parts ready waits found k programs gone whole more same = record {
  well = k.well;
  legal = k.legal;
  memory_is = k.memory_is;
  cells = k.cells;
  phases_are = k.phases_are;
  exchange_is = k.exchange_is;
  notices_are = k.notices_are;
  opened_are = k.opened_are;
  gone_is = gone ∙ k.gone_is;
  begun = λ u at here started. still_handed_out parts.ready ready found u more same (k.begun u at here started);
  of_program = programs ∙ k.of_program;
  whole = whole;
  engine_of = k.engine_of;
  places = record { entries = k.places.entries; statuses = k.places.statuses; notices = k.places.notices; opened = k.places.opened };
}

-- a book's statuses can be counted in 32 bits
pub status_count : (parts : BookParts) → KeepsState parts → length parts.statuses < 2 ^ 32
status_count parts k =
    let own = ap (λ (z : List Status). length z) k.legal.told in
    omega (arith, (short_now parts k).statuses, (bounds_few parts.program k.well).1)
