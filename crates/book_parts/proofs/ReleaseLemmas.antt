-- What a release owes, in terms of a book's fields: it stores and tells what its task has bound, and then puts its cells back.
use Rattle.std.proofs.Common.{◌≡◌, ℕ, ◌+◌, ◌^◌, ◌<◌, ◌≤◌, Bool, true, List, [], ◌∷◌, ◌++◌, length, take, drop, slice_get, slice_set, Contains, Some, Option}
use Rattle.std.proofs.Common.{refl, sym, ap, ◌∙◌, subst, inl, inr, arith}
use Rattle.std.specs.Prelude.{ℤ, option_map, unwrap_or, sum_by}
use Rattle.std.specs.List.{list_any}
use Rattle.std.proofs.Math.Seq.{take-append_seam}
use Rattle.std.proofs.lemmas.Bool.{or_cases, or_left, or_right, false≢true}
use Rattle.std.proofs.lemmas.List.{map-set, length-append}
use Rattle.std.proofs.lemmas.Option.{same_Some}
use Rattle.rt_base.specs.declared.data.ReqNo.{ReqNo}
use Rattle.rt_base.specs.declared.data.Phase.{Phase}
use Rattle.rt_base.specs.declared.data.Phase.TheVariants as phase
use Rattle.rt_base.specs.declared.data.Status.{Status}
use Rattle.rt_base.specs.declared.data.Entry.{Entry}
use Rattle.rt_base.specs.declared.data.Entry.TheVariants as entry
use Rattle.rt_base.specs.declared.data.TaskDef.{TaskDef}
use Rattle.rt_base.specs.declared.data.Program.{Program}
use Rattle.rt_base.specs.Operations.{task_no, named_requests, nth_at}
use Rattle.rt_base.specs.Matching.{same_request}
use Rattle.rt_base.specs.Precedes.{LetGo}
use Rattle.rt_base.specs.Exchange.{Exchange}
use Rattle.rt_base.specs.Completion.{is_complete}
use Rattle.rt_base.specs.State.{State, Task, is_released}
use Rattle.rt_base.specs.MayMove.{MayMove, MayMoveAt, AreComplete}
use Rattle.rt_base.proofs.SameRequest.{one_request, same_request-self}
use Rattle.region_deps.specs.Readiness.{Readiness, IsWhole}
use Rattle.task_local.specs.Regions.{saved}
use Rattle.task_local.specs.Waits.{handles_of, taken_at_release, told_at_release}
use Rattle.task_local.specs.Standing.{def_of}
use Rattle.task_local.specs.StandsFor.{Record, StandsFor, StandsAs}
use Rattle.task_machine.specs.Machine.{Moved, move, release_move}
use Rattle.task_machine.specs.Legal.{final}
use Rattle.tidy_runs.specs.Tidy.{called, bindings}
use Rattle.book_parts.specs.Ledger.{Ledger, record_at, named_in}
use Rattle.book_parts.specs.Kept.{BookParts, KeepsState, state_now}
use Rattle.wait_steps.specs.Received.{AreReceived}
use Rattle.task_machine.proofs.Rows.{move-row}
use Rattle.run_bounds.specs.Bounds.{tells_late}
use Rattle.run_bounds.proofs.Changes.{told_late}
use Rattle.book_parts.proofs.Moved.{IsMoved, ledger_of, opened-row}
use Rattle.book_parts.proofs.Held.{Held, held_at, handed_of, may_move, told_count, told_room}
use Rattle.book_parts.proofs.TidyBook.{tidy_now}

-- a task that has returned and may let go, as its record and the machine's state have it
pub record Releases (parts : BookParts) (held : Record) (t : ℕ) (def : TaskDef) : Type 0 where
  pub here : Held parts held t def phase.Returned
  pub may : MayMove parts.program (state_now parts) t
  pub named : here.was.named ≡ bindings 0 def.body.items

pub releases : (parts : BookParts) (held : Record) (t : ℕ) (def : TaskDef) (l : Ledger) (prog : Program) → KeepsState parts → ledger_of parts ≡ l
    → prog ≡ l.program → StandsFor prog held (final prog l.history) → MayMove prog (final prog l.history) held.task → t ≡ held.task
    → slice_get prog.tasks.items t ≡ Some def → held.phase ≡ phase.Returned → Releases parts held t def
releases parts held t def l prog kept view same stands may who is_def place =
    let h = held_at parts held t def phase.Returned l prog view same stands who is_def place in
    record {
      here = h;
      may = may_move parts held t l prog view same may who;
      named = (tidy_now parts kept t def h.was h.is_def h.is_task).named ∙ ap (λ (q : Phase). bindings 0 (called def q)) h.stands.0;
    }

-- a list of requests is complete where each of them is
all_complete : (p : Program) (e : Exchange) (reqs : List ReqNo) → ((q : ReqNo) → list_any (same_request q) reqs ≡ true → is_complete p e q ≡ true)
    → AreComplete p e reqs
all_complete p e [] each = tt
all_complete p e (r ∷ reqs) each = (
  each r (or_left (same_request r r) (list_any (same_request r) reqs) (same_request-self r)),
  all_complete p e reqs (λ q has. each q (or_right (same_request q r) (list_any (same_request q) reqs) has)),
)

one_complete : (p : Program) (e : Exchange) (reqs : List ReqNo) (q : ReqNo) → AreComplete p e reqs → list_any (same_request q) reqs ≡ true
    → is_complete p e q ≡ true
one_complete p e [] q all has = absurd (false≢true has)
one_complete p e (r ∷ reqs) q all has = elim (or_cases (same_request q r) (list_any (same_request q) reqs) has) [
  | inl same ↦ ap (is_complete p e) (one_request q r same) ∙ all.0
  | inr later ↦ one_complete p e reqs q all.1 later
]

long_by : (p : Program) (e : Exchange) (t : ℕ) (def : TaskDef) (statuses new : List Status)
    → new ≡ statuses ++ told_at_release p e t def (bindings 0 def.body.items) → length new ≡ length statuses + sum_by tells_late def.body.items
long_by p e t def statuses new told =
    ap (λ (z : List Status). length z) told ∙ length-append statuses (told_at_release p e t def (bindings 0 def.body.items))
    ∙ ap (λ (n : ℕ). length statuses + n) (told_late p e t 0 def def.body.items refl)

-- the task after its release
abbrev pub released_task : Program → Exchange → ℕ → TaskDef → Task → Task
released_task p e t def was = record was { phase = phase.Released; copy = taken_at_release p e t def was.named was.copy }

module _ {parts : BookParts} {held : Record} {t : ℕ} {def : TaskDef} (r : Releases parts held t def) where
  -- what the task has bound is complete, as it may let go
  bound_complete : AreComplete parts.program (state_now parts).exchange r.here.was.bound
  bound_complete =
      let p : Program = parts.program in
      let s : State = state_now parts in
      let was : Task = r.here.was in
      let one_def : r.may.def ≡ def = same_Some r.may.def def (sym r.may.is_def ∙ r.here.is_def) in
      let one_task : r.may.task ≡ was = same_Some r.may.task was (sym r.may.is_task ∙ r.here.is_task) in
      subst (MayMoveAt p s.tasks s.exchange t def was) r.here.stands.0
      (subst (λ (z : Task). MayMoveAt p s.tasks s.exchange t def z z.phase) one_task
      (subst (λ (d : TaskDef). MayMoveAt p s.tasks s.exchange t d r.may.task r.may.task.phase) one_def r.may.enabled))

  -- the move
  release_made : move parts.program (state_now parts) t ≡ release_move parts.program (state_now parts) t def r.here.was
  release_made = move-row parts.program (state_now parts) t def r.here.was phase.Returned r.here.is_def r.here.is_task r.here.stands.0

  release_tells : (move parts.program (state_now parts) t).state.statuses
      ≡ (state_now parts).statuses ++ told_at_release parts.program (state_now parts).exchange t def (bindings 0 def.body.items)
  release_tells =
      ap (λ (z : Moved). z.state.statuses) release_made
      ∙ ap (λ (ks : List ℕ). (state_now parts).statuses ++ told_at_release parts.program (state_now parts).exchange t def ks) r.named

  -- what the task named, as the state has it
  names_now : named_in (state_now parts).tasks held.task ≡ r.here.was.named
  names_now =
      ap (λ (i : ℕ). named_in (state_now parts).tasks i) (sym r.here.who)
      ∙ ap (λ (o : Option Task). unwrap_or (option_map (λ (z : Task). z.named) o) []) r.here.is_task

  -- the copy after what was bound is stored
  abbrev pub copy_now : List ℤ
  copy_now = taken_at_release parts.program (state_now parts).exchange t def r.here.was.named r.here.was.copy

  -- where the record is left
  pub release_left : {stored after : Record} → stored ≡ record held { copy = copy_now } → after ≡ record stored { phase = phase.Released }
      → after ≡ record_at parts.program (state_now parts) def held phase.Returned
  release_left went goes =
      let p : Program = parts.program in
      let e : Exchange = (state_now parts).exchange in
      goes ∙ ap (λ (z : Record). record z { phase = phase.Released }) went
      ∙ ap (λ (v : ℕ). record held { phase = phase.Released; copy = taken_at_release p e v def r.here.was.named r.here.was.copy }) r.here.who
      ∙ ap (λ (ks : List ℕ). record held { phase = phase.Released; copy = taken_at_release p e held.task def ks r.here.was.copy }) (sym names_now)
      ∙ ap (λ (z : List ℤ). record held {
        phase = phase.Released;
        copy = taken_at_release p e held.task def (named_in (state_now parts).tasks held.task) z;
      }) (sym r.here.stands.1)

  pub release_stands : {stored after : Record} → stored ≡ record held { copy = copy_now } → after ≡ record stored { phase = phase.Released }
      → StandsAs def after.phase after.copy (released_task parts.program (state_now parts).exchange t def r.here.was)
  release_stands went goes =
      subst (λ (z : Record). StandsAs def z.phase z.copy (released_task parts.program (state_now parts).exchange t def r.here.was))
      (sym (goes ∙ ap (λ (z : Record). record z { phase = phase.Released }) went)) (refl, refl)

module _ {parts : BookParts} {held : Record} {t : ℕ} {def : TaskDef} (kept : KeepsState parts) (r : Releases parts held t def) where
  -- all that its operations that bind name is complete
  late_complete : AreReceived parts.program (state_now parts).exchange t def
  late_complete k has =
      let p : Program = parts.program in
      let e : Exchange = (state_now parts).exchange in
      let tidy = tidy_now parts kept t def r.here.was r.here.is_def r.here.is_task in
      all_complete p e (named_requests t (handles_of (nth_at def k) (slice_get def.body.items k))) (λ q names.
      elim (tidy.covered k (subst (λ (ks : List ℕ). Contains ks k) (sym r.named) has) q names) [
        | inl complete ↦ complete
        | inr bound ↦ one_complete p e r.here.was.bound q (bound_complete r) bound
      ])

  pub late_received : (u : ℕ) → u ≡ t → AreReceived parts.engine.program parts.engine.exchange u def
  late_received u who =
      subst (λ (v : ℕ). AreReceived parts.engine.program parts.engine.exchange v def) (sym who)
      (subst (λ (q : Program). AreReceived q parts.engine.exchange t def) (sym kept.engine_of)
      (subst (λ (e : Exchange). AreReceived parts.program e t def) (sym kept.exchange_is) late_complete))

  -- there is room for its statuses, and they are counted in 32 bits
  pub late_told_room : length parts.statuses + sum_by tells_late def.body.items ≤ parts.status_places
  late_told_room =
      omega (
        arith,
        told_room parts t _ kept r.may (release_tells r),
        told_late parts.program (state_now parts).exchange t 0 def def.body.items refl,
      )

  pub late_count : (u : ℕ) (new : List Status)
      → new ≡ parts.statuses ++ told_at_release parts.engine.program parts.engine.exchange u def (bindings 0 def.body.items)
      → (length parts.statuses ≤ length new) × (length new < 2 ^ 32)
  late_count u new told =
      let long = long_by parts.engine.program parts.engine.exchange u def parts.statuses new told in
      let few = told_count parts t _ kept r.may (release_tells r) in
      let same = told_late parts.program (state_now parts).exchange t 0 def def.body.items refl in
      (omega arith, omega arith)

  -- what is told, in the state's own terms
  pub late_tells : (u : ℕ) → u ≡ t → told_at_release parts.engine.program parts.engine.exchange u def (bindings 0 def.body.items)
      ≡ told_at_release parts.program (state_now parts).exchange t def r.here.was.named
  late_tells u who =
      let all : List ℕ = bindings 0 def.body.items in
      ap (λ (q : Program). told_at_release q parts.engine.exchange u def all) kept.engine_of
      ∙ ap (λ (x : Exchange). told_at_release parts.program x u def all) kept.exchange_is
      ∙ ap (λ (v : ℕ). told_at_release parts.program (state_now parts).exchange v def all) who
      ∙ ap (told_at_release parts.program (state_now parts).exchange t def) (sym r.named)

  -- the record after what was bound is stored
  pub late_stored : {stored : Record} → stored ≡ record held {
    copy = taken_at_release parts.engine.program parts.engine.exchange held.task def (bindings 0 def.body.items) held.copy;
  } → stored ≡ record held { copy = copy_now r }
  late_stored went =
      let p : Program = parts.program in
      let e : Exchange = (state_now parts).exchange in
      let all : List ℕ = bindings 0 def.body.items in
      went ∙ ap (λ (z : List ℤ). record held { copy = z })
      (ap (λ (q : Program). taken_at_release q parts.engine.exchange held.task def all held.copy) kept.engine_of
      ∙ ap (λ (x : Exchange). taken_at_release p x held.task def all held.copy) kept.exchange_is
      ∙ ap (λ (v : ℕ). taken_at_release p e v def all held.copy) (sym r.here.who)
      ∙ ap (λ (ks : List ℕ). taken_at_release p e t def ks held.copy) (sym r.named) ∙ ap (taken_at_release p e t def r.here.was.named) r.here.stands.1)

  -- what is saved, in the state's own terms
  pub saved_now : (stored : Record) (prog : Program) (before after : List ℤ) → stored ≡ record held { copy = copy_now r }
      → prog ≡ parts.program → before ≡ parts.memory → after ≡ saved prog (def_of stored.program stored.task) stored.copy before
      → after ≡ saved parts.program def (copy_now r) (state_now parts).memory
  saved_now stored prog before after went same seen put =
      let p : Program = parts.program in
      put ∙ ap (λ (z : Program). saved z (def_of stored.program stored.task) stored.copy before) same
      ∙ ap (λ (z : Record). saved p (def_of z.program z.task) z.copy before) went
      ∙ ap (λ (d : TaskDef). saved p d (copy_now r) before) r.here.held_def ∙ ap (saved p def (copy_now r)) (seen ∙ kept.memory_is)

-- the insides after a release
abbrev pub parts_released : BookParts → ℕ → Readiness → List ℤ → List Status → List Entry → ℕ → List ℕ → List ReqNo → ℕ → ℕ → ℕ → BookParts
parts_released parts t ready after statuses entries unreleased waits found entry_places status_places opened_places = record parts {
  ready = ready;
  memory = after;
  phases = slice_set parts.phases t phase.Released;
  entries = entries;
  statuses = statuses;
  unreleased = unreleased;
  waits = waits;
  opened = found;
  entry_places = entry_places;
  status_places = status_places;
  opened_places = opened_places;
}

-- the calls of a release, by what they answer
pub record LetsGo (parts : BookParts) (t : ℕ) (def : TaskDef) (was : Task) (ready : Readiness) (after : List ℤ) (statuses : List Status) (entries : List Entry)
    (from count : ℕ) (found : List ReqNo) : Type 0 where
  pub long : length after ≡ length parts.memory
  pub put : after ≡ saved parts.program def (taken_at_release parts.program (state_now parts).exchange t def was.named was.copy) (state_now parts).memory
  pub of_program : ready.program ≡ parts.ready.program
  pub marks : ready.handed ≡ parts.ready.handed
  pub freed : ready.gone.released ≡ slice_set parts.ready.gone.released t true
  pub whole : IsWhole ready
  pub told : statuses ≡ parts.statuses ++ told_at_release parts.program (state_now parts).exchange t def was.named
  pub from_is : from ≡ length parts.statuses
  pub count_is : length statuses ≡ from + count
  pub grown : entries ≡ parts.entries ++ entry.Release (task_no t) from count ∷ []
  pub none : found ≡ []

entry_is : (s : State) (es es' : List Entry) (ss ss' more : List Status) (t from count : ℕ) → ss ≡ s.statuses → ss' ≡ ss ++ more → from ≡ length ss
    → length ss' ≡ from + count → es' ≡ es ++ entry.Release (task_no t) from count ∷ []
    → es' ≡ es ++ entry.Release (task_no t) (length s.statuses) (length more) ∷ []
entry_is s es es' ss ss' more t from count are told is_from is_count grown =
    let long = ap (λ (z : List Status). length z) told ∙ length-append ss more in
    let same : count ≡ length more = omega arith in
    grown ∙ ap (λ (i : ℕ). es ++ entry.Release (task_no t) i count ∷ []) (is_from ∙ ap (λ (z : List Status). length z) are)
    ∙ ap (λ (i : ℕ). es ++ entry.Release (task_no t) (length s.statuses) i ∷ []) same

pub release_moved : {parts : BookParts} {held : Record} {t from count : ℕ} {def : TaskDef} {ready : Readiness} {after : List ℤ}
    {statuses : List Status} {entries : List Entry} {found : List ReqNo} {entry_places status_places opened_places : ℕ} (unreleased : ℕ) (waits : List ℕ)
    → KeepsState parts → (r : Releases parts held t def) → LetsGo parts t def r.here.was ready after statuses entries from count found
    → parts.entry_places ≤ entry_places → parts.status_places ≤ status_places → parts.opened_places ≤ opened_places
    → IsMoved parts (parts_released parts t ready after statuses entries unreleased waits found entry_places status_places opened_places) t r.here.was
    (released_task parts.program (state_now parts).exchange t def r.here.was)
    (release_move parts.program (state_now parts) t def r.here.was)
release_moved {parts = parts} {held = held} {t = t} {from = from} {count = count} {def = def} {statuses = statuses} {entries = entries}
    unreleased waits kept r goes more more' more'' =
    let s : State = state_now parts in
    let now : Task = released_task parts.program s.exchange t def r.here.was in
    record {
      may = r.may;
      moved = release_made r;
      is_task = r.here.is_task;
      tasks = refl;
      program = refl;
      workers = refl;
      handed = handed_of parts held t def phase.Returned phase.Returned kept r.here r.here.stands.0 (λ e. absurd (cc e));
      marks = goes.marks;
      of_program = goes.of_program;
      gone = ap (λ (z : List Bool). record { released = z })
          (goes.freed ∙ ap (λ (g : LetGo). slice_set g.released t true) kept.gone_is
          ∙ sym (map-set (λ (z : Task). is_released z.phase) s.tasks t now));
      whole = goes.whole;
      engine = refl;
      exchange = kept.exchange_is;
      phases = refl;
      memory = goes.put;
      cells = goes.long;
      notices = kept.notices_are;
      entries = entry_is s parts.entries entries parts.statuses statuses _ t from count kept.legal.told goes.told goes.from_is goes.count_is goes.grown;
      statuses = goes.told ∙ ap (λ (z : List Status). z ++ told_at_release parts.program s.exchange t def r.here.was.named) kept.legal.told;
      opened = goes.none ∙ sym (opened-row parts.program s t def r.here.was phase.Returned r.here.is_def r.here.is_task r.here.stands.0);
      places = record { entries = more; statuses = more'; notices = omega arith; opened = more'' };
    }

-- a list that was lent whole comes back whole
pub whole_back : (new old : List ℤ) (len : ℕ) → length new ≡ len → length old ≡ len → take len (new ++ drop (length new) old) ≡ new
whole_back new old len is_new is_old =
    ap (λ (n : ℕ). take n (new ++ drop (length new) old)) (sym is_new) ∙ take-append_seam new (drop (length new) old)
