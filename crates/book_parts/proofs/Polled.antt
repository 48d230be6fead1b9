-- A poll: what becomes of the state, the history and its legality, and what a book keeps.
use Rattle.std.proofs.Common.{◌≡◌, ℕ, ◌+◌, ◌-◌, ◌<◌, ◌≤◌, ◌↔◌, ◌==◌, Bool, true, false, not, List, [], ◌∷◌, ◌++◌, length, IsTrue}
use Rattle.std.proofs.Common.{refl, sym, ap, ◌∙◌, subst, inr, arith}
use Rattle.std.proofs.lemmas.Bool.Decides.{nat_tests}
use Rattle.rt_base.specs.declared.data.ReqNo.{ReqNo}
use Rattle.rt_base.specs.declared.data.Status.{Status}
use Rattle.rt_base.specs.declared.data.Entry.{Entry}
use Rattle.rt_base.specs.declared.data.Entry.TheVariants as entry
use Rattle.rt_base.specs.declared.data.Program.{Program}
use Rattle.rt_base.specs.State.{State, let_go, opening}
use Rattle.task_machine.specs.Machine.{Moved, poll, polled, step, MayStep}
use Rattle.task_machine.specs.Legal.{IsLegal, callers, entries_after, final, phases_of, state_after}
use Rattle.task_machine.specs.Owed.{last_opened}
use Rattle.task_machine.proofs.Fronts.{past}
use Rattle.task_machine.proofs.Opened.{last_opened-poll}
use Rattle.task_machine.proofs.Runs.{IsDefined-push, callers-push, entries_after-push, state_after-push}
use Rattle.book_parts.specs.Ledger.{Ledger, TakesNotice, bound_in}
use Rattle.run_bounds.proofs.Rooms.{bounds_few}
use Rattle.book_parts.specs.Kept.{BookParts, IsBook, KeepsState, state_now}
use Rattle.book_counts.specs.Counted.{IsBinding, IsCounted}
use Rattle.book_parts.proofs.Moved.{ledger_of, short_now}

-- a poller's step is a poll
back : (n w : ℕ) → (n + w) - n ≡ w
back n w = omega arith

pub step-poller : (p : Program) (s : State) (w : ℕ) → step p s (length p.tasks.items + w) ≡ poll s w
unfolding step
step-poller p s w = rw (past (length p.tasks.items + w) (length p.tasks.items) (omega arith)) (ap (poll s) (back (length p.tasks.items) w))

-- the state without its first notice
abbrev pub without_first : State → List ReqNo → State
without_first s rest = record s { notices = rest }

-- a poll takes the first notice
pub poll-first : (s : State) (w : ℕ) (req : ReqNo) (rest : List ReqNo) → s.notices ≡ req ∷ rest
    → poll s w ≡ record { state = without_first s rest; entry = entry.Poll w req }
unfolding poll
poll-first s w req rest first = ap (polled s w) first

step-first : (p : Program) (s : State) (w : ℕ) (req : ReqNo) (rest : List ReqNo) → s.notices ≡ req ∷ rest
    → step p s (length p.tasks.items + w) ≡ record { state = without_first s rest; entry = entry.Poll w req }
step-first p s w req rest first = step-poller p s w ∙ poll-first s w req rest first

-- the state of a history with one entry more, by a poll
pub final-poll : (p : Program) (es : List Entry) (w : ℕ) (req : ReqNo) (rest : List ReqNo) → (final p es).notices ≡ req ∷ rest
    → final p (es ++ entry.Poll w req ∷ []) ≡ without_first (final p es) rest
final-poll p es w req rest first =
    ap (state_after p (opening p)) (callers-push p es (entry.Poll w req))
    ∙ state_after-push p (opening p) (callers p es) (length p.tasks.items + w)
    ∙ ap (λ (m : Moved). m.state) (step-first p (final p es) w req rest first)

may_poll : (p : Program) (workers : ℕ) (s : State) (w : ℕ) (req : ReqNo) (rest : List ReqNo) → w < workers → s.notices ≡ req ∷ rest
    → MayStep p workers s (length p.tasks.items + w)
may_poll p workers s w req rest exists first = inr (record {
  poller = omega arith;
  exists = omega arith;
  notice = subst (λ (z : List ReqNo). 0 < length z) (sym first) (omega arith);
})

-- the history with one entry more is legal, by a poll of one of the workers
pub legal-poll : (p : Program) (workers : ℕ) (es : List Entry) (told : List Status) (w : ℕ) (req : ReqNo) (rest : List ReqNo)
    → IsLegal p workers es told → w < workers → (final p es).notices ≡ req ∷ rest → IsLegal p workers (es ++ entry.Poll w req ∷ []) told
legal-poll p workers es told w req rest legal exists first =
    let e : Entry = entry.Poll w req in
    let who : ℕ = length p.tasks.items + w in
    record {
      runs = rw (callers-push p es e)
          (IsDefined-push p workers (opening p) (callers p es) who legal.runs (may_poll p workers (final p es) w req rest exists first));
      replies =
          ap (λ (xs : List Entry). xs ++ e ∷ []) legal.replies
          ∙ ap (λ (m : Moved). entries_after p (opening p) (callers p es) ++ m.entry ∷ []) (sym (step-first p (final p es) w req rest first))
          ∙ sym (entries_after-push p (opening p) (callers p es) who)
          ∙ ap (entries_after p (opening p)) (sym (callers-push p es e));
      told = legal.told ∙ ap (λ (s : State). s.statuses) (sym (final-poll p es w req rest first));
    }

-- the insides after a poll
abbrev pub parts_polled : BookParts → List ReqNo → List Entry → ℕ → ℕ → BookParts
parts_polled parts rest entries places places' = record parts {
  notices = rest;
  entries = entries;
  entry_places = places;
  notice_places = places';
}

-- what is known of a poll: who polls, which notice it takes, and that there is room for no less
pub record Polls (parts : BookParts) (w : ℕ) (req : ReqNo) (rest : List ReqNo) (entries : List Entry) (places places' : ℕ) : Type 0 where
  pub kept : KeepsState parts
  pub exists : w < parts.workers
  pub first : parts.notices ≡ req ∷ rest
  pub grown : entries ≡ parts.entries ++ entry.Poll w req ∷ []
  pub entry_places : parts.entry_places ≤ places
  pub notice_places : parts.notice_places ≤ places'

-- there is room for its entry
pub poll_room : (parts : BookParts) (req : ReqNo) (rest : List ReqNo) → KeepsState parts → parts.notices ≡ req ∷ rest
    → length parts.entries < parts.entry_places
poll_room parts req rest k first =
    let notices = ap (λ (z : List ReqNo). length z) (sym k.notices_are ∙ first) in
    omega (arith, (short_now parts k).entries, k.places.entries)

module _ {parts : BookParts} {w : ℕ} {req : ReqNo} {rest : List ReqNo} {entries : List Entry} {places places' : ℕ}
    (d : Polls parts w req rest entries places places') where
  first_notice : (state_now parts).notices ≡ req ∷ rest
  first_notice = sym d.kept.notices_are ∙ d.first

  polled_state : final parts.program entries ≡ without_first (state_now parts) rest
  polled_state = ap (final parts.program) d.grown ∙ final-poll parts.program parts.entries w req rest first_notice

  -- the insides after a poll are the state after it
  kept_polled : KeepsState (parts_polled parts rest entries places places')
  kept_polled =
      let p : Program = parts.program in
      let k = d.kept in
      let end : final p entries ≡ without_first (state_now parts) rest = polled_state in
      record {
        well = k.well;
        legal = subst (λ (z : List Entry). IsLegal p parts.workers z parts.statuses) (sym d.grown)
            (legal-poll p parts.workers parts.entries parts.statuses w req rest k.legal d.exists first_notice);
        cells = k.cells;
        memory_is = k.memory_is ∙ ap (λ (z : State). z.memory) (sym end);
        phases_are = k.phases_are ∙ ap (λ (z : State). phases_of z.tasks) (sym end);
        exchange_is = k.exchange_is ∙ ap (λ (z : State). z.exchange) (sym end);
        notices_are = ap (λ (z : State). z.notices) (sym end);
        opened_are = k.opened_are ∙ sym (last_opened-poll p parts.entries w req) ∙ ap (last_opened p) (sym d.grown);
        gone_is = k.gone_is ∙ ap (λ (z : State). let_go z.tasks) (sym end);
        begun = k.begun;
        of_program = k.of_program;
        whole = k.whole;
        engine_of = k.engine_of;
        places = record {
          entries = omega (arith, k.places.entries, d.entry_places);
          statuses = k.places.statuses;
          notices = omega (arith, k.places.notices, d.notice_places);
          opened = k.places.opened;
        };
      }

  -- a poll changes nothing that a book counts
  pub book_polled : IsBook parts → IsBook (parts_polled parts rest entries places places')
  book_polled b = record {
    kept = kept_polled;
    counted = subst (λ (z : State). IsCounted parts.program (let_go z.tasks) parts.ready.handed parts.phases (bound_in z) parts.engine.exchange
        parts.unreleased parts.waits) (sym polled_state) b.counted;
    numbered = b.numbered;
    binding = subst (λ (z : State). IsBinding parts.program (bound_in z) parts.engine.exchange parts.marks parts.bound parts.incomplete)
        (sym polled_state) b.binding;
  }

  -- what a caller sees of a poll
  pub takes_notice : (l : Ledger) → ledger_of parts ≡ l → TakesNotice l (ledger_of (parts_polled parts rest entries places places')) w req
  takes_notice l view =
      let after = parts_polled parts rest entries places places' in
      subst (λ (z : Ledger). TakesNotice z (ledger_of after) w req) view (record {
        entry = d.grown;
        first = first_notice ∙ ap (λ (s : State). req ∷ s.notices) (sym polled_state);
        state = polled_state ∙ ap (λ (m : Moved). m.state) (sym (poll-first (state_now parts) w req rest first_notice));
        program = refl;
        workers = refl;
        statuses = refl;
        handed = refl;
        short = omega (arith, (short_now after kept_polled).entries, (bounds_few parts.program d.kept.well).0);
      })

-- whether a notice stands
is_false : (result : Bool) → not result ≡ true → result ≡ false
is_false true not_so = absurd (cc)
is_false false not_so = refl

some_there : (n : ℕ) → (n == 0) ≡ false → 0 < n
some_there n = grind (arith, nat_tests)

not_zero : (n : ℕ) → 0 < n → (n == 0) ≡ false
not_zero n = grind (arith, nat_tests)

none_of : (n : ℕ) (result : Bool) → result ≡ (n == 0) → IsTrue (not result) ↔ (0 < n)
none_of n result is =
    (λ some. some_there n (sym is ∙ is_false result some), λ some. ap not (is ∙ not_zero n some))

pub notice_answer : (parts : BookParts) (n : ℕ) (result : Bool) (l : Ledger) → KeepsState parts → ledger_of parts ≡ l → n ≡ length parts.notices
    → result ≡ (n == 0) → IsTrue (not result) ↔ (0 < length (final l.program l.history).notices)
notice_answer parts n result l k view long is =
    subst (λ (z : Ledger). IsTrue (not result) ↔ (0 < length (final z.program z.history).notices)) view
    (subst (λ (m : ℕ). IsTrue (not result) ↔ (0 < m)) (long ∙ ap (λ (z : List ReqNo). length z) k.notices_are) (none_of n result is))
