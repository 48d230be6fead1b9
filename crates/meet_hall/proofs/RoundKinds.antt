-- The kinds of step of the last party, and of the holder that takes notes.
use Rattle.std.proofs.Common.{◌≡◌, ℕ, suc, zero, ◌+◌, ◌*◌, ◌/◌, ◌%◌, ◌^◌, ◌-◌, ◌<◌, ◌≤◌, ◌≢◌, ◌⊎◌, inl, inr, ⊎_elim, ◌==◌, Bool, true, false, List}
use Rattle.std.proofs.Common.{[], ◌∷◌, ◌++◌, length, set, slice_index, sym, refl, ap, ◌∙◌, subst, arith, eq-eqb, ne_eqb, length-set}
use Rattle.std.specs.Prelude.{Option, Some, None}
use mathlib.Core.Option.{some, none}
use mathlib.Core.Logic.{dite}
use native.Mathlib.Decide.{ℕ_discrete, dec_le}
use lib.ListN.{get_elem?}
use Rattle.atomic_table.specs.Table.{State, Me, Act, keeps, takes, gives, Valid, stepped, carried_after, Allows, Splits, rest}
use Rattle.atomic_table.specs.Seated.{TableId}
use Rattle.atomic_table.proofs.Lists.{set_else, at_last}
use Rattle.meetings.specs.declared.moves.Move.{Move}
use Rattle.meetings.specs.declared.moves.Move.TheVariants.{Issue, Park, Arrive}
use Rattle.meetings.specs.Meetings.{one, times, count_of}
use Rattle.meetings.specs.Moves.{after, Legal}
use Rattle.meetings.proofs.Counts.{one_same, one_else, times-append}
use Rattle.meet_hall.specs.declared.slot.Slot.{Slot}
use Rattle.meet_hall.specs.declared.slot.Slot.TheVariants.{Empty, Record, Note}
use Rattle.meet_hall.specs.declared.view.Desk.{Desk}
use Rattle.meet_hall.specs.declared.view.Chit.{Chit}
use Rattle.meet_hall.specs.declared.view.Trace.{Trace}
use Rattle.meet_hall.specs.declared.view.View.{View}
use Rattle.meet_hall.specs.declared.view.View.TheVariants.{Builds, Holds, Issues, Takes, Parks, Lasts, Ends, Comes, Puts, Gone}
use Rattle.meet_hall.specs.Places.{ListsAre, without}
use Rattle.meet_hall.specs.Parties.{Party, idle, kept, waits, puts, came, shut, out, due, live, stale, gone, ticket_come, dues, owner}
use Rattle.meet_hall.specs.Seatings.{Seating, issued_at, count_at, word_at, changed, NoneLeft, HeadMay, Tallies, Orderly, Logged}
use Rattle.meet_hall.specs.Views.{first_desk, issuing_desk, next_desk, noted_desk, chit_from, desk_from, slot_of, holder_trace, ticket_trace}
use Rattle.meet_hall.specs.Rule.{Stands, IsRecord, IsNote, lists_of, Sits, Bears, IsFresh, HasCome, IsLaidOut, IsDesk, IsChit, Agrees, RecordStands}
use Rattle.meet_hall.specs.Rule.{NoteStands, KeptBy, Kept}
use Rattle.meet_hall.specs.Steps.{Finds, Parked, parked, Brought, Came, arrived, TakenRecord, TakenOut, Returned, Rearmed}
use Rattle.meet_hall.proofs.Changes.{changed-here, changed-else, changed_all, set_at, there, Words, words_set, words_stay, count_in, round_in}
use Rattle.meet_hall.proofs.PlaceLemmas.{times-without}
use Rattle.meet_hall.proofs.PartyLemmas.{idle_of, kept_of, ended, dues_same, dues_changed, due_dues}
use Rattle.meet_hall.proofs.Keeping.{stands_to, SameHead, SameTicket, Spares, LiesAt, Apart, views_set, views_grown, kept_core}
use Rattle.meet_hall.proofs.SeatingLemmas.{headed, ticketed, moving, count_small, number_more, number_less, finds, tallies_to, orderly_headed}
use Rattle.meet_hall.proofs.SeatingLemmas.{orderly_ticketed, orderly_moving, head_stays, logged_headed, logged_ticketed, logged_issue, logged_park}
use Rattle.meet_hall.proofs.SeatingLemmas.{logged_arrive, NotOthers, mine_waits, mine_puts, mine_shut, mine_out, none_idle, none_kept, none_came}
use Rattle.meet_hall.proofs.SeatingLemmas.{spares_headed, spares_ticketed, spares_moving, spares_trans}
use Rattle.meet_hall.proofs.HolderKinds.{notes_but_record}

-- the party of a ticket when the next round begins: one that has come left its note
aged : Party → Party
aged idle = idle
aged kept = kept
aged (waits i) = waits i
aged (puts i) = puts i
aged came = kept
aged (shut i) = shut i
aged (out i) = out i

due_aged : (t : Party) → due (aged t) ≡ due t
unfolding aged
due_aged idle = refl
due_aged kept = refl
due_aged (waits i) = refl
due_aged (puts i) = refl
due_aged came = refl
due_aged (shut i) = refl
due_aged (out i) = refl

come_aged : (t : Party) → ticket_come (aged t) ≡ 0
unfolding aged
come_aged idle = refl
come_aged kept = refl
come_aged (waits i) = refl
come_aged (puts i) = refl
come_aged came = refl
come_aged (shut i) = refl
come_aged (out i) = refl

-- what is in the slot stays there
stands_aged : {S : Type 0} (nothing : S) (Has : S → Type 0) (t : Party) (o : mathlib.Core.Option.Option (mathlib.Core.Option.Option S))
    → Stands nothing Has t o → Stands nothing Has (aged t) o
unfolding aged
stands_aged nothing Has idle o h = h
stands_aged nothing Has kept o h = h
stands_aged nothing Has (waits i) o h = h
stands_aged nothing Has (puts i) o h = h
stands_aged nothing Has came o h = h
stands_aged nothing Has (shut i) o h = h
stands_aged nothing Has (out i) o h = h

-- the lists of the next round have a ticket that is over as they should
tallies_aged : (x y : Seating) (p : ℕ) (t : Party) → issued_at y ≡ [] → y.left ≡ issued_at x → y.taking ≡ [] → (t ≡ idle) ⊎ (t ≡ came)
    → Tallies x p t → Tallies y p (aged t)
unfolding aged
tallies_aged x y p t i l g over h = ⊎_elim
    (λ e. subst (λ u. Tallies x p u → Tallies y p (aged u)) (sym e)
    (λ q. record { issued = ap (λ m. times p m) i; left = ap (λ m. times p m) l ∙ q.issued; taking = ap (λ m. times p m) g }) h)
    (λ e. subst (λ u. Tallies x p u → Tallies y p (aged u)) (sym e)
    (λ q. record { issued = ap (λ m. times p m) i; left = ap (λ m. times p m) l ∙ q.issued; taking = ap (λ m. times p m) g }) h)
    over

module _ (n : ℕ) (base places : ℕ → ℕ) {R N : Type 0} (fits_r : R → TableId → ℕ → List ℕ → Type 0) (fits_n : N → TableId → ℕ → List ℕ → Type 0)
    (apart : Apart n base places) (narrow : (m : ℕ) → m < n → places m + 1 < 2 ^ 32) where
  abbrev Rule : State (Slot R N) View → Type 0
  Rule = Kept fits_r fits_n n base places

  -- kind 7: the last takes the record
  pub takes_record : (slots id : ℕ) (d : Desk) → Allows Rule slots id (Lasts d, []) d.meeting (λ k. k) (λ _ w. TakenRecord fits_r (Lasts d, []) w)
  takes_record slots id d s before len at small =
      let ms = before.0 in let by = before.1 in
      let m = d.meeting in
      let x = ms m in
      let told = by.agree id (Lasts d) at in
      let desk = told.0 in let sits = told.1 in
      let start : d.base ≡ base m = desk.start in
      let there : Stands Empty (IsRecord fits_r x.hall m (issued_at x) (places m)) (shut id) (get_elem? s.homes (base m)) =
      stands_to Empty (IsRecord fits_r x.hall m (issued_at x) (places m)) x.head (shut id) _ _ (sym sits.head) refl (by.records m desk.below) in
      let guest = there.2.0 in
      let value = Record guest (lists_of d.issued d.places) in
      let lists : there.2.1 ≡ lists_of d.issued d.places =
      there.2.4 ∙ ap (λ q. lists_of q (places m)) sits.issued ∙ ap (λ k. lists_of d.issued k) (sym desk.size) in
      let slot : get_elem? s.homes d.base ≡ some (some value) =
      ap (λ i. get_elem? s.homes i) start ∙ there.1 ∙ ap (λ z. some (some z)) there.2.2 ∙ ap (λ l. some (some (Record guest l))) lists in
      let fits : fits_r guest d.hall d.meeting d.issued =
      subst (λ q. fits_r guest d.hall m q) sits.issued (subst (λ h. fits_r guest h m (issued_at x)) sits.hall there.2.3) in
      let y : Seating = headed x (out id) in
      let homes = set s.homes d.base none in
      let head : due (out id) ≡ due x.head = sym (ap due sits.head) in
      let logged = logged_headed (places m) x (out id) head (by.logged m desk.below) in
      let word : slice_index s.words m ≡ word_at (places m) y =
      by.words m desk.below ∙ ap (λ c. x.round % 2 ^ 32 * 2 ^ 32 + c) (sym (by.logged m desk.below).tally ∙ logged.tally) in
      let may : HeadMay (places m) x (shut id) = subst (HeadMay (places m) x) sits.head (by.orderly m desk.below).head in
      let zero_now : count_at (places m) y ≡ 0 = (sym logged.tally ∙ (by.logged m desk.below).tally) ∙ may.1 in
      let own : Agrees n base places (changed ms m y) id (Ends d) = (
        desk,
        subst (λ (z : Seating). Sits z (out id) [] d) (sym (changed-here ms m y))
            (record { hall = sits.hall; round = sits.round; issued = sits.issued; left = sits.left; taking = sits.taking; head = refl }),
      ) in (
        Ends d,
        takes d.base value,
        slot,
        (
          changed ms m y,
          kept_core n base places fits_r fits_n apart ms s m y _ homes _ d.base by desk.below
              (words_set m _ _ s.words (subst (λ k. m < k) (sym by.width) desk.below) word) (record { from = omega arith; to = omega arith })
              (λ i ne. set_else s.homes d.base i none ne)
              (ap (λ i. get_elem? homes i) (sym start) ∙ set_at s.homes d.base (some value) none slot)
              (notes_but_record n base places fits_r fits_n apart narrow m x y s.homes homes refl (λ p h. refl)
              (λ i ne. set_else s.homes d.base i none (λ e. ne (e ∙ start))) (λ p h. by.notes m p desk.below h))
              (orderly_headed (places m) x (out id) (may.0, zero_now) (by.orderly m desk.below))
              logged
              (views_set n base places ms m y id _ s.views (spares_headed id (places m) x (out id) (mine_shut id x.head sits.head)) own by.agree),
        ),
        (guest, refl, fits),
      )

  -- kind 8: the last begins the next round
  pub rearms : (slots id : ℕ) (d : Desk) (new : ℕ) → new ≡ (d.round + 1) % 2 ^ 32 * 2 ^ 32 + 1
      → Allows Rule slots id (Ends d, (d.base, Empty) ∷ []) d.meeting (λ _. new) (λ _ w. Rearmed (Ends d, (d.base, Empty) ∷ []) w)
  rearms slots id d new is s before len at small =
      let ms = before.0 in let by = before.1 in
      let m = d.meeting in
      let x = ms m in
      let told = by.agree id (Ends d) at in
      let desk = told.0 in let sits = told.1 in
      let start : d.base ≡ base m = desk.start in
      let o = by.orderly m desk.below in
      let may : HeadMay (places m) x (out id) = subst (HeadMay (places m) x) sits.head o.head in
      let over : (p : ℕ) → p < places m → (x.ticket p ≡ idle) ⊎ (x.ticket p ≡ came) = (λ p h.
      let t = o.tallies p h in
      let least = due_dues x.ticket p (places m) h in
      let none_due = may.1 in
      ended (x.ticket p) (omega arith) (sym t.left ∙ ap (λ l. times p l) may.0.0) (sym t.taking ∙ ap (λ l. times p l) may.0.1)) in
      let y : Seating = record {
        hall = x.hall;
        round = x.round + 1;
        left = issued_at x;
        taking = [];
        head = waits id;
        ticket =
            λ p. aged (x.ticket p);
        log = [];
      } in
      let homes = set s.homes d.base (some Empty) in
      let tickets : dues y.ticket (places m) ≡ dues x.ticket (places m) = dues_same y.ticket x.ticket (places m) (λ p. due_aged (x.ticket p)) in
      let none_due = may.1 in
      let count : count_at (places m) y ≡ 1 = omega arith in
      let word : new ≡ word_at (places m) y =
      is ∙ ap (λ r. (r + 1) % 2 ^ 32 * 2 ^ 32 + 1) (sym sits.round) ∙ ap (λ c. (x.round + 1) % 2 ^ 32 * 2 ^ 32 + c) (sym count) in
      let out_there : get_elem? s.homes d.base ≡ some none =
      ap (λ i. get_elem? s.homes i) start
      ∙ stands_to Empty (IsRecord fits_r x.hall m (issued_at x) (places m)) x.head (out id) _ _ (sym sits.head) refl (by.records m desk.below) in
      let spares : Spares id (places m) x y = record {
        head = λ i ne own. absurd (mine_out id x.head sits.head i ne own);
        ticket = λ i p ne h own. absurd (⊎_elim (λ e. none_idle id (x.ticket p) e i ne own) (λ e. none_came id (x.ticket p) e i ne own) (over p h));
        past = λ t h. inl (⊎_elim (λ past. let q : t.round < x.round = past in omega arith) (λ on. let q : x.round ≡ t.round = on.0 in omega arith) h);
      } in
      let own : Agrees n base places (changed ms m y) id (Holds (next_desk d)) = (
        desk,
        subst (λ (z : Seating). Sits z (waits id) [] (next_desk d)) (sym (changed-here ms m y))
            (record { hall = sits.hall; round = ap (λ r. r + 1) sits.round; issued = refl; left = sits.issued; taking = refl; head = refl }),
      ) in (
        Holds (next_desk d),
        gives,
        tt,
        (
          changed ms m y,
          kept_core n base places fits_r fits_n apart ms s m y _ homes _ d.base by desk.below
              (words_set m _ _ s.words (subst (λ k. m < k) (sym by.width) desk.below) word) (record { from = omega arith; to = omega arith })
              (λ i ne. set_else s.homes d.base i (some Empty) ne)
              (ap (λ i. get_elem? homes i) (sym start) ∙ set_at s.homes d.base none (some Empty) out_there)
              (λ p h. stands_aged Empty (IsNote fits_n x.hall m p) (x.ticket p) _
              (stands_to Empty (IsNote fits_n x.hall m p) (x.ticket p) (x.ticket p) _ _ refl
              (set_else s.homes d.base (base m + suc p) (some Empty) (λ e. omega arith)) (by.notes m p desk.below h)))
              (record {
                head = tt;
                tallies = λ p h. tallies_aged x y p (x.ticket p) refl refl refl (over p h) (o.tallies p h);
                within = λ p h. (refl, (o.within p h).0);
              })
              (record { legal = tt; tally = sym count; holder = refl; tickets = λ p h. sym (come_aged (x.ticket p)) })
              (views_set n base places ms m y id _ s.views spares own by.agree),
        ),
        refl,
      )

  -- kind 7: a holder takes the note of a place out
  pub takes_out : (slots id : ℕ) (d : Desk) (p : ℕ) → 0 < times p d.left
      → Allows Rule slots id (Holds d, []) d.meeting (λ k. k) (λ _ w. TakenOut fits_n p (Holds d, []) w)
  takes_out slots id d p there s before len at small =
      let ms = before.0 in let by = before.1 in
      let m = d.meeting in
      let x = ms m in
      let told = by.agree id (Holds d) at in
      let desk = told.0 in let sits = told.1 in
      let start : d.base ≡ base m = desk.start in
      let o = by.orderly m desk.below in
      let listed : 0 < times p x.left = subst (λ l. 0 < times p l) (sym sits.left) there in
      let within : p < places m = dite (dec_le (places m) p) (λ le. let none_there = (o.within p le).1 in absurd (omega arith)) (λ ne. omega arith) in
      let tally = o.tallies p within in
      let old : x.ticket p ≡ kept = kept_of (x.ticket p) (subst (λ k. 0 < k) tally.left listed) in
      let k = d.base + suc p in
      let note_there : Stands Empty (IsNote fits_n x.hall m p) kept (get_elem? s.homes (base m + suc p)) =
      stands_to Empty (IsNote fits_n x.hall m p) (x.ticket p) kept _ _ (sym old) refl (by.notes m p desk.below within) in
      let note = note_there.2.0 in
      let slot : get_elem? s.homes k ≡ some (some (Note note)) =
      ap (λ b. get_elem? s.homes (b + suc p)) start ∙ note_there.1 ∙ ap (λ z. some (some z)) note_there.2.1 in
      let fits : fits_n note d.hall d.meeting (p ∷ []) = subst (λ h. fits_n note h m (p ∷ [])) sits.hall note_there.2.2 in
      let y : Seating = record x { left = without p x.left; taking = p ∷ []; ticket = changed x.ticket p (out id) } in
      let homes = set s.homes k none in
      let num : (f : Party → ℕ) → f kept ≡ f (out id) → f (out id) ≡ f (x.ticket p) = (λ f e. sym e ∙ ap f (sym old)) in
      let logged = logged_ticketed (places m) x p (out id) within (num due refl) (num ticket_come refl) (by.logged m desk.below) in
      let word : slice_index s.words m ≡ word_at (places m) y =
      by.words m desk.below ∙ ap (λ c. x.round % 2 ^ 32 * 2 ^ 32 + c) (sym (by.logged m desk.below).tally ∙ logged.tally) in
      let spares : Spares id (places m) x y = record {
        head = λ i ne own. absurd (mine_waits id x.head sits.head i ne own);
        ticket = λ i q ne h own. dite (ℕ_discrete q p)
            (λ e. absurd (none_kept id (x.ticket p) old i ne (ap (λ r. owner (x.ticket r)) (sym e) ∙ own)))
            (λ nq. record { hall = refl; round = refl; ticket = changed-else x.ticket p q (out id) nq });
        past = λ t h. h;
      } in
      let own : Agrees n base places (changed ms m y) id (Takes (noted_desk d p) p) = (
        desk,
        subst (λ (z : Seating). Sits z (waits id) (p ∷ []) (noted_desk d p)) (sym (changed-here ms m y))
            (record { hall = sits.hall; round = sits.round; issued = sits.issued; left = ap (λ l. without p l) sits.left; taking = refl; head = sits.head }),
        subst (λ q. p < q) (sym desk.size) within,
        subst (λ (z : Seating). z.ticket p ≡ out id) (sym (changed-here ms m y)) (changed-here x.ticket p (out id)),
      ) in (
        Takes (noted_desk d p) p,
        takes k (Note note),
        slot,
        (
          changed ms m y,
          kept_core n base places fits_r fits_n apart ms s m y _ homes _ k by desk.below
              (words_set m _ _ s.words (subst (λ q. m < q) (sym by.width) desk.below) word) (record { from = omega arith; to = omega arith })
              (λ i ne. set_else s.homes k i none ne)
              (stands_to Empty (IsRecord fits_r x.hall m (issued_at x) (places m)) x.head x.head _ _ refl
              (set_else s.homes k (base m) none (λ e. omega arith)) (by.records m desk.below))
              (changed_all (λ q t. q < places m → Stands Empty (IsNote fits_n x.hall m q) t (get_elem? homes (base m + suc q))) x.ticket p (out id)
              (λ h. ap (λ b. get_elem? homes (b + suc p)) (sym start) ∙ set_at s.homes k (some (Note note)) none slot)
              (λ q ne h. stands_to Empty (IsNote fits_n x.hall m q) (x.ticket q) (x.ticket q) _ _ refl
              (set_else s.homes k (base m + suc q) none (λ e. ne (omega arith))) (by.notes m q desk.below h)))
              (record {
                head = subst (HeadMay (places m) y) (sym sits.head) tt;
                tallies = changed_all (λ q t. q < places m → Tallies y q t) x.ticket p (out id)
                    (λ h.
                    let a = times-without p p x.left listed in
                    let b : one (p == p) ≡ 1 = one_same p p refl in
                    let l : times p x.left ≡ 1 = tally.left ∙ ap stale old in
                    record { issued = tally.issued ∙ ap live old; left = omega arith; taking = omega arith })
                    (λ q ne h.
                    let a = times-without p q x.left listed in
                    let b : one (p == q) ≡ 0 = one_else p q (λ e. ne (sym e)) in
                    let t = o.tallies q h in
                    let l = t.left in
                    let g = t.taking in
                    let e : times q x.taking ≡ 0 = ap (λ r. times q r) sits.taking in
                    record { issued = t.issued; left = omega arith; taking = omega arith });
                within = λ q h.
                    let a = times-without p q x.left listed in
                    let w = o.within q h in
                    let l = w.1 in
                    (w.0, omega arith);
              })
              (record { legal = logged.legal; tally = logged.tally; holder = logged.holder; tickets = logged.tickets })
              (views_set n base places ms m y id _ s.views spares own by.agree),
        ),
        (note, refl, fits),
      )

  -- kind 7: a holder gives the slot of a note back, empty
  pub returns : (slots id : ℕ) (d : Desk) (p : ℕ)
      → Allows Rule slots id (Takes d p, (d.base + suc p, Empty) ∷ []) d.meeting (λ k. k) (λ _ w. Returned (Takes d p, (d.base + suc p, Empty) ∷ []) w)
  returns slots id d p s before len at small =
      let ms = before.0 in let by = before.1 in
      let m = d.meeting in
      let x = ms m in
      let told = by.agree id (Takes d p) at in
      let desk = told.0 in let sits = told.1 in
      let start : d.base ≡ base m = desk.start in
      let within : p < places m = subst (λ k. p < k) desk.size told.2 in
      let o = by.orderly m desk.below in
      let k = d.base + suc p in
      let out_there : get_elem? s.homes k ≡ some none =
      ap (λ b. get_elem? s.homes (b + suc p)) start
      ∙ stands_to Empty (IsNote fits_n x.hall m p) (x.ticket p) (out id) _ _ (sym told.3) refl (by.notes m p desk.below within) in
      let y : Seating = record x { taking = []; ticket = changed x.ticket p idle } in
      let homes = set s.homes k (some Empty) in
      let num : (f : Party → ℕ) → f (out id) ≡ f idle → f idle ≡ f (x.ticket p) = (λ f e. sym e ∙ ap f (sym told.3)) in
      let logged = logged_ticketed (places m) x p idle within (num due refl) (num ticket_come refl) (by.logged m desk.below) in
      let word : slice_index s.words m ≡ word_at (places m) y =
      by.words m desk.below ∙ ap (λ c. x.round % 2 ^ 32 * 2 ^ 32 + c) (sym (by.logged m desk.below).tally ∙ logged.tally) in
      let spares : Spares id (places m) x y = record {
        head = λ i ne own. absurd (mine_waits id x.head sits.head i ne own);
        ticket = λ i q ne h own. dite (ℕ_discrete q p)
            (λ e. absurd (mine_out id (x.ticket p) told.3 i ne (ap (λ r. owner (x.ticket r)) (sym e) ∙ own)))
            (λ nq. record { hall = refl; round = refl; ticket = changed-else x.ticket p q idle nq });
        past = λ t h. h;
      } in
      let own : Agrees n base places (changed ms m y) id (Holds d) = (
        desk,
        subst (λ (z : Seating). Sits z (waits id) [] d) (sym (changed-here ms m y))
            (record { hall = sits.hall; round = sits.round; issued = sits.issued; left = sits.left; taking = refl; head = sits.head }),
      ) in (
        Holds d,
        gives,
        tt,
        (
          changed ms m y,
          kept_core n base places fits_r fits_n apart ms s m y _ homes _ k by desk.below
              (words_set m _ _ s.words (subst (λ q. m < q) (sym by.width) desk.below) word) (record { from = omega arith; to = omega arith })
              (λ i ne. set_else s.homes k i (some Empty) ne)
              (stands_to Empty (IsRecord fits_r x.hall m (issued_at x) (places m)) x.head x.head _ _ refl
              (set_else s.homes k (base m) (some Empty) (λ e. omega arith)) (by.records m desk.below))
              (changed_all (λ q t. q < places m → Stands Empty (IsNote fits_n x.hall m q) t (get_elem? homes (base m + suc q))) x.ticket p idle
              (λ h. ap (λ b. get_elem? homes (b + suc p)) (sym start) ∙ set_at s.homes k none (some Empty) out_there)
              (λ q ne h. stands_to Empty (IsNote fits_n x.hall m q) (x.ticket q) (x.ticket q) _ _ refl
              (set_else s.homes k (base m + suc q) (some Empty) (λ e. ne (omega arith))) (by.notes m q desk.below h)))
              (record {
                head = subst (HeadMay (places m) y) (sym sits.head) tt;
                tallies = changed_all (λ q t. q < places m → Tallies y q t) x.ticket p idle
                    (λ h.
                    let a = o.tallies p within in
                    record { issued = a.issued ∙ ap live told.3; left = a.left ∙ ap stale told.3; taking = refl })
                    (λ q ne h.
                    let b : one (p == q) ≡ 0 = one_else p q (λ e. ne (sym e)) in
                    let t = o.tallies q h in
                    let g = t.taking in
                    let e : times q x.taking ≡ one (p == q) + 0 = ap (λ r. times q r) sits.taking in
                    record { issued = t.issued; left = t.left; taking = omega arith });
                within = o.within;
              })
              (record { legal = logged.legal; tally = logged.tally; holder = logged.holder; tickets = logged.tickets })
              (views_set n base places ms m y id _ s.views spares own by.agree),
        ),
        refl,
      )
