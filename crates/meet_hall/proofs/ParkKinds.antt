-- The kinds of step in which a party comes, and by which a ticket puts its note in.
use Rattle.std.proofs.Common.{◌≡◌, ℕ, suc, zero, ◌+◌, ◌*◌, ◌/◌, ◌%◌, ◌^◌, ◌-◌, ◌<◌, ◌≤◌, ◌≢◌, ◌⊎◌, inl, inr, ⊎_elim, ◌==◌, Bool, true, false, List}
use Rattle.std.proofs.Common.{[], ◌∷◌, ◌++◌, length, set, slice_index, sym, refl, ap, ◌∙◌, subst, arith, eq-eqb, ne_eqb, length-set}
use Rattle.std.specs.Prelude.{Option, Some, None}
use mathlib.Core.Option.{some, none}
use mathlib.Core.Logic.{dite}
use native.Mathlib.Decide.{ℕ_discrete}
use lib.ListN.{get_elem?}
use Rattle.atomic_table.specs.Table.{State, Me, Act, keeps, takes, gives, Valid, stepped, carried_after, Allows, Splits, rest}
use Rattle.atomic_table.specs.Seated.{TableId}
use Rattle.atomic_table.proofs.Lists.{set_else, at_last}
use Rattle.meetings.specs.declared.moves.Move.{Move}
use Rattle.meetings.specs.declared.moves.Move.TheVariants.{Issue, Park, Arrive}
use Rattle.meetings.specs.Meetings.{one, times, count_of}
use Rattle.meetings.specs.Moves.{after, Legal}
use Rattle.meetings.proofs.Counts.{one_same, one_else, times-append}
use Rattle.meet_hall.specs.declared.slot.Slot.{Slot}
use Rattle.meet_hall.specs.declared.slot.Slot.TheVariants.{Empty, Record, Note}
use Rattle.meet_hall.specs.declared.view.Desk.{Desk}
use Rattle.meet_hall.specs.declared.view.Chit.{Chit}
use Rattle.meet_hall.specs.declared.view.Trace.{Trace}
use Rattle.meet_hall.specs.declared.view.View.{View}
use Rattle.meet_hall.specs.declared.view.View.TheVariants.{Builds, Holds, Issues, Takes, Parks, Lasts, Ends, Comes, Puts, Gone}
use Rattle.meet_hall.specs.Places.{ListsAre}
use Rattle.meet_hall.specs.Parties.{Party, idle, kept, waits, puts, came, shut, out, due, live, stale, gone, ticket_come, dues, owner}
use Rattle.meet_hall.specs.Seatings.{Seating, issued_at, count_at, word_at, changed, NoneLeft, HeadMay, Tallies, Orderly, Logged}
use Rattle.meet_hall.specs.Views.{first_desk, issuing_desk, next_desk, noted_desk, chit_from, desk_from, slot_of, holder_trace, ticket_trace}
use Rattle.meet_hall.specs.Rule.{Stands, IsRecord, IsNote, lists_of, Sits, Bears, IsFresh, HasCome, IsLaidOut, IsDesk, IsChit, Agrees, RecordStands}
use Rattle.meet_hall.specs.Rule.{NoteStands, KeptBy, Kept}
use Rattle.meet_hall.specs.Steps.{Finds, Parked, parked, Brought, Came, arrived, TakenRecord, TakenOut, Returned, Rearmed}
use Rattle.meet_hall.proofs.Changes.{changed-here, changed-else, changed_all, set_at, there, Words, words_set, words_stay, count_in, round_in}
use Rattle.meet_hall.proofs.PartyLemmas.{idle_of, dues_changed, due_dues}
use Rattle.meet_hall.proofs.Keeping.{stands_to, SameHead, SameTicket, Spares, LiesAt, Apart, views_set, views_grown, kept_core}
use Rattle.meet_hall.proofs.SeatingLemmas.{headed, ticketed, moving, count_small, number_more, number_less, finds, tallies_to, orderly_headed}
use Rattle.meet_hall.proofs.SeatingLemmas.{orderly_ticketed, orderly_moving, logged_headed, logged_ticketed, logged_issue, logged_park, logged_arrive}
use Rattle.meet_hall.proofs.SeatingLemmas.{NotOthers, mine_waits, mine_puts, mine_shut, mine_out, none_idle, none_kept, none_came, spares_headed}
use Rattle.meet_hall.proofs.SeatingLemmas.{spares_ticketed, spares_moving, spares_trans}
use Rattle.meet_hall.proofs.HolderKinds.{notes_but_record}

module _ (n : ℕ) (base places : ℕ → ℕ) {R N : Type 0} (fits_r : R → TableId → ℕ → List ℕ → Type 0) (fits_n : N → TableId → ℕ → List ℕ → Type 0)
    (apart : Apart n base places) (narrow : (m : ℕ) → m < n → places m + 1 < 2 ^ 32) where
  abbrev Rule : State (Slot R N) View → Type 0
  Rule = Kept fits_r fits_n n base places

  -- kind 4: a holder comes, and others have not: it gives the record's slot back
  parks_on : (slots id : ℕ) (d : Desk) (guest : R) (lists : ListsAre) → fits_r guest d.hall d.meeting d.issued → lists ≡ lists_of d.issued d.places
      → (s : State (Slot R N) View) → (before : Rule s) → get_elem? s.views id ≡ some (Parks d) → (count_at (places d.meeting) (before.0 d.meeting) ≢ 1)
      → (w : View) × (a : Act (Slot R N)) × Valid s.homes ((d.base, Record guest lists) ∷ []) a
      × Rule (stepped s d.meeting ((slice_index s.words d.meeting + (2 ^ 64 - 1)) % 2 ^ 64) id ((d.base, Record guest lists) ∷ []) w a)
      × Parked (Parks d, (d.base, Record guest lists) ∷ []) (slice_index s.words d.meeting) (w, carried_after ((d.base, Record guest lists) ∷ []) a)
  parks_on slots id d guest lists fits same s before at more =
      let ms = before.0 in let by = before.1 in
      let m = d.meeting in
      let x = ms m in
      let told = by.agree id (Parks d) at in
      let desk = told.0 in let sits = told.1 in
      let start : d.base ≡ base m = desk.start in
      let y : Seating = moving (headed x came) Park in
      let homes = set s.homes d.base (some (Record guest lists)) in
      let head : due x.head ≡ 1 = ap due sits.head in
      let logged = logged_park (places m) x came head refl (by.logged m desk.below) in
      let count : count_at (places m) y + 1 ≡ count_at (places m) x = omega arith in
      let small = count_small (places m) x (narrow m desk.below) in
      let number = by.words m desk.below in
      let less = number_less (places m) (slice_index s.words m) x y number refl count small in
      let tally = logged.tally in
      let found = finds (places m) (slice_index s.words m) d.round Park x sits.round number small logged.legal (omega arith) in
      let test : (slice_index s.words m % 2 ^ 32 == 1) ≡ false =
      ne_eqb _ 1 (λ e. more (sym (count_in x.round (count_at (places m) x) small) ∙ sym (ap (λ w. w % 2 ^ 32) number) ∙ e)) in
      let issued : (after d.round x.log).issued ≡ d.issued = subst (λ r. (after r x.log).issued ≡ d.issued) sits.round sits.issued in
      let out_there : get_elem? s.homes d.base ≡ some none =
      ap (λ i. get_elem? s.homes i) start
      ∙ stands_to Empty (IsRecord fits_r x.hall m (issued_at x) (places m)) x.head (puts id) _ _ (sym sits.head) refl (by.records m desk.below) in
      let clear : NoneLeft x = subst (HeadMay (places m) x) sits.head (by.orderly m desk.below).head in
      let spares = spares_trans id (places m) x (headed x came) y
      (spares_headed id (places m) x came (mine_puts id x.head sits.head))
      (spares_moving id (places m) (headed x came) Park (inl refl)) in
      let own : Agrees n base places (changed ms m y) id (Gone (holder_trace d (Park ∷ x.log))) =
      subst (λ (z : Seating). HasCome z (holder_trace d (Park ∷ x.log))) (sym (changed-here ms m y)) (inr (sits.round, ([], refl))) in (
        Gone (holder_trace d (Park ∷ x.log)),
        gives,
        tt,
        (
          changed ms m y,
          kept_core n base places fits_r fits_n apart ms s m y _ homes _ d.base by desk.below
              (words_set m _ _ s.words (subst (λ k. m < k) (sym by.width) desk.below) less) (record { from = omega arith; to = omega arith })
              (λ i ne. set_else s.homes d.base i (some (Record guest lists)) ne) (
                Record guest lists,
                ap (λ i. get_elem? homes i) (sym start) ∙ set_at s.homes d.base none (some (Record guest lists)) out_there,
                (
                  guest,
                  lists,
                  refl,
                  subst (λ h. fits_r guest h m (issued_at x)) (sym sits.hall) (subst (λ q. fits_r guest d.hall m q) (sym sits.issued) fits),
                  same ∙ ap (λ q. lists_of q d.places) (sym sits.issued) ∙ ap (λ k. lists_of (issued_at x) k) desk.size,
                ),
              )
              (notes_but_record n base places fits_r fits_n apart narrow m x y s.homes homes refl (λ p h. refl)
              (λ i ne. set_else s.homes d.base i _ (λ e. ne (e ∙ start))) (λ p h. by.notes m p desk.below h))
              (orderly_moving (places m) (headed x came) Park refl clear (orderly_headed (places m) x came clear (by.orderly m desk.below)))
              logged
              (views_set n base places ms m y id _ s.views spares own by.agree),
        ),
        (x.log, found, issued, ap (λ b. parked b (Parks d, (d.base, Record guest lists) ∷ []) (Park ∷ x.log)) (sym test)),
      )

  -- kind 4: a holder comes as the last, and keeps the record's slot
  parks_last : (slots id : ℕ) (d : Desk) (guest : R) (lists : ListsAre)
      → (s : State (Slot R N) View) → (before : Rule s) → get_elem? s.views id ≡ some (Parks d) → (count_at (places d.meeting) (before.0 d.meeting) ≡ 1)
      → (w : View) × (a : Act (Slot R N)) × Valid s.homes ((d.base, Record guest lists) ∷ []) a
      × Rule (stepped s d.meeting ((slice_index s.words d.meeting + (2 ^ 64 - 1)) % 2 ^ 64) id ((d.base, Record guest lists) ∷ []) w a)
      × Parked (Parks d, (d.base, Record guest lists) ∷ []) (slice_index s.words d.meeting) (w, carried_after ((d.base, Record guest lists) ∷ []) a)
  parks_last slots id d guest lists s before at last =
      let ms = before.0 in let by = before.1 in
      let m = d.meeting in
      let x = ms m in
      let told = by.agree id (Parks d) at in
      let desk = told.0 in let sits = told.1 in
      let y : Seating = moving (headed x (out id)) Park in
      let head : due x.head ≡ 1 = ap due sits.head in
      let logged = logged_park (places m) x (out id) head refl (by.logged m desk.below) in
      let count : count_at (places m) y + 1 ≡ count_at (places m) x = omega arith in
      let small = count_small (places m) x (narrow m desk.below) in
      let number = by.words m desk.below in
      let less = number_less (places m) (slice_index s.words m) x y number refl count small in
      let tally = logged.tally in
      let found = finds (places m) (slice_index s.words m) d.round Park x sits.round number small logged.legal (omega arith) in
      let test : (slice_index s.words m % 2 ^ 32 == 1) ≡ true =
      eq-eqb _ 1 (ap (λ w. w % 2 ^ 32) number ∙ count_in x.round (count_at (places m) x) small ∙ last) in
      let issued : (after d.round x.log).issued ≡ d.issued = subst (λ r. (after r x.log).issued ≡ d.issued) sits.round sits.issued in
      let clear : NoneLeft x = subst (HeadMay (places m) x) sits.head (by.orderly m desk.below).head in
      let may : HeadMay (places m) y (out id) = (clear, (let z : count_at (places m) y ≡ 0 = omega arith in z)) in
      let spares = spares_trans id (places m) x (headed x (out id)) y
      (spares_headed id (places m) x (out id) (mine_puts id x.head sits.head))
      (spares_moving id (places m) (headed x (out id)) Park (inl refl)) in
      let own : Agrees n base places (changed ms m y) id (Ends d) = (
        desk,
        subst (λ (z : Seating). Sits z (out id) [] d) (sym (changed-here ms m y))
            (record { hall = sits.hall; round = sits.round; issued = sits.issued; left = sits.left; taking = sits.taking; head = refl }),
      ) in (
        Ends d,
        keeps,
        tt,
        (
          changed ms m y,
          kept_core n base places fits_r fits_n apart ms s m y _ s.homes _ (base m) by desk.below
              (words_set m _ _ s.words (subst (λ k. m < k) (sym by.width) desk.below) less) (record { from = omega arith; to = omega arith }) (λ i ne. refl)
              (stands_to Empty (IsRecord fits_r x.hall m (issued_at x) (places m)) x.head (puts id) _ _ (sym sits.head) refl (by.records m desk.below))
              (λ p h. by.notes m p desk.below h)
              (orderly_moving (places m) (headed x (out id)) Park refl may (orderly_headed (places m) x (out id) may (by.orderly m desk.below)))
              logged
              (views_set n base places ms m y id _ s.views spares own by.agree),
        ),
        (x.log, found, issued, ap (λ b. parked b (Parks d, (d.base, Record guest lists) ∷ []) (Park ∷ x.log)) (sym test)),
      )

  pub parks : (slots id : ℕ) (d : Desk) (guest : R) (lists : ListsAre) → fits_r guest d.hall d.meeting d.issued → lists ≡ lists_of d.issued d.places
      → Allows Rule slots id (Parks d, (d.base, Record guest lists) ∷ []) d.meeting (λ k. (k + (2 ^ 64 - 1)) % 2 ^ 64)
      (λ found w. Parked (Parks d, (d.base, Record guest lists) ∷ []) found w)
  parks slots id d guest lists fits same s before len at small = dite (ℕ_discrete (count_at (places d.meeting) (before.0 d.meeting)) 1)
      (λ e. parks_last slots id d guest lists s before at e)
      (λ ne. parks_on slots id d guest lists fits same s before at ne)
