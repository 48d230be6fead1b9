-- The kinds of step of a ticket.
use Rattle.std.proofs.Common.{◌≡◌, ℕ, suc, zero, ◌+◌, ◌*◌, ◌/◌, ◌%◌, ◌^◌, ◌-◌, ◌<◌, ◌≤◌, ◌≢◌, ◌⊎◌, inl, inr, ⊎_elim, ◌==◌, Bool, true, false, List}
use Rattle.std.proofs.Common.{[], ◌∷◌, ◌++◌, length, set, slice_index, sym, refl, ap, ◌∙◌, subst, arith, eq-eqb, ne_eqb, length-set}
use Rattle.std.specs.Prelude.{Option, Some, None}
use mathlib.Core.Option.{some, none}
use mathlib.Core.Logic.{dite}
use native.Mathlib.Decide.{ℕ_discrete}
use lib.ListN.{get_elem?}
use Rattle.atomic_table.specs.Table.{State, Me, Act, keeps, takes, gives, Valid, stepped, carried_after, Allows, Splits, rest}
use Rattle.atomic_table.specs.Seated.{TableId}
use Rattle.atomic_table.proofs.Lists.{set_else, at_last}
use Rattle.meetings.specs.declared.moves.Move.{Move}
use Rattle.meetings.specs.declared.moves.Move.TheVariants.{Issue, Park, Arrive}
use Rattle.meetings.specs.Meetings.{one, times, count_of}
use Rattle.meetings.specs.Moves.{after, Legal}
use Rattle.meetings.proofs.Counts.{one_same, one_else, times-append}
use Rattle.meet_hall.specs.declared.slot.Slot.{Slot}
use Rattle.meet_hall.specs.declared.slot.Slot.TheVariants.{Empty, Record, Note}
use Rattle.meet_hall.specs.declared.view.Desk.{Desk}
use Rattle.meet_hall.specs.declared.view.Chit.{Chit}
use Rattle.meet_hall.specs.declared.view.Trace.{Trace}
use Rattle.meet_hall.specs.declared.view.View.{View}
use Rattle.meet_hall.specs.declared.view.View.TheVariants.{Builds, Holds, Issues, Takes, Parks, Lasts, Ends, Comes, Puts, Gone}
use Rattle.meet_hall.specs.Places.{ListsAre}
use Rattle.meet_hall.specs.Parties.{Party, idle, kept, waits, puts, came, shut, out, due, live, stale, gone, ticket_come, dues, owner}
use Rattle.meet_hall.specs.Seatings.{Seating, issued_at, count_at, word_at, changed, NoneLeft, HeadMay, Tallies, Orderly, Logged}
use Rattle.meet_hall.specs.Views.{first_desk, issuing_desk, next_desk, noted_desk, chit_from, desk_from, slot_of, holder_trace, ticket_trace}
use Rattle.meet_hall.specs.Rule.{Stands, IsRecord, IsNote, lists_of, Sits, Bears, IsFresh, HasCome, IsLaidOut, IsDesk, IsChit, Agrees, RecordStands}
use Rattle.meet_hall.specs.Rule.{NoteStands, KeptBy, Kept}
use Rattle.meet_hall.specs.Steps.{Finds, Parked, parked, Brought, Came, arrived, TakenRecord, TakenOut, Returned, Rearmed}
use Rattle.meet_hall.proofs.Changes.{changed-here, changed-else, changed_all, set_at, there, Words, words_set, words_stay, count_in, round_in}
use Rattle.meet_hall.proofs.PartyLemmas.{idle_of, dues_changed, due_dues}
use Rattle.meet_hall.proofs.Keeping.{stands_to, SameHead, SameTicket, Spares, LiesAt, Apart, views_set, views_grown, kept_core}
use Rattle.meet_hall.proofs.SeatingLemmas.{headed, ticketed, moving, count_small, number_more, number_less, finds, tallies_to, orderly_headed}
use Rattle.meet_hall.proofs.SeatingLemmas.{orderly_ticketed, orderly_moving, head_stays, head_later, came_of, orderly_came, logged_headed}
use Rattle.meet_hall.proofs.SeatingLemmas.{logged_ticketed, logged_issue, logged_park, logged_arrive, NotOthers, mine_waits, mine_puts, mine_shut}
use Rattle.meet_hall.proofs.SeatingLemmas.{mine_out, none_idle, none_kept, none_came, spares_headed, spares_ticketed, spares_moving, spares_trans}
use Rattle.meet_hall.proofs.HolderKinds.{notes_but_record}

module _ (n : ℕ) (base places : ℕ → ℕ) {R N : Type 0} (fits_r : R → TableId → ℕ → List ℕ → Type 0) (fits_n : N → TableId → ℕ → List ℕ → Type 0)
    (apart : Apart n base places) (narrow : (m : ℕ) → m < n → places m + 1 < 2 ^ 32) where
  abbrev Rule : State (Slot R N) View → Type 0
  Rule = Kept fits_r fits_n n base places

  -- kind 5: a ticket takes its note's slot
  pub brings : (slots id : ℕ) (c : Chit) → Allows Rule slots id (Comes c, []) c.meeting (λ k. k) (λ _ w. Brought (Comes c, []) w)
  brings slots id c s before len at fits =
      let ms = before.0 in let by = before.1 in
      let m = c.meeting in
      let p = c.place in
      let x = ms m in
      let told = by.agree id (Comes c) at in
      let chit = told.0.0 in let bears = told.1 in
      let start : c.base ≡ base m = chit.start in
      let within : p < places m = subst (λ k. p < k) chit.size told.0.1 in
      let k = slot_of c in
      let y : Seating = ticketed x p (puts id) in
      let homes = set s.homes k none in
      let slot : get_elem? s.homes k ≡ some (some Empty) =
      ap (λ b. get_elem? s.homes (b + suc p)) start
      ∙ stands_to Empty (IsNote fits_n x.hall m p) (x.ticket p) (waits id) _ _ (sym bears.ticket) refl (by.notes m p chit.below within) in
      let num : (f : Party → ℕ) → f (waits id) ≡ f (puts id) → f (puts id) ≡ f (x.ticket p) = (λ f e. sym e ∙ ap f (sym bears.ticket)) in
      let logged = logged_ticketed (places m) x p (puts id) within (num due refl) (num ticket_come refl) (by.logged m chit.below) in
      let word : slice_index s.words m ≡ word_at (places m) y =
      by.words m chit.below ∙ ap (λ q. x.round % 2 ^ 32 * 2 ^ 32 + q) (sym (by.logged m chit.below).tally ∙ logged.tally) in
      let o = by.orderly m chit.below in
      let may = head_stays (places m) x p (puts id) x.head within (num due refl) o.head in
      let own : Agrees n base places (changed ms m y) id (Puts c) = (
        told.0,
        subst (λ (z : Seating). Bears z (puts id) c) (sym (changed-here ms m y))
            (record { hall = bears.hall; round = bears.round; ticket = changed-here x.ticket p (puts id) }),
      ) in (
        Puts c,
        takes k Empty,
        slot,
        (
          changed ms m y,
          kept_core n base places fits_r fits_n apart ms s m y _ homes _ k by chit.below
              (words_set m _ _ s.words (subst (λ q. m < q) (sym by.width) chit.below) word) (record { from = omega arith; to = omega arith })
              (λ i ne. set_else s.homes k i none ne)
              (stands_to Empty (IsRecord fits_r x.hall m (issued_at x) (places m)) x.head x.head _ _ refl
              (set_else s.homes k (base m) none (λ e. omega arith)) (by.records m chit.below))
              (changed_all (λ q t. q < places m → Stands Empty (IsNote fits_n x.hall m q) t (get_elem? homes (base m + suc q))) x.ticket p (puts id)
              (λ h. ap (λ b. get_elem? homes (b + suc p)) (sym start) ∙ set_at s.homes k (some Empty) none slot)
              (λ q ne h. stands_to Empty (IsNote fits_n x.hall m q) (x.ticket q) (x.ticket q) _ _ refl
              (set_else s.homes k (base m + suc q) none (λ e. ne (omega arith))) (by.notes m q chit.below h)))
              (orderly_ticketed (places m) x p (puts id) (num live refl) (num stale refl) (num gone refl) within may o)
              logged
              (views_set n base places ms m y id _ s.views
              (spares_ticketed id (places m) x p (puts id) (mine_waits id (x.ticket p) bears.ticket)) own by.agree),
        ),
        refl,
      )

  -- what both outcomes of an arrival share: the slot has the note again
  note_put : (id : ℕ) (c : Chit) (note : N) → fits_n note c.hall c.meeting (c.place ∷ [])
      → (s : State (Slot R N) View) → (ms : ℕ → Seating) → KeptBy n base places fits_r fits_n ms s → get_elem? s.views id ≡ some (Puts c)
      → (p : ℕ) → p < places c.meeting
      → Stands Empty (IsNote fits_n (ms c.meeting).hall c.meeting p) (changed (ms c.meeting).ticket c.place came p)
      (get_elem? (set s.homes (slot_of c) (some (Note note))) (base c.meeting + suc p))
  note_put id c note fits s ms by at =
      let m = c.meeting in
      let x = ms m in
      let told = by.agree id (Puts c) at in
      let chit = told.0.0 in let bears = told.1 in
      let start : c.base ≡ base m = chit.start in
      let k = slot_of c in
      let homes = set s.homes k (some (Note note)) in
      let within : c.place < places m = subst (λ q. c.place < q) chit.size told.0.1 in
      let out_there : get_elem? s.homes k ≡ some none =
      ap (λ b. get_elem? s.homes (b + suc c.place)) start
      ∙ stands_to Empty (IsNote fits_n x.hall m c.place) (x.ticket c.place) (puts id) _ _ (sym bears.ticket) refl (by.notes m c.place chit.below within) in
      changed_all (λ q t. q < places m → Stands Empty (IsNote fits_n x.hall m q) t (get_elem? homes (base m + suc q))) x.ticket c.place came
      (λ h. (
        Note note,
        ap (λ b. get_elem? homes (b + suc c.place)) (sym start) ∙ set_at s.homes k none (some (Note note)) out_there,
        (note, refl, subst (λ z. fits_n note z m (c.place ∷ [])) (sym bears.hall) fits),
      ))
      (λ q ne h. stands_to Empty (IsNote fits_n x.hall m q) (x.ticket q) (x.ticket q) _ _ refl
      (set_else s.homes k (base m + suc q) (some (Note note)) (λ e. ne (omega arith))) (by.notes m q chit.below h))

  -- kind 6: a ticket comes, and others have not
  arrives_on : (slots id : ℕ) (c : Chit) (note : N) → fits_n note c.hall c.meeting (c.place ∷ [])
      → (s : State (Slot R N) View) → (before : Rule s) → get_elem? s.views id ≡ some (Puts c) → (count_at (places c.meeting) (before.0 c.meeting) ≢ 1)
      → (w : View) × (a : Act (Slot R N)) × Valid s.homes ((slot_of c, Note note) ∷ []) a
      × Rule (stepped s c.meeting ((slice_index s.words c.meeting + (2 ^ 64 - 1)) % 2 ^ 64) id ((slot_of c, Note note) ∷ []) w a)
      × Came (Puts c, (slot_of c, Note note) ∷ []) (slice_index s.words c.meeting) (w, carried_after ((slot_of c, Note note) ∷ []) a)
  arrives_on slots id c note fits s before at more =
      let ms = before.0 in let by = before.1 in
      let m = c.meeting in
      let p = c.place in
      let x = ms m in
      let told = by.agree id (Puts c) at in
      let chit = told.0.0 in let bears = told.1 in
      let start : c.base ≡ base m = chit.start in
      let k = slot_of c in
      let within : p < places m = subst (λ q. p < q) chit.size told.0.1 in
      let y : Seating = moving (ticketed x p came) (Arrive p) in
      let homes = set s.homes k (some (Note note)) in
      let o = by.orderly m chit.below in
      let owing : due (x.ticket p) ≡ 1 = ap due bears.ticket in
      let once : times p (issued_at x) ≡ 1 = (o.tallies p within).issued ∙ ap live bears.ticket in
      let logged = logged_arrive (places m) x p within owing (ap ticket_come bears.ticket) once (by.logged m chit.below) in
      let count : count_at (places m) y + 1 ≡ count_at (places m) x = (let a = dues_changed x.ticket p came (places m) within in omega arith) in
      let small = count_small (places m) x (narrow m chit.below) in
      let number = by.words m chit.below in
      let less = number_less (places m) (slice_index s.words m) x y number refl count small in
      let tally = logged.tally in
      let found = finds (places m) (slice_index s.words m) c.round (Arrive p) x bears.round number small logged.legal (omega arith) in
      let test : (slice_index s.words m % 2 ^ 32 == 1) ≡ false =
      ne_eqb _ 1 (λ e. more (sym (count_in x.round (count_at (places m) x) small) ∙ sym (ap (λ w. w % 2 ^ 32) number) ∙ e)) in
      let positive : count_at (places m) x ≢ 0 = (λ z. omega arith) in
      let may = head_later (places m) x y x.head refl refl positive o.head in
      let num : (f : Party → ℕ) → f (puts id) ≡ f came → f came ≡ f (x.ticket p) = (λ f e. sym e ∙ ap f (sym bears.ticket)) in
      let spares = spares_trans id (places m) x (ticketed x p came) y
      (spares_ticketed id (places m) x p came (mine_puts id (x.ticket p) bears.ticket))
      (spares_moving id (places m) (ticketed x p came) (Arrive p) (inl refl)) in
      let own : Agrees n base places (changed ms m y) id (Gone (ticket_trace c (Arrive p ∷ x.log))) =
      subst (λ (z : Seating). HasCome z (ticket_trace c (Arrive p ∷ x.log))) (sym (changed-here ms m y)) (inr (bears.round, ([], refl))) in (
        Gone (ticket_trace c (Arrive p ∷ x.log)),
        gives,
        tt,
        (
          changed ms m y,
          kept_core n base places fits_r fits_n apart ms s m y _ homes _ k by chit.below
              (words_set m _ _ s.words (subst (λ q. m < q) (sym by.width) chit.below) less) (record { from = omega arith; to = omega arith })
              (λ i ne. set_else s.homes k i (some (Note note)) ne)
              (stands_to Empty (IsRecord fits_r x.hall m (issued_at x) (places m)) x.head x.head _ _ refl
              (set_else s.homes k (base m) (some (Note note)) (λ e. omega arith)) (by.records m chit.below))
              (note_put id c note fits s ms by at)
              (orderly_came (places m) x p within (num live refl) (num stale refl) (num gone refl) may o)
              logged
              (views_set n base places ms m y id _ s.views spares own by.agree),
        ),
        (x.log, found, ap (λ b. arrived b (Puts c, (slot_of c, Note note) ∷ []) (Arrive p ∷ x.log)) (sym test)),
      )

  -- kind 6: a ticket comes as the last
  arrives_last : (slots id : ℕ) (c : Chit) (note : N) → fits_n note c.hall c.meeting (c.place ∷ [])
      → (s : State (Slot R N) View) → (before : Rule s) → get_elem? s.views id ≡ some (Puts c) → (count_at (places c.meeting) (before.0 c.meeting) ≡ 1)
      → (w : View) × (a : Act (Slot R N)) × Valid s.homes ((slot_of c, Note note) ∷ []) a
      × Rule (stepped s c.meeting ((slice_index s.words c.meeting + (2 ^ 64 - 1)) % 2 ^ 64) id ((slot_of c, Note note) ∷ []) w a)
      × Came (Puts c, (slot_of c, Note note) ∷ []) (slice_index s.words c.meeting) (w, carried_after ((slot_of c, Note note) ∷ []) a)
  arrives_last slots id c note fits s before at last =
      let ms = before.0 in let by = before.1 in
      let m = c.meeting in
      let p = c.place in
      let x = ms m in
      let told = by.agree id (Puts c) at in
      let chit = told.0.0 in let bears = told.1 in
      let start : c.base ≡ base m = chit.start in
      let k = slot_of c in
      let within : p < places m = subst (λ q. p < q) chit.size told.0.1 in
      let z : Seating = moving (ticketed x p came) (Arrive p) in
      let y : Seating = headed z (shut id) in
      let homes = set s.homes k (some (Note note)) in
      let o = by.orderly m chit.below in
      let owing : due (x.ticket p) ≡ 1 = ap due bears.ticket in
      let once : times p (issued_at x) ≡ 1 = (o.tallies p within).issued ∙ ap live bears.ticket in
      let least = due_dues x.ticket p (places m) within in
      let done : due x.head ≡ 0 = omega arith in
      let head : x.head ≡ came = came_of (places m) x x.head done (λ e. omega arith) o.head in
      let clear : NoneLeft x = subst (HeadMay (places m) x) head o.head in
      let logged = logged_headed (places m) z (shut id) (sym done)
      (logged_arrive (places m) x p within owing (ap ticket_come bears.ticket) once (by.logged m chit.below)) in
      let count : count_at (places m) y + 1 ≡ count_at (places m) x = (let a = dues_changed x.ticket p came (places m) within in omega arith) in
      let small = count_small (places m) x (narrow m chit.below) in
      let number = by.words m chit.below in
      let less = number_less (places m) (slice_index s.words m) x y number refl count small in
      let tally = logged.tally in
      let found = finds (places m) (slice_index s.words m) c.round (Arrive p) x bears.round number small logged.legal (omega arith) in
      let test : (slice_index s.words m % 2 ^ 32 == 1) ≡ true =
      eq-eqb _ 1 (ap (λ w. w % 2 ^ 32) number ∙ count_in x.round (count_at (places m) x) small ∙ last) in
      let positive : count_at (places m) x ≢ 0 = (λ q. omega arith) in
      let may = head_later (places m) x z x.head refl refl positive o.head in
      let num : (f : Party → ℕ) → f (puts id) ≡ f came → f came ≡ f (x.ticket p) = (λ f e. sym e ∙ ap f (sym bears.ticket)) in
      let spares = spares_trans id (places m) x z y
      (spares_trans id (places m) x (ticketed x p came) z
      (spares_ticketed id (places m) x p came (mine_puts id (x.ticket p) bears.ticket))
      (spares_moving id (places m) (ticketed x p came) (Arrive p) (inl refl)))
      (spares_headed id (places m) z (shut id) (none_came id x.head head)) in
      let desk = desk_from c (after c.round (Arrive p ∷ x.log)).issued in
      let own : Agrees n base places (changed ms m y) id (Lasts desk) = (
        chit,
        subst (λ (v : Seating). Sits v (shut id) [] desk) (sym (changed-here ms m y))
            (record {
              hall = bears.hall;
              round = bears.round;
              issued = ap (λ r. (after r x.log).issued) bears.round;
              left = clear.0;
              taking =
                  clear.1;
              head = refl;
            }),
      ) in (
        Lasts desk,
        gives,
        tt,
        (
          changed ms m y,
          kept_core n base places fits_r fits_n apart ms s m y _ homes _ k by chit.below
              (words_set m _ _ s.words (subst (λ q. m < q) (sym by.width) chit.below) less) (record { from = omega arith; to = omega arith })
              (λ i ne. set_else s.homes k i (some (Note note)) ne)
              (stands_to Empty (IsRecord fits_r x.hall m (issued_at x) (places m)) x.head came _ _ (sym head)
              (set_else s.homes k (base m) (some (Note note)) (λ e. omega arith)) (by.records m chit.below))
              (note_put id c note fits s ms by at)
              (orderly_headed (places m) z (shut id) (clear, (let q : count_at (places m) y ≡ 0 = omega arith in q))
              (orderly_came (places m) x p within (num live refl) (num stale refl) (num gone refl) may o))
              logged
              (views_set n base places ms m y id _ s.views spares own by.agree),
        ),
        (x.log, found, ap (λ b. arrived b (Puts c, (slot_of c, Note note) ∷ []) (Arrive p ∷ x.log)) (sym test)),
      )

  pub arrives : (slots id : ℕ) (c : Chit) (note : N) → fits_n note c.hall c.meeting (c.place ∷ [])
      → Allows Rule slots id (Puts c, (slot_of c, Note note) ∷ []) c.meeting (λ k. (k + (2 ^ 64 - 1)) % 2 ^ 64)
      (λ found w. Came (Puts c, (slot_of c, Note note) ∷ []) found w)
  arrives slots id c note fits s before len at small = dite (ℕ_discrete (count_at (places c.meeting) (before.0 c.meeting)) 1)
      (λ e. arrives_last slots id c note fits s before at e)
      (λ ne. arrives_on slots id c note fits s before at ne)
