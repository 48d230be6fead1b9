-- The kinds of step of a holder before it comes, and its coming.
use Rattle.std.proofs.Common.{◌≡◌, ℕ, suc, zero, ◌+◌, ◌*◌, ◌/◌, ◌%◌, ◌^◌, ◌-◌, ◌<◌, ◌≤◌, ◌≢◌, ◌⊎◌, inl, inr, ⊎_elim, ◌==◌, Bool, true, false, List}
use Rattle.std.proofs.Common.{[], ◌∷◌, ◌++◌, length, set, slice_index, sym, refl, ap, ◌∙◌, subst, arith, eq-eqb, ne_eqb, length-set}
use Rattle.std.specs.Prelude.{Option, Some, None}
use mathlib.Core.Option.{some, none}
use mathlib.Core.Logic.{dite}
use native.Mathlib.Decide.{ℕ_discrete}
use lib.ListN.{get_elem?}
use Rattle.atomic_table.specs.Table.{State, Me, Act, keeps, takes, gives, Allows, Splits, rest}
use Rattle.atomic_table.specs.Seated.{TableId}
use Rattle.atomic_table.proofs.Lists.{set_else, at_last}
use Rattle.meetings.specs.declared.moves.Move.{Move}
use Rattle.meetings.specs.declared.moves.Move.TheVariants.{Issue, Park, Arrive}
use Rattle.meetings.specs.Meetings.{one, times, count_of}
use Rattle.meetings.specs.Moves.{after, Legal}
use Rattle.meetings.proofs.Counts.{one_same, one_else, times-append}
use Rattle.meet_hall.specs.declared.slot.Slot.{Slot}
use Rattle.meet_hall.specs.declared.slot.Slot.TheVariants.{Empty, Record, Note}
use Rattle.meet_hall.specs.declared.view.Desk.{Desk}
use Rattle.meet_hall.specs.declared.view.Chit.{Chit}
use Rattle.meet_hall.specs.declared.view.Trace.{Trace}
use Rattle.meet_hall.specs.declared.view.View.{View}
use Rattle.meet_hall.specs.declared.view.View.TheVariants.{Builds, Holds, Issues, Takes, Parks, Lasts, Ends, Comes, Puts, Gone}
use Rattle.meet_hall.specs.Places.{ListsAre}
use Rattle.meet_hall.specs.Parties.{Party, idle, kept, waits, puts, came, shut, out, due, live, stale, gone, ticket_come, dues, owner}
use Rattle.meet_hall.specs.Seatings.{Seating, issued_at, count_at, word_at, changed, NoneLeft, HeadMay, Tallies, Orderly, Logged}
use Rattle.meet_hall.specs.Views.{first_desk, issuing_desk, chit_from, holder_trace}
use Rattle.meet_hall.specs.Rule.{Stands, IsRecord, IsNote, lists_of, Sits, Bears, IsFresh, HasCome, IsLaidOut, IsDesk, IsChit, Agrees, RecordStands}
use Rattle.meet_hall.specs.Rule.{NoteStands, KeptBy, Kept}
use Rattle.meet_hall.specs.Steps.{Finds, Issued, Opened, Parked, parked}
use Rattle.meet_hall.proofs.Changes.{changed-here, changed-else, changed_all, set_at, there, Words, words_set, words_stay}
use Rattle.meet_hall.proofs.PartyLemmas.{idle_of, dues_changed, due_dues}
use Rattle.meet_hall.proofs.Keeping.{stands_to, SameHead, SameTicket, Spares, LiesAt, Apart, views_set, views_grown, kept_core}
use Rattle.meet_hall.proofs.SeatingLemmas.{headed, ticketed, moving, count_small, number_more, number_less, finds, tallies_to, orderly_headed}
use Rattle.meet_hall.proofs.SeatingLemmas.{orderly_ticketed, orderly_moving, logged_headed, logged_ticketed, logged_issue, logged_park, mine_waits}
use Rattle.meet_hall.proofs.SeatingLemmas.{mine_puts, none_idle, spares_headed, spares_ticketed, spares_moving, spares_trans}

module _ (n : ℕ) (base places : ℕ → ℕ) {R N : Type 0} (fits_r : R → TableId → ℕ → List ℕ → Type 0) (fits_n : N → TableId → ℕ → List ℕ → Type 0)
    (apart : Apart n base places) (narrow : (m : ℕ) → m < n → places m + 1 < 2 ^ 32) where
  abbrev pub Rule : State (Slot R N) View → Type 0
  Rule = Kept fits_r fits_n n base places

  -- a slot that changes at a meeting leaves the slots of its notes
  pub notes_but_record : (m : ℕ) (x y : Seating) (homes homes' : List (mathlib.Core.Option.Option (Slot R N)))
      → y.hall ≡ x.hall → ((p : ℕ) → p < places m → y.ticket p ≡ x.ticket p) → ((i : ℕ) → i ≢ base m → get_elem? homes' i ≡ get_elem? homes i)
      → ((p : ℕ) → p < places m → NoteStands n base places fits_r fits_n m x homes p)
      → (p : ℕ) → p < places m → NoteStands n base places fits_r fits_n m y homes' p
  notes_but_record m x y homes homes' hall same others notes p h =
      subst (λ z. Stands Empty (IsNote fits_n z m p) (y.ticket p) (get_elem? homes' (base m + suc p))) (sym hall)
      (stands_to Empty (IsNote fits_n x.hall m p) (x.ticket p) (y.ticket p) _ _ (same p h) (others (base m + suc p) (λ e. omega arith)) (notes p h))

  -- kind 1: the building seat gives a holder its seat
  pub makes : (id : ℕ) (hall : TableId) (b : ℕ) → b < n → Splits Rule id (Builds b) (Builds (b + 1)) (Holds (first_desk hall b (base b) (places b)))
  makes id hall b below s before at =
      let ms = before.0 in let by = before.1 in
      let x = ms b in
      let new = length (set s.views id (Builds (b + 1))) in
      let y : Seating = record x { hall = hall; head = waits new } in
      let fresh = by.agree id (Builds b) at b (omega arith) below in
      let tally = (by.orderly b below).tallies in
      let free : (p : ℕ) → p < places b → x.ticket p ≡ idle = (λ p h.
      let t = tally p h in
      idle_of (x.ticket p) (sym t.issued ∙ ap (λ l. times p l) fresh.issued) (sym t.left ∙ ap (λ l. times p l) fresh.left)
      (sym t.taking ∙ ap (λ l. times p l) fresh.taking)) in
      let head : due x.head ≡ 1 = ap due fresh.head in
      let logged = by.logged b below in
      let word : slice_index s.words b ≡ word_at (places b) y = by.words b below ∙ ap (λ d. x.round % 2 ^ 32 * 2 ^ 32 + (d + dues x.ticket (places b))) head in
      let spares : Spares id (places b) x y = record {
        head = λ i ne o. absurd (mine_waits id x.head fresh.head i ne o);
        ticket = λ i p ne h o. absurd (none_idle id (x.ticket p) (free p h) i ne o);
        past = λ t h. h;
      } in
      let own : Agrees n base places (changed ms b y) id (Builds (b + 1)) = (λ m from h.
      subst (λ (z : Seating). IsFresh z (waits id)) (sym (changed-else ms b m y (λ e. omega arith))) (by.agree id (Builds b) at m (omega arith) h)) in
      let young : Agrees n base places (changed ms b y) new (Holds (first_desk hall b (base b) (places b))) = (
        record { below = below; start = refl; size = refl },
        subst (λ (z : Seating). Sits z (waits new) [] (first_desk hall b (base b) (places b))) (sym (changed-here ms b y))
            (record { hall = refl; round = fresh.round; issued = fresh.issued; left = fresh.left; taking = fresh.taking; head = refl }),
      ) in (
        changed ms b y,
        kept_core n base places fits_r fits_n apart ms s b y s.words s.homes _ (base b) by below
            (words_stay b _ s.words word) (record { from = omega arith; to = omega arith }) (λ i ne. refl)
            (stands_to Empty (IsRecord fits_r x.hall b (issued_at x) (places b)) x.head (waits id) _ _ (sym fresh.head) refl (by.records b below))
            (λ p h. stands_to Empty (IsNote fits_n hall b p) idle (x.ticket p) _ _ (free p h) refl
            (stands_to Empty (IsNote fits_n x.hall b p) (x.ticket p) idle _ _ (sym (free p h)) refl (by.notes b p below h)))
            (record { head = tt; tallies = (λ p h. tallies_to x y p (x.ticket p) refl refl refl (tally p h)); within = (by.orderly b below).within })
            (record {
              legal = logged.legal;
              tally = logged.tally ∙ ap (λ d. d + dues x.ticket (places b)) head;
              holder = logged.holder
                  ∙ head;
              tickets = logged.tickets;
            })
            (views_grown n base places ms b y id (Builds (b + 1)) _ s.views spares own young by.agree),
      )

  -- kind 1: a holder gives the ticket that it counted a seat
  pub hands : (id : ℕ) (d : Desk) (p : ℕ) → Splits Rule id (Issues d p) (Holds d) (Comes (chit_from d p))
  hands id d p s before at =
      let ms = before.0 in let by = before.1 in
      let m = d.meeting in
      let x = ms m in
      let told = by.agree id (Issues d p) at in
      let desk = told.0 in let sits = told.1 in
      let within : p < places m = subst (λ k. p < k) desk.size told.2 in
      let new = length (set s.views id (Holds d)) in
      let y : Seating = ticketed x p (waits new) in
      let o = by.orderly m desk.below in
      let may : HeadMay (places m) y x.head = subst (HeadMay (places m) y) (sym sits.head) tt in
      let num : (f : Party → ℕ) → f (waits id) ≡ f (waits new) → f (waits new) ≡ f (x.ticket p) = (λ f e. sym e ∙ ap f (sym told.3)) in
      let logged = logged_ticketed (places m) x p (waits new) within (num due refl) (num ticket_come refl) (by.logged m desk.below) in
      let word : slice_index s.words m ≡ word_at (places m) y =
      by.words m desk.below ∙ ap (λ c. x.round % 2 ^ 32 * 2 ^ 32 + c) (sym (by.logged m desk.below).tally ∙ logged.tally) in
      let spares = spares_ticketed id (places m) x p (waits new) (mine_waits id (x.ticket p) told.3) in
      let own : Agrees n base places (changed ms m y) id (Holds d) = (
        desk,
        subst (λ (z : Seating). Sits z (waits id) [] d) (sym (changed-here ms m y))
            (record { hall = sits.hall; round = sits.round; issued = sits.issued; left = sits.left; taking = sits.taking; head = sits.head }),
      ) in
      let young : Agrees n base places (changed ms m y) new (Comes (chit_from d p)) = (
        (desk, told.2),
        subst (λ (z : Seating). Bears z (waits new) (chit_from d p)) (sym (changed-here ms m y))
            (record { hall = sits.hall; round = sits.round; ticket = changed-here x.ticket p (waits new) }),
      ) in (
        changed ms m y,
        kept_core n base places fits_r fits_n apart ms s m y s.words s.homes _ (base m) by desk.below
            (words_stay m _ s.words word) (record { from = omega arith; to = omega arith }) (λ i ne. refl)
            (by.records m desk.below)
            (changed_all (λ q t. q < places m → Stands Empty (IsNote fits_n x.hall m q) t (get_elem? s.homes (base m + suc q))) x.ticket p (waits new)
            (λ h. stands_to Empty (IsNote fits_n x.hall m p) (x.ticket p) (waits id) _ _ (sym told.3) refl (by.notes m p desk.below h))
            (λ q ne h. by.notes m q desk.below h))
            (orderly_ticketed (places m) x p (waits new) (num live refl) (num stale refl) (num gone refl) within may o)
            logged
            (views_grown n base places ms m y id (Holds d) _ s.views spares own young by.agree),
      )

  -- kind 2: a holder counts one party more, the ticket of a place
  pub issues : (slots id : ℕ) (d : Desk) (p : ℕ) → p < d.places → times p d.issued ≡ 0 → times p d.left ≡ 0
      → Allows Rule slots id (Holds d, []) d.meeting (λ k. (k + 1) % 2 ^ 64) (λ _ w. Issued p (Holds d, []) w)
  issues slots id d p place new clear s before len at fits =
      let ms = before.0 in let by = before.1 in
      let m = d.meeting in
      let x = ms m in
      let told = by.agree id (Holds d) at in
      let desk = told.0 in let sits = told.1 in
      let within : p < places m = subst (λ k. p < k) desk.size place in
      let o = by.orderly m desk.below in
      let tally = o.tallies p within in
      let fresh : times p (issued_at x) ≡ 0 = ap (λ l. times p l) sits.issued ∙ new in
      let free : x.ticket p ≡ idle =
      idle_of (x.ticket p) (sym tally.issued ∙ fresh) (sym tally.left ∙ ap (λ l. times p l) sits.left ∙ clear)
      (sym tally.taking ∙ ap (λ l. times p l) sits.taking) in
      let y : Seating = moving (ticketed x p (waits id)) (Issue p) in
      let head : due x.head ≡ 1 = ap due sits.head in
      let logged = logged_issue (places m) x p id within head free fresh (by.logged m desk.below) in
      let count : count_at (places m) y ≡ count_at (places m) x + 1 =
      (let a = dues_changed x.ticket p (waits id) (places m) within in let b : due (x.ticket p) ≡ 0 = ap due free in omega arith) in
      let more = number_more (places m) (slice_index s.words m) x y (by.words m desk.below) refl count (count_small (places m) y (narrow m desk.below)) in
      let may : HeadMay (places m) y x.head = subst (HeadMay (places m) y) (sym sits.head) tt in
      let spares = spares_trans id (places m) x (ticketed x p (waits id)) y
      (spares_ticketed id (places m) x p (waits id) (none_idle id (x.ticket p) free))
      (spares_moving id (places m) (ticketed x p (waits id)) (Issue p) (inr (mine_waits id x.head sits.head))) in
      let own : Agrees n base places (changed ms m y) id (Issues (issuing_desk d p) p) = (
        desk,
        subst (λ (z : Seating). Sits z (waits id) [] (issuing_desk d p)) (sym (changed-here ms m y))
            (record {
              hall = sits.hall;
              round = sits.round;
              issued = ap (λ l. l ++ p ∷ []) sits.issued;
              left = sits.left;
              taking =
                  sits.taking;
              head = sits.head;
            }),
        place,
        subst (λ (z : Seating). z.ticket p ≡ waits id) (sym (changed-here ms m y)) (changed-here x.ticket p (waits id)),
      ) in (
        Issues (issuing_desk d p) p,
        keeps,
        tt,
        (
          changed ms m y,
          kept_core n base places fits_r fits_n apart ms s m y _ s.homes _ (base m) by desk.below
              (words_set m _ _ s.words (subst (λ k. m < k) (sym by.width) desk.below) more) (record { from = omega arith; to = omega arith }) (λ i ne. refl)
              (stands_to Empty (IsRecord fits_r x.hall m (issued_at y) (places m)) (waits id) x.head _ _ sits.head refl
              (stands_to Empty (IsRecord fits_r x.hall m (issued_at x) (places m)) x.head (waits id) _ _ (sym sits.head) refl (by.records m desk.below)))
              (changed_all (λ q t. q < places m → Stands Empty (IsNote fits_n x.hall m q) t (get_elem? s.homes (base m + suc q))) x.ticket p (waits id)
              (λ h. stands_to Empty (IsNote fits_n x.hall m p) (x.ticket p) idle _ _ (sym free) refl (by.notes m p desk.below h))
              (λ q ne h. by.notes m q desk.below h))
              (record {
                head = may;
                tallies = changed_all (λ q t. q < places m → Tallies y q t) x.ticket p (waits id)
                    (λ h.
                    let a = times-append p (issued_at x) (p ∷ []) in
                    let b : one (p == p) ≡ 1 = one_same p p refl in
                    let l : stale (x.ticket p) ≡ 0 = ap stale free in
                    let g : gone (x.ticket p) ≡ 0 = ap gone free in
                    record { issued = omega arith; left = tally.left ∙ l; taking = tally.taking ∙ g })
                    (λ q ne h.
                    let a = times-append q (issued_at x) (p ∷ []) in
                    let b : one (p == q) ≡ 0 = one_else p q (λ e. ne (sym e)) in
                    let t = o.tallies q h in
                    let i = t.issued in
                    record { issued = omega arith; left = t.left; taking = t.taking });
                within = λ q h.
                    let a = times-append q (issued_at x) (p ∷ []) in
                    let b : one (p == q) ≡ 0 = one_else p q (λ e. omega arith) in
                    let w = o.within q h in
                    let i = w.0 in
                    (omega arith, w.1);
              })
              logged
              (views_set n base places ms m y id _ s.views spares own by.agree),
        ),
        refl,
      )

  -- kind 3: a holder takes the record's slot
  pub opens : (slots id : ℕ) (d : Desk) → d.left ≡ [] → Allows Rule slots id (Holds d, []) d.meeting (λ k. k) (λ _ w. Opened (Holds d, []) w)
  opens slots id d clear s before len at fits =
      let ms = before.0 in let by = before.1 in
      let m = d.meeting in
      let x = ms m in
      let told = by.agree id (Holds d) at in
      let desk = told.0 in let sits = told.1 in
      let y : Seating = headed x (puts id) in
      let slot : get_elem? s.homes d.base ≡ some (some Empty) =
      ap (λ i. get_elem? s.homes i) desk.start
      ∙ stands_to Empty (IsRecord fits_r x.hall m (issued_at x) (places m)) x.head (waits id) _ _ (sym sits.head) refl (by.records m desk.below) in
      let head : due (puts id) ≡ due x.head = sym (ap due sits.head) in
      let logged = logged_headed (places m) x (puts id) head (by.logged m desk.below) in
      let word : slice_index s.words m ≡ word_at (places m) y =
      by.words m desk.below ∙ ap (λ c. x.round % 2 ^ 32 * 2 ^ 32 + c) (sym (by.logged m desk.below).tally ∙ logged.tally) in
      let start : d.base ≡ base m = desk.start in
      let own : Agrees n base places (changed ms m y) id (Parks d) = (
        desk,
        subst (λ (z : Seating). Sits z (puts id) [] d) (sym (changed-here ms m y))
            (record { hall = sits.hall; round = sits.round; issued = sits.issued; left = sits.left; taking = sits.taking; head = refl }),
      ) in (
        Parks d,
        takes d.base Empty,
        slot,
        (
          changed ms m y,
          kept_core n base places fits_r fits_n apart ms s m y _ (set s.homes d.base none) _ d.base by desk.below
              (words_set m _ _ s.words (subst (λ k. m < k) (sym by.width) desk.below) word) (record { from = omega arith; to = omega arith })
              (λ i ne. set_else s.homes d.base i none ne)
              (ap (λ i. get_elem? (set s.homes d.base none) i) (sym start) ∙ set_at s.homes d.base (some Empty) none slot)
              (notes_but_record m x y s.homes (set s.homes d.base none) refl (λ p h. refl)
              (λ i ne. set_else s.homes d.base i none (λ e. ne (e ∙ start))) (λ p h. by.notes m p desk.below h))
              (orderly_headed (places m) x (puts id) (sits.left ∙ clear, sits.taking) (by.orderly m desk.below))
              logged
              (views_set n base places ms m y id _ s.views (spares_headed id (places m) x (puts id) (mine_waits id x.head sits.head)) own by.agree),
        ),
        refl,
      )
