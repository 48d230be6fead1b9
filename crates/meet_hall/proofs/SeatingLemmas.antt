-- A meeting whose holder, one ticket or log changes: what stays orderly, what its log says, and what other seats keep.
use Rattle.std.proofs.Common.{◌≡◌, ℕ, suc, zero, ◌+◌, ◌*◌, ◌/◌, ◌%◌, ◌^◌, ◌-◌, ◌<◌, ◌≤◌, ◌≢◌, ◌⊎◌, inl, inr, ⊎_elim, ◌==◌, List, [], ◌∷◌, ◌++◌, sym}
use Rattle.std.proofs.Common.{refl, ap, ◌∙◌, subst, arith}
use Rattle.std.specs.Prelude.{Option, Some, None}
use mathlib.Core.Logic.{dite}
use native.Mathlib.Decide.{ℕ_discrete}
use Rattle.meetings.specs.declared.moves.Move.{Move}
use Rattle.meetings.specs.declared.moves.Move.TheVariants.{Issue, Park, Arrive}
use Rattle.meetings.specs.Meetings.{Meeting, one, times, holder_due, count_of}
use Rattle.meetings.specs.Moves.{after, Legal}
use Rattle.meetings.proofs.Counts.{one_same, one_else, times-append}
use Rattle.meetings.proofs.LogLemmas.{issues_add_one, arrivals_take_one}
use Rattle.meet_hall.specs.declared.view.Trace.{Trace}
use Rattle.meet_hall.specs.Parties.{Party, idle, kept, waits, puts, came, shut, out, due, live, stale, gone, ticket_come, dues, owner}
use Rattle.meet_hall.specs.Seatings.{Seating, issued_at, count_at, word_at, changed, NoneLeft, HeadMay, Tallies, Orderly, Logged}
use Rattle.meet_hall.specs.Rule.{HasCome}
use Rattle.meet_hall.specs.Steps.{Finds}
use Rattle.meet_hall.proofs.Changes.{changed-here, changed-else, changed_all, word_more, word_less, count_in, round_in}
use Rattle.meet_hall.proofs.PartyLemmas.{due_most, dues_most, dues_changed, due_dues}
use Rattle.meet_hall.proofs.Keeping.{SameHead, SameTicket, Spares}

-- the holder stands otherwise
abbrev pub headed : Seating → Party → Seating
headed x t = record x { head = t }

-- the ticket of a place stands otherwise
abbrev pub ticketed : Seating → ℕ → Party → Seating
ticketed x p t = record x { ticket = changed x.ticket p t }

-- a move is made
abbrev pub moving : Seating → Move → Seating
moving x move = record x { log = move ∷ x.log }

pub count_small : (k : ℕ) (x : Seating) → k + 1 < 2 ^ 32 → count_at k x < 2 ^ 32
count_small k x narrow = let a = due_most x.head in let b = dues_most x.ticket k in omega arith

-- the word of a meeting, with one party more or less
pub number_more : (k found : ℕ) (x y : Seating) → found ≡ word_at k x → y.round ≡ x.round → count_at k y ≡ count_at k x + 1 → count_at k y < 2 ^ 32
    → (found + 1) % 2 ^ 64 ≡ word_at k y
number_more k found x y e r c small =
    ap (λ w. (w + 1) % 2 ^ 64) e ∙ word_more x.round (count_at k x) (omega arith)
    ∙ ap (λ n. x.round % 2 ^ 32 * 2 ^ 32 + n) (sym c) ∙ ap (λ q. q % 2 ^ 32 * 2 ^ 32 + count_at k y) (sym r)

pub number_less : (k found : ℕ) (x y : Seating) → found ≡ word_at k x → y.round ≡ x.round → count_at k y + 1 ≡ count_at k x → count_at k x < 2 ^ 32
    → (found + (2 ^ 64 - 1)) % 2 ^ 64 ≡ word_at k y
number_less k found x y e r c small =
    ap (λ w. (w + (2 ^ 64 - 1)) % 2 ^ 64) (e ∙ ap (λ n. x.round % 2 ^ 32 * 2 ^ 32 + n) (sym c)) ∙ word_less x.round (count_at k y) (omega arith)
    ∙ ap (λ q. q % 2 ^ 32 * 2 ^ 32 + count_at k y) (sym r)

-- what the subtraction of a party found
pub finds : (k found round : ℕ) (move : Move) (x : Seating) → x.round ≡ round → found ≡ word_at k x → count_at k x < 2 ^ 32
    → Legal x.round (move ∷ x.log) → count_of (after x.round (move ∷ x.log)) + 1 ≡ count_at k x → Finds round found move x.log
finds k found round move x r e small legal count = record {
  legal = subst (λ q. Legal q (move ∷ x.log)) r legal;
  round_found = ap (λ w. w / 2 ^ 32) e ∙ round_in x.round (count_at k x) small ∙ ap (λ q. q % 2 ^ 32) r;
  count_found = ap (λ w. w % 2 ^ 32) e ∙ count_in x.round (count_at k x) small ∙ sym count ∙ ap (λ q. count_of (after q (move ∷ x.log)) + 1) r;
}

pub tallies_to : (x y : Seating) (p : ℕ) (t : Party) → issued_at y ≡ issued_at x → y.left ≡ x.left → y.taking ≡ x.taking → Tallies x p t → Tallies y p t
tallies_to x y p t i l g h = record {
  issued = ap (λ m. times p m) i ∙ h.issued;
  left = ap (λ m. times p m) l ∙ h.left;
  taking = ap (λ m. times p m) g ∙ h.taking;
}

pub orderly_headed : (k : ℕ) (x : Seating) (t : Party) → HeadMay k (headed x t) t → Orderly k x → Orderly k (headed x t)
orderly_headed k x t may o = record {
  head = may;
  tallies = λ p h. tallies_to x (headed x t) p (x.ticket p) refl refl refl (o.tallies p h);
  within = o.within;
}

pub orderly_ticketed : (k : ℕ) (x : Seating) (p : ℕ) (t : Party) → live t ≡ live (x.ticket p) → stale t ≡ stale (x.ticket p)
    → gone t ≡ gone (x.ticket p) → p < k
    → HeadMay k (ticketed x p t) x.head → Orderly k x → Orderly k (ticketed x p t)
orderly_ticketed k x p t l s g below may o = record {
  head = may;
  tallies = changed_all (λ q u. q < k → Tallies (ticketed x p t) q u) x.ticket p t
      (λ h. let a = o.tallies p h in record { issued = a.issued ∙ sym l; left = a.left ∙ sym s; taking = a.taking ∙ sym g })
      (λ q n h. tallies_to x (ticketed x p t) q (x.ticket q) refl refl refl (o.tallies q h));
  within = o.within;
}

-- how the holder stands where the count is above 0 it may also stand later in the round
pub head_later : (k : ℕ) (x y : Seating) (t : Party) → y.left ≡ x.left → y.taking ≡ x.taking → count_at k x ≢ 0 → HeadMay k x t → HeadMay k y t
head_later k x y idle l g positive h = h
head_later k x y kept l g positive h = h
head_later k x y (waits i) l g positive h = tt
head_later k x y (puts i) l g positive h = (l ∙ h.0, g ∙ h.1)
head_later k x y came l g positive h = (l ∙ h.0, g ∙ h.1)
head_later k x y (shut i) l g positive h = absurd (positive h.1)
head_later k x y (out i) l g positive h = absurd (positive h.1)

-- a holder that is not due while another party is has come, and is not the last
pub came_of : (k : ℕ) (x : Seating) (t : Party) → due t ≡ 0 → count_at k x ≢ 0 → HeadMay k x t → t ≡ came
came_of k x idle d positive h = absurd h
came_of k x kept d positive h = absurd h
came_of k x (waits i) d positive h = absurd (omega arith)
came_of k x (puts i) d positive h = absurd (omega arith)
came_of k x came d positive h = refl
came_of k x (shut i) d positive h = absurd (positive h.1)
came_of k x (out i) d positive h = absurd (positive h.1)

-- a move that issues nothing leaves all as orderly as it was
pub orderly_moving : (k : ℕ) (x : Seating) (move : Move) → issued_at (moving x move) ≡ issued_at x → HeadMay k (moving x move) x.head → Orderly k x
    → Orderly k (moving x move)
orderly_moving k x move same may o = record {
  head = may;
  tallies = λ p h. tallies_to x (moving x move) p (x.ticket p) same refl refl (o.tallies p h);
  within = λ p h. (ap (λ m. times p m) same ∙ (o.within p h).0, (o.within p h).1);
}

-- a ticket comes
pub orderly_came : (k : ℕ) (x : Seating) (p : ℕ) → p < k → live came ≡ live (x.ticket p) → stale came ≡ stale (x.ticket p) → gone came ≡ gone (x.ticket p)
    → HeadMay k (moving (ticketed x p came) (Arrive p)) x.head → Orderly k x → Orderly k (moving (ticketed x p came) (Arrive p))
orderly_came k x p below l s g may o =
    let y = moving (ticketed x p came) (Arrive p) in
    record {
      head = may;
      tallies = changed_all (λ q u. q < k → Tallies y q u) x.ticket p came
          (λ h. let a = o.tallies p h in record { issued = a.issued ∙ sym l; left = a.left ∙ sym s; taking = a.taking ∙ sym g })
          (λ q n h. tallies_to x y q (x.ticket q) refl refl refl (o.tallies q h));
      within = o.within;
    }

pub logged_headed : (k : ℕ) (x : Seating) (t : Party) → due t ≡ due x.head → Logged k x → Logged k (headed x t)
logged_headed k x t e l = record {
  legal = l.legal;
  tally = (let a = l.tally in let b : count_at k (headed x t) ≡ count_at k x = ap (λ d. d + dues x.ticket k) e in a ∙ sym b);
  holder = l.holder ∙ sym e;
  tickets = l.tickets;
}

dues_same_at : (k : ℕ) (x : Seating) (p : ℕ) (t : Party) → p < k → due t ≡ due (x.ticket p) → dues (changed x.ticket p t) k ≡ dues x.ticket k
dues_same_at k x p t below e = let a = dues_changed x.ticket p t k below in omega arith

-- a ticket that stays due leaves the holder as it may stand
pub head_stays : (k : ℕ) (x : Seating) (p : ℕ) (t h : Party) → p < k → due t ≡ due (x.ticket p) → HeadMay k x h → HeadMay k (ticketed x p t) h
head_stays k x p t idle below e h = h
head_stays k x p t kept below e h = h
head_stays k x p t (waits i) below e h = tt
head_stays k x p t (puts i) below e h = h
head_stays k x p t came below e h = h
head_stays k x p t (shut i) below e h = (h.0, ap (λ n. due x.head + n) (dues_same_at k x p t below e) ∙ h.1)
head_stays k x p t (out i) below e h = (h.0, ap (λ n. due x.head + n) (dues_same_at k x p t below e) ∙ h.1)

pub logged_ticketed : (k : ℕ) (x : Seating) (p : ℕ) (t : Party) → p < k → due t ≡ due (x.ticket p) → ticket_come t ≡ ticket_come (x.ticket p)
    → Logged k x → Logged k (ticketed x p t)
logged_ticketed k x p t below e c l = record {
  legal = l.legal;
  tally = l.tally ∙ ap (λ n. due x.head + n) (sym (dues_same_at k x p t below e));
  holder = l.holder;
  tickets = changed_all (λ q u. q < k → times q (after x.round x.log).came ≡ ticket_come u) x.ticket p t (λ h. l.tickets p h ∙ sym c) (λ q n h. l.tickets q h);
}

not_parked : {Kept : Type 0} (o : Option Kept) → holder_due o ≡ 1 → o ≡ None
not_parked None h = refl
not_parked (Some _) h = absurd (omega arith)

-- one place more is issued, while the holder has not come
pub logged_issue : (k : ℕ) (x : Seating) (p id : ℕ) → p < k → due x.head ≡ 1 → x.ticket p ≡ idle → times p (issued_at x) ≡ 0 → Logged k x
    → Logged k (moving (ticketed x p (waits id)) (Issue p))
logged_issue k x p id below head free none l =
    let legal : Legal x.round (Issue p ∷ x.log) = (l.legal, (not_parked (after x.round x.log).parked (l.holder ∙ head), none)) in
    let d : due (x.ticket p) ≡ 0 = ap due free in
    let c : ticket_come (x.ticket p) ≡ 0 = ap ticket_come free in
    record {
      legal = legal;
      tally = (let a = issues_add_one x.round p x.log legal in let b = l.tally in let e = dues_changed x.ticket p (waits id) k below in omega arith);
      holder = l.holder;
      tickets = changed_all (λ q u. q < k → times q (after x.round x.log).came ≡ ticket_come u) x.ticket p (waits id) (λ h. l.tickets p h ∙ c)
          (λ q n h. l.tickets q h);
    }

-- the holder comes
pub logged_park : (k : ℕ) (x : Seating) (t : Party) → due x.head ≡ 1 → due t ≡ 0 → Logged k x → Logged k (moving (headed x t) Park)
logged_park k x t head e l =
    let legal : Legal x.round (Park ∷ x.log) = (l.legal, not_parked (after x.round x.log).parked (l.holder ∙ head)) in
    record {
      legal = legal;
      tally = (let a = arrivals_take_one.0 x.round x.log legal in let b = l.tally in omega arith);
      holder = sym e;
      tickets = l.tickets;
    }

-- a ticket comes
pub logged_arrive : (k : ℕ) (x : Seating) (p : ℕ) → p < k → due (x.ticket p) ≡ 1 → ticket_come (x.ticket p) ≡ 0 → times p (issued_at x) ≡ 1 → Logged k x
    → Logged k (moving (ticketed x p came) (Arrive p))
logged_arrive k x p below d c once l =
    let new : times p (after x.round x.log).came ≡ 0 = l.tickets p below ∙ c in
    let legal : Legal x.round (Arrive p ∷ x.log) = (l.legal, (once, new)) in
    record {
      legal = legal;
      tally = (let a = arrivals_take_one.1 x.round p x.log legal in let b = l.tally in let e = dues_changed x.ticket p came k below in omega arith);
      holder = l.holder;
      tickets = changed_all (λ q u. q < k → times q (after x.round (Arrive p ∷ x.log)).came ≡ ticket_come u) x.ticket p came
          (λ h. let a : one (p == p) ≡ 1 = one_same p p refl in omega arith)
          (λ q n h. let a : one (p == q) ≡ 0 = one_else p q (λ e. n (sym e)) in let b = l.tickets q h in omega arith);
    }

-- no seat but this one has the party
abbrev pub NotOthers : ℕ → Party → Type 0
NotOthers id t = (i : ℕ) → i ≢ id → owner t ≢ Some i

some_same : (i j : ℕ) → let a : Option ℕ = Some i in a ≡ Some j → i ≡ j
some_same i j e = cc

pub mine_waits : (id : ℕ) (t : Party) → t ≡ waits id → NotOthers id t
mine_waits id t e i n o = n (some_same i id (sym o ∙ ap owner e))

pub mine_puts : (id : ℕ) (t : Party) → t ≡ puts id → NotOthers id t
mine_puts id t e i n o = n (some_same i id (sym o ∙ ap owner e))

pub mine_shut : (id : ℕ) (t : Party) → t ≡ shut id → NotOthers id t
mine_shut id t e i n o = n (some_same i id (sym o ∙ ap owner e))

pub mine_out : (id : ℕ) (t : Party) → t ≡ out id → NotOthers id t
mine_out id t e i n o = n (some_same i id (sym o ∙ ap owner e))

none_some : (i : ℕ) → let a : Option ℕ = None in a ≢ Some i
none_some i e = absurd (cc)

pub none_idle : (id : ℕ) (t : Party) → t ≡ idle → NotOthers id t
none_idle id t e i n o = none_some i (sym (ap owner e) ∙ o)

pub none_kept : (id : ℕ) (t : Party) → t ≡ kept → NotOthers id t
none_kept id t e i n o = none_some i (sym (ap owner e) ∙ o)

pub none_came : (id : ℕ) (t : Party) → t ≡ came → NotOthers id t
none_came id t e i n o = none_some i (sym (ap owner e) ∙ o)

pub past_more : (x : Seating) (move : Move) (t : Trace) → HasCome x t → HasCome (moving x move) t
past_more x move t h = ⊎_elim (λ over. inl over) (λ on. inr (on.0, (move ∷ on.1.0, ap (λ l. move ∷ l) on.1.1))) h

-- what others know stays where only the head of this seat's changes, ..
pub spares_headed : (id k : ℕ) (x : Seating) (t : Party) → NotOthers id x.head → Spares id k x (headed x t)
spares_headed id k x t own = record {
  head = λ i n o. absurd (own i n o);
  ticket = λ i p n h o. record { hall = refl; round = refl; ticket = refl };
  past = λ u h. h;
}

-- .. or only the ticket, ..
pub spares_ticketed : (id k : ℕ) (x : Seating) (p : ℕ) (t : Party) → NotOthers id (x.ticket p) → Spares id k x (ticketed x p t)
spares_ticketed id k x p t own = record {
  head = λ i n o. record { hall = refl; round = refl; issued = refl; left = refl; taking = refl; head = refl };
  ticket = λ i q n h o. dite (ℕ_discrete q p)
      (λ e. absurd (own i n (ap (λ r. owner (x.ticket r)) (sym e) ∙ o)))
      (λ ne. record { hall = refl; round = refl; ticket = changed-else x.ticket p q t ne });
  past = λ u h. h;
}

-- .. or the log, by a move that issues nothing or of a meeting whose holder is this seat's
pub spares_moving : (id k : ℕ) (x : Seating) (move : Move) → (issued_at (moving x move) ≡ issued_at x) ⊎ NotOthers id x.head → Spares id k x (moving x move)
spares_moving id k x move why = record {
  head = λ i n o. ⊎_elim
      (λ same. record { hall = refl; round = refl; issued = same; left = refl; taking = refl; head = refl })
      (λ own. absurd (own i n o))
      why;
  ticket = λ i p n h o. record { hall = refl; round = refl; ticket = refl };
  past = λ u h. past_more x move u h;
}

pub spares_trans : (id k : ℕ) (x y z : Seating) → Spares id k x y → Spares id k y z → Spares id k x z
spares_trans id k x y z a b = record {
  head = λ i n o.
      let f = a.head i n o in
      let g = b.head i n (ap owner f.head ∙ o) in
      record {
        hall = g.hall ∙ f.hall;
        round = g.round ∙ f.round;
        issued = g.issued ∙ f.issued;
        left = g.left ∙ f.left;
        taking = g.taking
            ∙ f.taking;
        head = g.head ∙ f.head;
      };
  ticket = λ i p n h o.
      let f = a.ticket i p n h o in
      let g = b.ticket i p n h (ap owner f.ticket ∙ o) in
      record { hall = g.hall ∙ f.hall; round = g.round ∙ f.round; ticket = g.ticket ∙ f.ticket };
  past = λ u h. b.past u (a.past u h);
}
