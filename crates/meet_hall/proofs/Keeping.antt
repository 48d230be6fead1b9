-- How a step of one seat at one meeting keeps the rule of the whole hall.
use Rattle.std.proofs.Common.{◌≡◌, ℕ, suc, ◌+◌, ◌<◌, ◌≤◌, ◌≢◌, ◌⊎◌, inl, inr, ⊎_elim, List, [], ◌∷◌, ◌++◌, length, set, sym, refl, ap, ◌∙◌, subst}
use Rattle.std.proofs.Common.{arith, slice_index}
use Rattle.std.specs.Prelude.{Option, Some}
use mathlib.Core.Option.{some, none}
use mathlib.Core.Option.{Option as Maybe}
use lib.ListN.{get_elem?}
use Rattle.atomic_table.specs.Table.{State}
use Rattle.atomic_table.specs.Seated.{TableId}
use Rattle.atomic_table.proofs.Lists.{at_set, set_else}
use Rattle.meetings.specs.declared.moves.Move.{Move}
use Rattle.meet_hall.specs.declared.slot.Slot.{Slot}
use Rattle.meet_hall.specs.declared.slot.Slot.TheVariants.{Empty, Record, Note}
use Rattle.meet_hall.specs.declared.view.Desk.{Desk}
use Rattle.meet_hall.specs.declared.view.Chit.{Chit}
use Rattle.meet_hall.specs.declared.view.Trace.{Trace}
use Rattle.meet_hall.specs.declared.view.View.{View}
use Rattle.meet_hall.specs.declared.view.View.TheVariants.{Builds, Holds, Issues, Takes, Parks, Lasts, Ends, Comes, Puts, Gone}
use Rattle.meet_hall.specs.Parties.{Party, idle, kept, waits, puts, came, shut, out, owner}
use Rattle.meet_hall.specs.Seatings.{Seating, issued_at, word_at, changed, Orderly, Logged}
use Rattle.meet_hall.specs.Rule.{Stands, IsRecord, IsNote, Sits, Bears, IsFresh, HasCome, IsLaidOut, IsDesk, IsChit, Agrees, RecordStands, NoteStands, KeptBy}
use Rattle.meet_hall.proofs.Changes.{changed_all, changed_keeps, at_end, Words}

-- what stands in a slot stands there by any name of the party and the slot
pub stands_to : {S : Type 0} (nothing : S) (Has : S → Type 0) (t t' : Party) (o o' : Maybe (Maybe S)) → t' ≡ t → o' ≡ o → Stands nothing Has t o
    → Stands nothing Has t' o'
stands_to nothing Has t t' o o' e f h = subst (λ p. Stands nothing Has p o') (sym e) (subst (λ q. Stands nothing Has t q) (sym f) h)

-- the holder's part of a meeting is as before
pub record SameHead (x y : Seating) : Type 0 where
  pub hall : y.hall ≡ x.hall
  pub round : y.round ≡ x.round
  pub issued : issued_at y ≡ issued_at x
  pub left : y.left ≡ x.left
  pub taking : y.taking ≡ x.taking
  pub head : y.head ≡ x.head

-- one ticket of a meeting is as before
pub record SameTicket (x y : Seating) (p : ℕ) : Type 0 where
  pub hall : y.hall ≡ x.hall
  pub round : y.round ≡ x.round
  pub ticket : y.ticket p ≡ x.ticket p

-- the meeting x of so many places becomes y by the seat id, and what other seats know of it stays true
pub record Spares (id places : ℕ) (x y : Seating) : Type 0 where
  pub head : (i : ℕ) → i ≢ id → owner x.head ≡ Some i → SameHead x y
  pub ticket : (i p : ℕ) → i ≢ id → p < places → owner (x.ticket p) ≡ Some i → SameTicket x y p
  pub past : (t : Trace) → HasCome x t → HasCome y t

sits_else : (x y : Seating) (t : Party) (noted : List ℕ) (d : Desk) → SameHead x y → Sits x t noted d → Sits y t noted d
sits_else x y t noted d same sits = record {
  hall = same.hall ∙ sits.hall;
  round = same.round ∙ sits.round;
  issued = same.issued ∙ sits.issued;
  left = same.left ∙ sits.left;
  taking = same.taking ∙ sits.taking;
  head = same.head ∙ sits.head;
}

bears_else : (x y : Seating) (t : Party) (c : Chit) → SameTicket x y c.place → Bears x t c → Bears y t c
bears_else x y t c same bears = record {
  hall = same.hall ∙ bears.hall;
  round = same.round ∙ bears.round;
  ticket = same.ticket ∙ bears.ticket;
}

fresh_else : (x y : Seating) (t : Party) → SameHead x y → IsFresh x t → IsFresh y t
fresh_else x y t same fresh = record {
  round = same.round ∙ fresh.round;
  issued = same.issued ∙ fresh.issued;
  left = same.left ∙ fresh.left;
  taking = same.taking ∙ fresh.taking;
  head = same.head ∙ fresh.head;
}

-- the slot k lies at the meeting m
pub record LiesAt (base places : ℕ → ℕ) (m k : ℕ) : Type 0 where
  pub from : base m ≤ k
  pub to : k ≤ base m + places m

-- no slot lies at two meetings
abbrev pub Apart : ℕ → (ℕ → ℕ) → (ℕ → ℕ) → Type 0
Apart n base places = (i j k : ℕ) → i < n → j < n → LiesAt base places i k → LiesAt base places j k → i ≡ j

module _ (n : ℕ) (base places : ℕ → ℕ) where
  sits_on : (ms : ℕ → Seating) (m : ℕ) (y : Seating) (id i : ℕ) (t : Party) (noted : List ℕ) (d : Desk)
      → Spares id (places m) (ms m) y → i ≢ id → owner t ≡ Some i → Sits (ms d.meeting) t noted d → Sits (changed ms m y d.meeting) t noted d
  sits_on ms m y id i t noted d spares ne own sits =
      changed_keeps (λ x. Sits x t noted d) ms m d.meeting y
      (λ h. sits_else (ms m) y t noted d (spares.head i ne (ap owner h.head ∙ own)) h) sits

  bears_on : (ms : ℕ → Seating) (m : ℕ) (y : Seating) (id i : ℕ) (t : Party) (c : Chit)
      → Spares id (places m) (ms m) y → i ≢ id → owner t ≡ Some i → IsChit n base places c → Bears (ms c.meeting) t c → Bears (changed ms m y c.meeting) t c
  bears_on ms m y id i t c spares ne own chit bears = (changed_all
      (λ j x. j ≡ c.meeting → Bears (ms j) t c → Bears x t c) ms m y
      (λ e h.
      let size : c.places ≡ places m = chit.0.size ∙ ap places (sym e) in
      bears_else (ms m) y t c (spares.ticket i c.place ne (subst (λ k. c.place < k) size chit.1) (ap owner h.ticket ∙ own)) h)
      (λ j _ e h. h) c.meeting) refl bears

  -- the ticket of a place that the holder has out, or has not given a seat yet
  ticket_on : (ms : ℕ → Seating) (m : ℕ) (y : Seating) (id i : ℕ) (t : Party) (d : Desk) (p : ℕ)
      → Spares id (places m) (ms m) y → i ≢ id → owner t ≡ Some i → IsDesk n base places d → p < d.places
      → (ms d.meeting).ticket p ≡ t → (changed ms m y d.meeting).ticket p ≡ t
  ticket_on ms m y id i t d p spares ne own desk within at = (changed_all
      (λ j x. j ≡ d.meeting → (ms j).ticket p ≡ t → x.ticket p ≡ t) ms m y
      (λ e h.
      let size : d.places ≡ places m = desk.size ∙ ap places (sym e) in
      (spares.ticket i p ne (subst (λ k. p < k) size within) (ap owner h ∙ own)).ticket ∙ h)
      (λ j _ e h. h) d.meeting) refl at

  -- what another seat knows stays true
  pub agrees_else : (ms : ℕ → Seating) (m : ℕ) (y : Seating) (id i : ℕ) (v : View)
      → Spares id (places m) (ms m) y → i ≢ id → Agrees n base places ms i v → Agrees n base places (changed ms m y) i v
  agrees_else ms m y id i (Builds b) spares ne h = λ j from below.
      changed_keeps (λ x. IsFresh x (waits i)) ms m j y (λ f. fresh_else (ms m) y (waits i) (spares.head i ne (ap owner f.head)) f) (h j from below)
  agrees_else ms m y id i (Holds d) spares ne h = (h.0, sits_on ms m y id i (waits i) [] d spares ne refl h.1)
  agrees_else ms m y id i (Issues d p) spares ne h =
      (h.0, sits_on ms m y id i (waits i) [] d spares ne refl h.1, h.2, ticket_on ms m y id i (waits i) d p spares ne refl h.0 h.2 h.3)
  agrees_else ms m y id i (Takes d p) spares ne h =
      (h.0, sits_on ms m y id i (waits i) (p ∷ []) d spares ne refl h.1, h.2, ticket_on ms m y id i (out i) d p spares ne refl h.0 h.2 h.3)
  agrees_else ms m y id i (Parks d) spares ne h = (h.0, sits_on ms m y id i (puts i) [] d spares ne refl h.1)
  agrees_else ms m y id i (Lasts d) spares ne h = (h.0, sits_on ms m y id i (shut i) [] d spares ne refl h.1)
  agrees_else ms m y id i (Ends d) spares ne h = (h.0, sits_on ms m y id i (out i) [] d spares ne refl h.1)
  agrees_else ms m y id i (Comes c) spares ne h = (h.0, bears_on ms m y id i (waits i) c spares ne refl h.0 h.1)
  agrees_else ms m y id i (Puts c) spares ne h = (h.0, bears_on ms m y id i (puts i) c spares ne refl h.0 h.1)
  agrees_else ms m y id i (Gone t) spares ne h = changed_keeps (λ x. HasCome x t) ms m t.meeting y (spares.past t) h

  -- after a step of the seat id
  pub views_set : (ms : ℕ → Seating) (m : ℕ) (y : Seating) (id : ℕ) (w : View) (views : List View)
      → Spares id (places m) (ms m) y → Agrees n base places (changed ms m y) id w
      → ((i : ℕ) (v : View) → get_elem? views i ≡ some v → Agrees n base places ms i v)
      → (i : ℕ) (v : View) → get_elem? (set views id w) i ≡ some v → Agrees n base places (changed ms m y) i v
  views_set ms m y id w views spares own agree i v at = ⊎_elim
      (λ h. subst (λ j. Agrees n base places (changed ms m y) j v) (sym h.0) (subst (λ u. Agrees n base places (changed ms m y) id u) h.1 own))
      (λ h. agrees_else ms m y id i v spares h.0 (agree i v h.1))
      (at_set views id i w v at)

  -- and with a new seat beside it
  pub views_grown : (ms : ℕ → Seating) (m : ℕ) (y : Seating) (id : ℕ) (w new : View) (views : List View)
      → Spares id (places m) (ms m) y → Agrees n base places (changed ms m y) id w
      → Agrees n base places (changed ms m y) (length (set views id w)) new
      → ((i : ℕ) (v : View) → get_elem? views i ≡ some v → Agrees n base places ms i v)
      → (i : ℕ) (v : View) → get_elem? (set views id w ++ new ∷ []) i ≡ some v → Agrees n base places (changed ms m y) i v
  views_grown ms m y id w new views spares own young agree i v at = ⊎_elim
      (λ h. views_set ms m y id w views spares own agree i v h)
      (λ h. subst (λ j. Agrees n base places (changed ms m y) j v) (sym h.0)
      (subst (λ u. Agrees n base places (changed ms m y) (length (set views id w)) u) h.1 young))
      (at_end (set views id w) new v i at)

  module _ {R N : Type 0} (fits_r : R → TableId → ℕ → List ℕ → Type 0) (fits_n : N → TableId → ℕ → List ℕ → Type 0) (apart : Apart n base places) where
    -- The meeting m becomes y, its word becomes the word of y, and of the slots only the slot k of this meeting changes
    pub kept_core : (ms : ℕ → Seating) (s : State (Slot R N) View) (m : ℕ) (y : Seating) (words : List ℕ) (homes : List (Maybe (Slot R N)))
        (views : List View) (k : ℕ)
        → KeptBy n base places fits_r fits_n ms s → m < n → Words m (word_at (places m) y) s.words words
        → LiesAt base places m k → ((i : ℕ) → i ≢ k → get_elem? homes i ≡ get_elem? s.homes i)
        → RecordStands n base places fits_r fits_n m y homes
        → ((p : ℕ) → p < places m → NoteStands n base places fits_r fits_n m y homes p)
        → Orderly (places m) y → Logged (places m) y
        → ((i : ℕ) (v : View) → get_elem? views i ≡ some v → Agrees n base places (changed ms m y) i v)
        → KeptBy n base places fits_r fits_n (changed ms m y) (record { words = words; homes = homes; views = views })
    kept_core ms s m y words homes views k before below now lies rest record_now notes_now orderly logged agree = record {
      width = now.width ∙ before.width;
      words = changed_all (λ j x. j < n → slice_index words j ≡ word_at (places j) x) ms m y (λ _. now.here) (λ j ne h. now.others j ne ∙ before.words j h);
      records = changed_all (λ j x. j < n → RecordStands n base places fits_r fits_n j x homes) ms m y (λ _. record_now)
          (λ j ne h. stands_to Empty _ _ _ _ _ refl
          (rest (base j) (λ e. ne (apart j m k h below (record { from = omega arith; to = omega arith }) lies))) (before.records j h));
      notes = λ j p. (changed_all (λ i x. i < n → p < places i → NoteStands n base places fits_r fits_n i x homes p) ms m y (λ _. notes_now p)
          (λ i ne h q. stands_to Empty _ _ _ _ _ refl
          (rest (base i + suc p) (λ e. ne (apart i m k h below (record { from = omega arith; to = omega arith }) lies))) (before.notes i p h q)) j);
      orderly = changed_all (λ j x. j < n → Orderly (places j) x) ms m y (λ _. orderly) (λ j ne h. before.orderly j h);
      logged = changed_all (λ j x. j < n → Logged (places j) x) ms m y (λ _. logged) (λ j ne h. before.logged j h);
      agree = agree;
    }
