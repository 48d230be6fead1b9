-- A new hall keeps the rule, and its slots are few enough.
use Rattle.std.proofs.Common.{◌≡◌, ℕ, suc, zero, ◌+◌, ◌*◌, ◌%◌, ◌^◌, ◌<◌, ◌≤◌, List, [], ◌∷◌, ◌++◌, length, map, replicate, slice_index, sym, refl}
use Rattle.std.proofs.Common.{ap, ◌∙◌, subst, arith}
use mathlib.Core.Option.{some, none}
use mathlib.Core.Option.{Option as Maybe}
use lib.ListN.{get_elem?}
use Rattle.atomic_table.specs.Table.{State, opening}
use Rattle.atomic_table.specs.Seated.{TableId}
use Rattle.atomic_table.proofs.Lists.{at_snoc}
use mathlib.Core.Option.{some-injective, some-ne-none}
use Rattle.meet_hall.specs.declared.slot.Slot.{Slot}
use Rattle.meet_hall.specs.declared.slot.Slot.TheVariants.{Empty, Record, Note}
use Rattle.meet_hall.specs.declared.view.View.{View}
use Rattle.meet_hall.specs.declared.view.View.TheVariants.{Builds}
use Rattle.meet_hall.specs.Parties.{Party, idle, waits, due, dues}
use Rattle.meet_hall.specs.Plan.{start_of, IsNarrow}
use Rattle.meet_hall.specs.Seatings.{Seating, word_at, Orderly, Logged}
use Rattle.meet_hall.specs.Views.{no_hall}
use Rattle.meet_hall.specs.Rule.{IsFresh, Agrees, KeptBy, Kept}
use Rattle.meet_hall.proofs.PlanLemmas.{start_more, start_zero, start_most, later}

length-replicate : {A : Type 0} (n : ℕ) (a : A) → length (replicate n a) ≡ n
length-replicate zero a = refl
length-replicate (suc n) a = let e = length-replicate n a in omega arith

ones : (n m : ℕ) → m < n → slice_index (replicate n 1) m ≡ 1
ones zero m h = absurd (omega arith)
ones (suc n) zero h = refl
ones (suc n) (suc m) h = ones n m (omega arith)

empties : {A : Type 0} (n k : ℕ) (a : A) → k < n → get_elem? (map some (replicate n a)) k ≡ some (some a)
empties zero k a h = absurd (omega arith)
empties (suc n) zero a h = refl
empties (suc n) (suc k) a h = empties n k a (omega arith)

no_dues : (n : ℕ) → dues (λ _. idle) n ≡ 0
no_dues zero = refl
no_dues (suc n) = let e = no_dues n in omega arith

-- every meeting of a new hall
abbrev fresh : Seating
fresh = record { hall = no_hall; round = 0; left = []; taking = []; head = waits 0; ticket = λ _. idle; log = [] }

first_agrees : (n : ℕ) (base places : ℕ → ℕ) (i : ℕ) (v : View) → get_elem? (Builds 0 ∷ []) i ≡ some v → Agrees n base places (λ _. fresh) i v
first_agrees n base places zero v e = subst (λ u. Agrees n base places (λ _. fresh) 0 u) (some-injective (Builds 0) v e)
    (λ m from below. record { round = refl; issued = refl; left = refl; taking = refl; head = refl })
first_agrees n base places (suc i) v e = absurd (some-ne-none v (sym e))

pub first_state : {R N : Type 0} (fits_r : R → TableId → ℕ → List ℕ → Type 0) (fits_n : N → TableId → ℕ → List ℕ → Type 0) (plan : List ℕ)
    → Kept fits_r fits_n (length plan) (start_of plan) (slice_index plan)
    (opening (replicate (length plan) 1) (replicate (start_of plan (length plan)) Empty) (Builds 0))
first_state {R} {N} fits_r fits_n plan =
    let n = length plan in
    let one_party : (m : ℕ) → word_at (slice_index plan m) fresh ≡ 1 = (λ m. let e = no_dues (slice_index plan m) in omega arith) in (
      (λ _. fresh),
      record {
        width = length-replicate n 1;
        words = λ m h. ones n m h ∙ sym (one_party m);
        records = λ m h. let a = later plan m n h (omega arith) in empties (start_of plan n) (start_of plan m) Empty (omega arith);
        notes = λ m p h q. let a = later plan m n h (omega arith) in empties (start_of plan n) (start_of plan m + suc p) Empty (omega arith);
        orderly = λ m h. record { head = tt; tallies = λ p q. record { issued = refl; left = refl; taking = refl }; within = λ p q. (refl, refl) };
        logged = λ m h. record { legal = tt; tally = (let e = no_dues (slice_index plan m) in omega arith); holder = refl; tickets = λ p q. refl };
        agree = first_agrees n (start_of plan) (slice_index plan);
      },
    )

-- the same, with the parts by equations
pub first_state_as : {R N : Type 0} (fits_r : R → TableId → ℕ → List ℕ → Type 0) (fits_n : N → TableId → ℕ → List ℕ → Type 0)
    (plan keys words : List ℕ) (slots : List (Slot R N))
    → keys ≡ plan → words ≡ replicate (length plan) 1 → slots ≡ replicate (start_of plan (length plan)) Empty
    → Kept fits_r fits_n (length keys) (start_of keys) (slice_index keys) (opening words slots (Builds 0))
first_state_as fits_r fits_n plan keys words slots k w s =
    subst (λ l. Kept fits_r fits_n (length l) (start_of l) (slice_index l) (opening words slots (Builds 0))) (sym k)
    (subst (λ v. Kept fits_r fits_n (length plan) (start_of plan) (slice_index plan) (opening v slots (Builds 0))) (sym w)
    (subst (λ u. Kept fits_r fits_n (length plan) (start_of plan) (slice_index plan) (opening (replicate (length plan) 1) u (Builds 0))) (sym s)
    (first_state fits_r fits_n plan)))
