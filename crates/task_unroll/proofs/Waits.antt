-- The handles that a wait names: they are open, each is named once, and they are null afterwards.
use Rattle.std.proofs.Common.{◌≡◌, ◌≢◌, ℕ, zero, suc, ◌+◌, ◌<◌, ◌≤◌, Bool, true, false, ◌⊎◌, List, [], ◌∷◌, ◌++◌, length, get_or, Option, Some, None}
use Rattle.std.proofs.Common.{Result, Ok, Err, refl, sym, ap, ◌∙◌, subst, inl, inr, arith}
use Rattle.std.specs.Prelude.{Contains, All, AllPairs, nat_eq, ◌||◌, ⊤}
use Rattle.std.specs.List.{list_any}
use Rattle.std.specs.Str.{bytes_eq}
use Rattle.std.proofs.lemmas.Bool.Decides.{nat_tests}
use Rattle.std.proofs.lemmas.List.Elements.{All-cons, All-nil}
use Rattle.rt_base.specs.declared.data.Handle.{Handle}
use Rattle.rt_base.specs.declared.data.Handle.TheVariants as handle
use Rattle.rt_base.specs.declared.data.Op.{Op}
use Rattle.rt_base.specs.InUse.{is_nth, left_after, names_request}
use Rattle.rt_base.specs.WellFormed.{IsOpen, NamesOther}
use Rattle.task_names.specs.declared.meaning.Meaning.{Meaning}
use Rattle.task_names.specs.declared.meaning.Meaning.TheVariants as meaning
use Rattle.task_names.specs.Scopes.{Names, meaning_of, with_meaning, as_handle}
use Rattle.task_unroll.specs.States.{State}
use Rattle.task_unroll.specs.Operands.{handles_of}
use Rattle.task_unroll.specs.Checks.{stands_twice}
use Rattle.task_unroll.specs.Acts.{with_idle}
use Rattle.task_unroll.proofs.Results.{Holds, bind, bind_by}
use Rattle.task_unroll.proofs.Cells.{both_false}
use Rattle.task_unroll.proofs.Bodies.{left_stays}
use Rattle.task_unroll.proofs.Meanings.{AllMean, NamedOnce, new_or_old, bytes_same}
use Rattle.task_unroll.proofs.Sound.{IsFit, HasNames}

-- what a handle's name means
pub handle_is : (o : Option Meaning) (h : Handle) → as_handle o ≡ Ok h → (h ≡ handle.Null) ⊎ ((n : ℕ) × (h ≡ handle.Nth n) × (o ≡ Some (meaning.Posted n)))
handle_is None h is = absurd (cc)
handle_is (Some (meaning.Variable value)) h is = absurd (cc)
handle_is (Some (meaning.Array number)) h is = absurd (cc)
handle_is (Some (meaning.Communicator number)) h is = absurd (cc)
handle_is (Some (meaning.Posted n)) h is = inr (n, (cc), refl)
handle_is (Some meaning.Idle) h is = inl (cc)

-- each name means its handle
abbrev pub Mean : Names → List (List ℕ) → List Handle → Type 0
Mean names [] [] = ⊤
Mean names [] (h ∷ hs) = ⊥
Mean names (w ∷ ws) [] = ⊥
Mean names (w ∷ ws) (h ∷ hs) = (as_handle (meaning_of names w) ≡ Ok h) × Mean names ws hs

pub handles_mean : (s : State) (ws : List (List ℕ)) → Holds (Mean s.names ws) (handles_of s ws)
handles_mean s [] = tt
handles_mean s (w ∷ ws) = bind (Mean s.names (w ∷ ws)) (as_handle (meaning_of s.names w)) _ (λ h h_is.
    bind_by (Mean s.names ws) (Mean s.names (w ∷ ws)) (handles_of s ws) _ (handles_mean s ws) (λ hs rest. (h_is, rest)))

pub as_many : (names : Names) (ws : List (List ℕ)) (hs : List Handle) → Mean names ws hs → length ws ≡ length hs
as_many names [] [] means = refl
as_many names [] (h ∷ hs) means = absurd means
as_many names (w ∷ ws) [] means = absurd means
as_many names (w ∷ ws) (h ∷ hs) means = ap suc (as_many names ws hs means.1)

open_one : (arrays comms : ℕ) (names : Names) (body : List Op) (w : List ℕ) (h : Handle) → AllMean (IsFit arrays comms body) names
    → as_handle (meaning_of names w) ≡ Ok h → IsOpen body h
open_one arrays comms names body w h fit is = elim (handle_is (meaning_of names w) h is) [
  | inl null ↦ subst (IsOpen body) (sym null) tt
  | inr nth ↦ subst (IsOpen body) (sym nth.1) (fit w (meaning.Posted nth.0) nth.2)
]

pub all_open : (arrays comms : ℕ) (names : Names) (body : List Op) (ws : List (List ℕ)) (hs : List Handle) → AllMean (IsFit arrays comms body) names
    → Mean names ws hs → All (IsOpen body) hs
all_open arrays comms names body [] [] fit means = All-nil (IsOpen body)
all_open arrays comms names body [] (h ∷ hs) fit means = absurd means
all_open arrays comms names body (w ∷ ws) [] fit means = absurd means
all_open arrays comms names body (w ∷ ws) (h ∷ hs) fit means =
    All-cons (IsOpen body) h hs (open_one arrays comms names body w h fit means.0) (all_open arrays comms names body ws hs fit means.1)

all_pairs_cons : {X : Type 0} (R : X → X → Type 0) (x : X) (xs : List X) → All (R x) xs → AllPairs R xs → AllPairs R (x ∷ xs)
all_pairs_cons R x xs first rest zero zero d low high = absurd (omega arith)
all_pairs_cons R x xs first rest zero (suc j) d low high = first j d (omega arith)
all_pairs_cons R x xs first rest (suc i) zero d low high = absurd (omega arith)
all_pairs_cons R x xs first rest (suc i) (suc j) d low high = rest i j d (omega arith) (omega arith)

-- two names that differ mean no one request
differ : (names : Names) (w v : List ℕ) (n m : ℕ) → NamedOnce names → bytes_eq w v ≡ false → meaning_of names w ≡ Some (meaning.Posted n)
    → meaning_of names v ≡ Some (meaning.Posted m) → n ≢ m
differ names w v n m once apart is also same =
    let one = once w v n is (also ∙ ap (λ (k : ℕ). Some (meaning.Posted k)) (sym same)) in
    let equal = subst (λ (u : List ℕ). bytes_eq w u ≡ true) one (bytes_same w) in
    absurd (cc)

other_handle : (names : Names) (w v : List ℕ) (h k : Handle) → NamedOnce names → bytes_eq w v ≡ false → as_handle (meaning_of names w) ≡ Ok h
    → as_handle (meaning_of names v) ≡ Ok k → NamesOther h k
other_handle names w v handle.Null k once apart is also = tt
other_handle names w v (handle.Nth n) handle.Null once apart is also = tt
other_handle names w v (handle.Nth n) (handle.Nth m) once apart is also = elim (handle_is (meaning_of names w) (handle.Nth n) is) [
  | inl null ↦ absurd (cc)
  | inr one ↦ elim (handle_is (meaning_of names v) (handle.Nth m) also) [
    | inl null ↦ absurd (cc)
    | inr two ↦
        let first : n ≡ one.0 = (let e = one.1 in cc) in
        let second : m ≡ two.0 = (let e = two.1 in cc) in
        λ same. differ names w v one.0 two.0 once apart one.2 two.2 (sym first ∙ same ∙ second)
  ]
]

others : (names : Names) (w : List ℕ) (h : Handle) (vs : List (List ℕ)) (ks : List Handle) → NamedOnce names → list_any (bytes_eq w) vs ≡ false
    → as_handle (meaning_of names w) ≡ Ok h → Mean names vs ks
    → All (NamesOther h) ks
others names w h [] [] once apart is means = All-nil (NamesOther h)
others names w h [] (k ∷ ks) once apart is means = absurd means
others names w h (v ∷ vs) [] once apart is means = absurd means
others names w h (v ∷ vs) (k ∷ ks) once apart is means =
    let both = both_false (bytes_eq w v) (list_any (bytes_eq w) vs) apart in
    All-cons (NamesOther h) k ks (other_handle names w v h k once both.0 is means.0) (others names w h vs ks once both.1 is means.1)

-- names that differ name different requests
pub all_other : (names : Names) (ws : List (List ℕ)) (hs : List Handle) → NamedOnce names → stands_twice ws ≡ false → Mean names ws hs → AllPairs NamesOther hs
all_other names [] [] once apart means = λ i j d low high. absurd (omega arith)
all_other names [] (h ∷ hs) once apart means = absurd means
all_other names (w ∷ ws) [] once apart means = absurd means
all_other names (w ∷ ws) (h ∷ hs) once apart means =
    let both = both_false (list_any (bytes_eq w) ws) (stands_twice ws) apart in
    all_pairs_cons NamesOther h hs (others names w h ws hs once both.0 means.0 means.1) (all_other names ws hs once both.1 means.1)

-- what a name means after a wait: it is null, or the wait didn't name it
idle_or_old : (ws : List (List ℕ)) (names : Names) (v : List ℕ) (m : Meaning) → meaning_of (with_idle ws names) v ≡ Some m
    → (m ≡ meaning.Idle) ⊎ ((list_any (bytes_eq v) ws ≡ false) × (meaning_of names v ≡ Some m))
idle_or_old [] names v m is = inr (refl, is)
idle_or_old (w ∷ ws) names v m is = elim (idle_or_old ws (with_meaning names w meaning.Idle) v m is) [
  | inl idle ↦ inl idle
  | inr old ↦ elim (new_or_old names w v meaning.Idle m old.1) [
    | inl new ↦ inl (sym new.1)
    | inr older ↦ inr (ap (λ (b : Bool). b || list_any (bytes_eq v) ws) older.0 ∙ old.0, older.1)
  ]
]

-- a request whose name the wait doesn't name
not_named : (names : Names) (v : List ℕ) (n : ℕ) (ws : List (List ℕ)) (hs : List Handle) → NamedOnce names → meaning_of names v ≡ Some (meaning.Posted n)
    → list_any (bytes_eq v) ws ≡ false → Mean names ws hs
    → list_any (is_nth n) hs ≡ false
not_named names v n [] [] once is apart means = refl
not_named names v n [] (h ∷ hs) once is apart means = absurd means
not_named names v n (w ∷ ws) [] once is apart means = absurd means
not_named names v n (w ∷ ws) (h ∷ hs) once is apart means =
    let both = both_false (bytes_eq v w) (list_any (bytes_eq v) ws) apart in
    let first : is_nth n h ≡ false = elim (handle_is (meaning_of names w) h means.0) [
      | inl null ↦ ap (is_nth n) null
      | inr nth ↦ ap (is_nth n) nth.1 ∙ other nth.0 (differ names v w n nth.0 once both.0 is nth.2)
    ] in
    ap (λ (b : Bool). b || list_any (is_nth n) hs) first ∙ not_named names v n ws hs once is both.1 means.1
  where
    other : (k : ℕ) → n ≢ k → nat_eq k n ≡ false
    other k apart = grind (arith, nat_tests)

idle_fit : (arrays comms : ℕ) (body after : List Op) (ws : List (List ℕ)) (names : Names) (v : List ℕ) (m : Meaning)
    → ((n : ℕ) → meaning_of names v ≡ Some (meaning.Posted n) → list_any (bytes_eq v) ws ≡ false → Contains (left_after 0 body) n
    → Contains (left_after 0 after) n)
    → list_any (bytes_eq v) ws ≡ false → meaning_of names v ≡ Some m → IsFit arrays comms body m → IsFit arrays comms after m
idle_fit arrays comms body after ws names v (meaning.Variable value) turns apart is fit = tt
idle_fit arrays comms body after ws names v (meaning.Array number) turns apart is fit = fit
idle_fit arrays comms body after ws names v (meaning.Communicator number) turns apart is fit = fit
idle_fit arrays comms body after ws names v (meaning.Posted n) turns apart is fit = turns n is apart fit
idle_fit arrays comms body after ws names v meaning.Idle turns apart is fit = tt

-- the names after a wait
pub names_idle : (arrays comms : ℕ) (names : Names) (body : List Op) (ws : List (List ℕ)) (hs : List Handle) (wait : Op)
    → ((n : ℕ) → list_any (is_nth n) hs ≡ false → names_request n wait ≡ false)
    → Mean names ws hs → HasNames arrays comms names body → HasNames arrays comms (with_idle ws names) (body ++ wait ∷ [])
names_idle arrays comms names body ws hs wait free means has = record {
  fit = λ v m is. elim (idle_or_old ws names v m is) [
    | inl idle ↦ subst (IsFit arrays comms (body ++ wait ∷ [])) (sym idle) tt
    | inr old ↦ idle_fit arrays comms body (body ++ wait ∷ []) ws names v m
        (λ n posted apart left. left_stays 0 n body wait (free n (not_named names v n ws hs has.once posted apart means)) left) old.0 old.1 (has.fit v m old.1)
  ];
  once = λ v u n is also. elim (idle_or_old ws names v (meaning.Posted n) is) [
    | inl idle ↦ absurd (cc)
    | inr one ↦ elim (idle_or_old ws names u (meaning.Posted n) also) [
      | inl idle ↦ absurd (cc)
      | inr two ↦ has.once v u n one.1 two.1
    ]
  ];
}
