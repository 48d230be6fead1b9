-- What becomes of a list's steps, numbers and state where lists are joined.
use Rattle.std.proofs.Common.{◌≡◌, ◌≢◌, ℕ, zero, suc, ◌+◌, ◌<◌, Bool, cond, List, [], ◌∷◌, ◌++◌, length, refl, ap, ◌∙◌, arith, eq-eqb, ne_eqb, lt-ltb}
use Rattle.rt_base.specs.declared.data.ReqNo.{ReqNo}
use Rattle.rt_base.specs.declared.data.Program.{Program}
use Rattle.rt_base.specs.State.{State, opening}
use Rattle.task_machine.specs.Machine.{step}
use Rattle.task_machine.specs.Legal.{IsDefined, state_after}
use Rattle.task_machine.specs.Owed.{opened, opened_by_step, opened_after}
use Rattle.task_machine.proofs.Fronts.{past}
use Rattle.shared_lists.specs.Deeds.{moves, how_many, state_seen, opened_seen}
use Rattle.shared_lists.specs.Laws.{OpensLast}

pub moves-append : (xs ys : List (ℕ × ℕ)) → moves (xs ++ ys) ≡ moves xs ++ moves ys
moves-append [] ys = refl
moves-append ((c, zero) ∷ xs) ys = ap (λ (cs : List ℕ). c ∷ cs) (moves-append xs ys)
moves-append ((c, suc n) ∷ xs) ys = moves-append xs ys

pub how_many-append : (number : ℕ) (xs ys : List (ℕ × ℕ)) → how_many number (xs ++ ys) ≡ how_many number xs + how_many number ys
how_many-append number [] ys = omega arith
how_many-append number (x ∷ xs) ys = omega (arith, how_many-append number xs ys)

-- one pair more, of this number or of another
pub how_many-own : (number c : ℕ) (xs : List (ℕ × ℕ)) → how_many number (xs ++ (c, number) ∷ []) ≡ how_many number xs + 1
how_many-own number c xs =
    let once : how_many number ((c, number) ∷ []) ≡ 1 = rw (eq-eqb number number refl) (omega arith) in
    omega (arith, how_many-append number xs ((c, number) ∷ []), once)

pub how_many-else : (number c m : ℕ) (xs : List (ℕ × ℕ)) → m ≢ number → how_many number (xs ++ (c, m) ∷ []) ≡ how_many number xs
how_many-else number c m xs other =
    let none : how_many number ((c, m) ∷ []) ≡ 0 = rw (ne_eqb m number other) (omega arith) in
    omega (arith, how_many-append number xs ((c, m) ∷ []), none)

pub state_after-append : (p : Program) (s : State) (xs ys : List ℕ) → state_after p s (xs ++ ys) ≡ state_after p (state_after p s xs) ys
state_after-append p s [] ys = refl
state_after-append p s (x ∷ xs) ys = state_after-append p (step p s x).state xs ys

pub state_seen-append : (p : Program) (xs ys : List (ℕ × ℕ)) → state_seen p (xs ++ ys) ≡ state_after p (state_seen p xs) (moves ys)
state_seen-append p xs ys = ap (state_after p (opening p)) (moves-append xs ys) ∙ state_after-append p (opening p) (moves xs) (moves ys)

pub state_seen-step : (p : Program) (xs : List (ℕ × ℕ)) (c : ℕ) → state_seen p (xs ++ (c, 0) ∷ []) ≡ (step p (state_seen p xs) c).state
state_seen-step p xs c = state_seen-append p xs ((c, 0) ∷ [])

pub state_seen-else : (p : Program) (xs : List (ℕ × ℕ)) (c number : ℕ) → state_seen p (xs ++ (c, suc number) ∷ []) ≡ state_seen p xs
state_seen-else p xs c number = state_seen-append p xs ((c, suc number) ∷ [])

-- a run in two parts
pub defined_front : (p : Program) (w : ℕ) (s : State) (xs ys : List ℕ) → IsDefined p w s (xs ++ ys) → IsDefined p w s xs
defined_front p w s [] ys runs = tt
defined_front p w s (x ∷ xs) ys runs = (runs.0, defined_front p w (step p s x).state xs ys runs.1)

pub defined_rest : (p : Program) (w : ℕ) (s : State) (xs ys : List ℕ) → IsDefined p w s (xs ++ ys) → IsDefined p w (state_after p s xs) ys
defined_rest p w s [] ys runs = runs
defined_rest p w s (x ∷ xs) ys runs = defined_rest p w (step p s x).state xs ys runs.1

-- what the last move opened
opened_after-append : (p : Program) (s : State) (before : List ReqNo) (xs ys : List ℕ)
    → opened_after p s before (xs ++ ys) ≡ opened_after p (state_after p s xs) (opened_after p s before xs) ys
opened_after-append p s before [] ys = refl
opened_after-append p s before (x ∷ xs) ys = opened_after-append p (step p s x).state (opened_by_step p s x before) xs ys

opened_seen-append : (p : Program) (xs ys : List (ℕ × ℕ)) → opened_seen p (xs ++ ys) ≡ opened_after p (state_seen p xs) (opened_seen p xs) (moves ys)
opened_seen-append p xs ys =
    ap (opened_after p (opening p) []) (moves-append xs ys) ∙ opened_after-append p (opening p) [] (moves xs) (moves ys)

pub opens_last : (p : Program) (pairs : List (ℕ × ℕ)) (c : ℕ) → OpensLast p pairs c
opens_last p pairs c = record {
  by_task = λ exists.
      opened_seen-append p pairs ((c, 0) ∷ [])
      ∙ ap (λ (b : Bool). cond b (opened p (state_seen p pairs) c) (opened_seen p pairs)) (lt-ltb c (length p.tasks.items) exists);
  by_poller = λ above.
      opened_seen-append p pairs ((c, 0) ∷ [])
      ∙ ap (λ (b : Bool). cond b (opened p (state_seen p pairs) c) (opened_seen p pairs)) (past c (length p.tasks.items) above);
  by_else = λ number. another (number + 1) (omega arith);
} where
  another : (m : ℕ) → 0 < m → opened_seen p (pairs ++ (c, m) ∷ []) ≡ opened_seen p pairs
  another zero some = absurd (omega arith)
  another (suc m) some = opened_seen-append p pairs ((c, suc m) ∷ [])
