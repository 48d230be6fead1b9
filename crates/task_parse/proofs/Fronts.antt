-- Fronts of lists, and what is read behind them.
use Rattle.std.proofs.Common.{◌≡◌, ℕ, suc, ◌+◌, Bool, true, false, cond, List, [], ◌∷◌, ◌++◌, take, drop, Result, Ok, Err, refl, sym, ap, arith, append_assoc}
use Rattle.rt_base.specs.declared.data.FaultKind.{FaultKind}
use Rattle.task_parse.specs.Tokens.{with_front}

-- what holds of both choices holds of the chosen one
pub chosen : {T : Type 0} (P : T → Type 0) (b : Bool) (x y : T) → (b ≡ true → P x) → (b ≡ false → P y) → P (cond b x y)
chosen P true x y first second = first refl
chosen P false x y first second = second refl

-- one item less of both
pub one_dropped : {T : Type 0} (n : ℕ) (byte : T) (bytes : List T) → drop (1 + n) (byte ∷ bytes) ≡ drop n bytes
one_dropped n byte bytes = let e : 1 + n ≡ suc n = omega arith in rw e refl

-- one item more of both
pub one_taken : {T : Type 0} (n : ℕ) (byte : T) (bytes : List T) → take (1 + n) (byte ∷ bytes) ≡ byte ∷ take n bytes
one_taken n byte bytes = let e : 1 + n ≡ suc n = omega arith in rw e refl

-- nothing in front changes nothing
pub front_none : {T : Type 0} (r : Result (List T) FaultKind) → with_front [] r ≡ r
front_none (Ok x) = refl
front_none (Err f) = refl

-- two fronts are one
pub front_more : {T : Type 0} (a b : List T) (r : Result (List T) FaultKind) → with_front a (with_front b r) ≡ with_front (a ++ b) r
front_more a b (Ok x) = ap Ok (sym (append_assoc a b x))
front_more a b (Err f) = refl
