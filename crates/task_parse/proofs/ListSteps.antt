-- One item more of a list of names, spans or values.
use Rattle.std.proofs.Common.{◌≡◌, ℕ, suc, ◌+◌, ◌-◌, ◌<◌, ◌≤◌, List, [], ◌∷◌, ◌++◌, Some, None, Result, Ok, Err, refl, ap, ◌∙◌, arith}
use Rattle.rt_base.specs.declared.data.FaultKind.{FaultKind}
use Rattle.task_tree.specs.declared.sign.Sign.TheVariants as sign
use Rattle.task_tree.specs.declared.token.Token.{Token}
use Rattle.task_tree.specs.declared.token.Token.TheVariants as token
use Rattle.task_tree.specs.declared.refusal.LineRefusal.{LineRefusal}
use Rattle.task_tree.specs.declared.refusal.LineRefusal.TheVariants as variant
use Rattle.task_tree.specs.Reading.{◌>>=◌, Fails}
use Rattle.task_parse.specs.ReadingsOfParts.{Left}
use Rattle.task_parse.specs.ReadingsOfOperands.{comma_name, names_behind, more_of}

-- a name behind a comma is one of the names
pub name_more : (whole : List (List ℕ) × List Token) (names : List (List ℕ)) (tokens : List Token) (name : List ℕ) (rest : List Token)
    → whole ≡ names_behind names tokens → comma_name tokens ≡ Some (name, rest) → whole ≡ names_behind (names ++ name ∷ []) rest
unfolding names_behind
name_more whole names (token.Sign sign.Comma ∷ token.Name n ∷ tokens) name rest e f =
    let here : (List ℕ × List Token) = (n, tokens) in
    let same : here ≡ (name, rest) = cc in
    e ∙ ap (λ (p : List ℕ × List Token). names_behind (names ++ p.0 ∷ []) p.1) same
name_more whole names _ name rest e f = absurd cc

-- where no comma and name stand, there is no further name
pub no_more_names : (names : List (List ℕ)) (tokens : List Token) → comma_name tokens ≡ None → names_behind names tokens ≡ (names, tokens)
unfolding names_behind
no_more_names names (token.Sign sign.Comma ∷ token.Name n ∷ tokens) e = absurd cc
no_more_names names _ e = refl

-- one step of the reading, where one item at least is left to read
stepped : {T : Type 0} (next : Left → Result (T × Left) FaultKind) (items : List T) (n i : ℕ) (x : Left) → i < n
    → more_of next items (n - i) x ≡ (next x >>= λ item. more_of next (items ++ item.0 ∷ []) (n - (i + 1)) item.1)
unfolding more_of
stepped next items n i x h =
    let e : n - i ≡ suc (n - (i + 1)) = omega arith in
    ap (λ k. more_of next items k x) e

-- one item more
pub one_more : {T : Type 0} (whole : Result (List T × Left) FaultKind) (next : Left
    → Result (T × Left) FaultKind) (items : List T) (n i : ℕ) (x y : Left) (item : T)
    → whole ≡ more_of next items (n - i) x → i < n → next x ≡ Ok (item, y) → whole ≡ more_of next (items ++ item ∷ []) (n - (i + 1)) y
one_more whole next items n i x y item e h r = e ∙ stepped next items n i x h
    ∙ ap (λ s. s >>= λ item. more_of next (items ++ item.0 ∷ []) (n - (i + 1)) item.1) r

fails : {T : Type 0} (whole : Result (List T × Left) FaultKind) (next : Left
    → Result (T × Left) FaultKind) (items : List T) (n i : ℕ) (x : Left) (kind : FaultKind)
    → whole ≡ more_of next items (n - i) x → i < n → next x ≡ Err kind → whole ≡ Err kind
fails whole next items n i x kind e h r = e ∙ stepped next items n i x h ∙ ap (λ s. s >>= λ item. more_of next (items ++ item.0 ∷ []) (n - (i + 1)) item.1) r

-- a refusal of an item is one of the list
pub refused : {T : Type 0} (refusal : LineRefusal) (whole : Result (List T × Left) FaultKind) (next : Left
    → Result (T × Left) FaultKind) (items : List T) (n i : ℕ) (x : Left)
    → whole ≡ more_of next items (n - i) x → i < n → Fails refusal (next x) → Fails refusal whole
refused variant.Memory whole next items n i x e h r = tt
refused (variant.Fault kind) whole next items n i x e h r = fails whole next items n i x kind e h r

-- none is left to read
pub all_read : {T : Type 0} (whole : Result (List T × Left) FaultKind) (next : Left → Result (T × Left) FaultKind) (items : List T) (n i : ℕ) (x : Left)
    → whole ≡ more_of next items (n - i) x → n ≤ i → whole ≡ Ok (items, x)
unfolding more_of
all_read whole next items n i x e h =
    let z : n - i ≡ 0 = omega arith in
    e ∙ ap (λ k. more_of next items k x) z
