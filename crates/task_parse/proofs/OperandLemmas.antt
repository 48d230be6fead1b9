-- The operands of calls, waits and kernels: what is spelled is read, and what is read is spelled.
use Rattle.std.proofs.Common.{◌≡◌, ℕ, Bool, true, false, cond, List, [], ◌∷◌, ◌++◌, Option, None, Result, Ok, Err, refl, ap, ◌∙◌}
use Rattle.rt_base.specs.Operations.{blocks, is_receive}
use Rattle.rt_base.specs.declared.data.FaultKind.{FaultKind}
use Rattle.rt_base.specs.declared.data.FaultKind.TheVariants as fault
use Rattle.rt_base.specs.declared.data.How.{How}
use Rattle.task_tree.specs.declared.key.Key.TheVariants as key
use Rattle.task_tree.specs.declared.sign.Sign.TheVariants as sign
use Rattle.task_tree.specs.declared.token.Token.{Token}
use Rattle.task_tree.specs.declared.token.Token.TheVariants as token
use Rattle.task_tree.specs.declared.tree.SpanText.{SpanText}
use Rattle.task_tree.specs.declared.tree.PeerText.{PeerText}
use Rattle.task_tree.specs.declared.tree.PeerText.TheVariants as peer
use Rattle.task_tree.specs.declared.tree.TagText.{TagText}
use Rattle.task_tree.specs.declared.tree.TagText.TheVariants as tag
use Rattle.task_tree.specs.Term.{Term}
use Rattle.task_tree.specs.Grammar.{Is, Is as is}
use Rattle.task_tree.specs.Reading.{◌>>=◌}
use Rattle.task_parse.specs.Statements.{IsPeer, IsPeer as is_peer, IsTag, IsTag as is_tag, IsOn, IsOn as is_on, IsStatus, IsStatus as is_status}
use Rattle.task_parse.specs.Statements.{IsHandle, IsHandle as is_handle, HasStatus, HasStatus as own_status, has_status}
use Rattle.task_parse.specs.ReadingsOfParts.{Left, name_at, comma_at, value_at}
use Rattle.task_parse.specs.ReadingsOfOperands.{named_handle, handle_at, peer_at, tag_at, on_at, status_at, own_status_at}
use Rattle.task_parse.proofs.PartLemmas.{grown, grown_none, value_read, span_last, Gets, then, weaker, Stands, then_name, then_comma, then_value, then_span}
use Rattle.task_tree.specs.Grammar.{ends}

-- the tokens begin with no word that is read before a value
abbrev pub is_wordless : List Token → Bool
is_wordless [] = false
is_wordless (token.Key key.Any ∷ ts) = false
is_wordless (token.Key key.Null ∷ ts) = false
is_wordless (t ∷ ts) = true

wordless_front : (front ts : List Token) → is_wordless front ≡ true → is_wordless (front ++ ts) ≡ true
wordless_front [] ts h = absurd cc
wordless_front (token.Key key.Any ∷ front) ts h = absurd cc
wordless_front (token.Key key.Null ∷ front) ts h = absurd cc
wordless_front (t ∷ front) ts h = refl

-- an expression begins with no such word
wordless : {k d : ℕ} {ts : List Token} {e : Term} → Is k d ts e → is_wordless ts ≡ true
wordless is.number = refl
wordless is.name = refl
wordless is.rank = refl
wordless is.size = refl
wordless (is.brackets i) = refl
wordless (is.minus i) = refl
wordless (is.two {c} {d} {xs} {ys} s o i j) = wordless_front xs _ (wordless i)
wordless (is.up i) = wordless i

peer_value : (call : How) (ts : List Token) (k : ℕ) → is_wordless ts ≡ true
    → peer_at call (ts, k) ≡ (value_at (ts, k) >>= λ value. Ok (peer.At value.0, value.1))
unfolding peer_at
peer_value call [] k h = absurd cc
peer_value call (token.Key key.Any ∷ ts) k h = absurd cc
peer_value call (token.Key key.Null ∷ ts) k h = absurd cc
peer_value call (t ∷ ts) k h = refl

tag_value : (call : How) (ts : List Token) (k : ℕ) → is_wordless ts ≡ true → tag_at call (ts, k) ≡ (value_at (ts, k) >>= λ value. Ok (tag.At value.0, value.1))
unfolding tag_at
tag_value call [] k h = absurd cc
tag_value call (token.Key key.Any ∷ ts) k h = absurd cc
tag_value call (token.Key key.Null ∷ ts) k h = absurd cc
tag_value call (t ∷ ts) k h = refl

pub peer_read : {call : How} {d : ℕ} {p : PeerText} (front rest : List Token) (k : ℕ) → IsPeer call d front p → ends rest ≡ true
    → peer_at call (front ++ rest, k) ≡ Ok (p, (rest, grown k d))
unfolding peer_at
peer_read front rest k (is_peer.at {call} {d} {ts} {e} i) h = peer_value call (ts ++ rest) k (wordless_front ts rest (wordless i))
    ∙ rw (value_read ts rest k i h) refl
peer_read front rest k (is_peer.any r) h = rw r (ap (λ n. Ok (peer.Any, (rest, n))) (grown_none k))
peer_read front rest k is_peer.null h = ap (λ n. Ok (peer.Null, (rest, n))) (grown_none k)

pub tag_read : {call : How} {d : ℕ} {n : TagText} (front rest : List Token) (k : ℕ) → IsTag call d front n → ends rest ≡ true
    → tag_at call (front ++ rest, k) ≡ Ok (n, (rest, grown k d))
unfolding tag_at
tag_read front rest k (is_tag.at {call} {d} {ts} {e} i) h = tag_value call (ts ++ rest) k (wordless_front ts rest (wordless i))
    ∙ rw (value_read ts rest k i h) refl
tag_read front rest k (is_tag.any r) h = rw r (ap (λ n. Ok (tag.Any, (rest, n))) (grown_none k))

pub handle_read : {call : How} {handle : Option (List ℕ)} (front rest : List Token) (k : ℕ) → IsHandle call front handle
    → handle_at call (front ++ rest, k) ≡ Ok (handle, (rest, k))
unfolding named_handle name_at comma_at
handle_read front rest k (is_handle.none b) = rw b refl
handle_read front rest k (is_handle.some name b) = rw b refl

-- a status at the end of the line
pub status_last : {d : ℕ} {status : Option SpanText} (front : List Token) (k : ℕ) → IsStatus d front status
    → status_at (front, k) ≡ Ok (status, ([], grown k d))
unfolding status_at
status_last front k is_status.none = ap (λ n. Ok (None, ([], n))) (grown_none k)
status_last front k (is_status.some {d} {ts} {span} i) = rw (span_last ts k i) refl

pub own_status_last : {call : How} {d : ℕ} {status : Option SpanText} (front : List Token) (k : ℕ) → HasStatus call d front status
    → own_status_at call (front, k) ≡ Ok (status, ([], grown k d))
unfolding status_at
own_status_last front k (own_status.none {call}) =
    elim (has_status call) as (λ v. cond v (status_at ([], k)) (Ok (None, ([], k))) ≡ Ok (
      None,
      ([], grown k 0),
    )) [ true ↦ ap (λ n. Ok (None, ([], n))) (grown_none k) | false ↦ ap (λ n. Ok (None, ([], n))) (grown_none k) ]
own_status_last front k (own_status.some {call} {d} {ts} {span} h i) = rw (h, span_last ts k i) refl

-- a communicator, before the end of the line or a status
pub on_read : {call : How} {d : ℕ} {comm : Option (List ℕ)} {status : Option SpanText} (front last : List Token) (k : ℕ) → IsOn front comm
    → HasStatus call d last status → on_at (front ++ last, k) ≡ Ok (comm, (last, k))
unfolding on_at name_at
on_read front last k is_on.world own_status.none = refl
on_read front last k is_on.world (own_status.some h i) = refl
on_read front last k (is_on.on name) s = refl

pub tail_ends : {call : How} {d : ℕ} {comm : Option (List ℕ)} {status : Option SpanText} (front last : List Token) → IsOn front comm
    → HasStatus call d last status → ends (front ++ last) ≡ true
tail_ends front last is_on.world own_status.none = refl
tail_ends front last is_on.world (own_status.some h i) = refl
tail_ends front last (is_on.on name) s = refl

-- the part stands at the front, and has no depth of its own
pub record StandsFlat (S : List Token → Type 0) (x y : Left) : Type 0 where
  pub front : List Token
  pub whole : x.0 ≡ front ++ y.0
  pub spelled : S front
  pub same : y.1 ≡ x.1

-- what was read of all that was left stands at its front
abbrev pub HasPeer : How → Left → PeerText × Left → Type 0
HasPeer call x y = Stands (λ d ts. IsPeer call d ts y.0) x y.1

abbrev pub HasTag : How → Left → TagText × Left → Type 0
HasTag call x y = Stands (λ d ts. IsTag call d ts y.0) x y.1

abbrev pub HasHandle : How → Left → Option (List ℕ) × Left → Type 0
HasHandle call x y = StandsFlat (λ ts. IsHandle call ts y.0) x y.1

abbrev pub HasOn : Left → Option (List ℕ) × Left → Type 0
HasOn x y = StandsFlat (λ ts. IsOn ts y.0) x y.1

abbrev pub HasStatusSpan : Left → Option SpanText × Left → Type 0
HasStatusSpan x y = Stands (λ d ts. IsStatus d ts y.0) x y.1

abbrev pub HasOwnStatus : How → Left → Option SpanText × Left → Type 0
HasOwnStatus call x y = Stands (λ d ts. HasStatus call d ts y.0) x y.1

peer_value_found : (call : How) (x : Left) → Gets (HasPeer call x) (value_at x >>= λ value. Ok (peer.At value.0, value.1))
peer_value_found call x =
    then_value (HasPeer call x) x _ (λ value a.
    record { front = a.front; depth = a.depth; whole = a.whole; spelled = is_peer.at a.spelled; deep = a.deep })

any_peer_found : (call : How) (ts : List Token) (k : ℕ) (b : Bool) → is_receive call ≡ b
    → Gets (HasPeer call (token.Key key.Any ∷ ts, k)) (cond b (Ok (peer.Any, (ts, k))) (Err fault.Shape))
any_peer_found call ts k true r = record { front = token.Key key.Any ∷ []; depth = 0; whole = refl; spelled = is_peer.any r; deep = grown_none k }
any_peer_found call ts k false r = refl

peer_found : (call : How) (x : Left) → Gets (HasPeer call x) (peer_at call x)
unfolding peer_at
peer_found call (token.Key key.Null ∷ ts, k) = record { front = token.Key key.Null ∷ []; depth = 0; whole = refl; spelled = is_peer.null; deep = grown_none k }
peer_found call (token.Key key.Any ∷ ts, k) = any_peer_found call ts k (is_receive call) refl
peer_found call x = peer_value_found call x

pub then_peer : {B : Type 0} (Q : B → Type 0) (call : How) (x : Left) (f : PeerText × Left → Result B FaultKind)
    → ((y : PeerText × Left) → HasPeer call x y → Gets Q (f y)) → Gets Q (peer_at call x >>= f)
then_peer Q call x f next = then (HasPeer call x) Q (peer_at call x) f (peer_found call x) next

tag_value_found : (call : How) (x : Left) → Gets (HasTag call x) (value_at x >>= λ value. Ok (tag.At value.0, value.1))
tag_value_found call x =
    then_value (HasTag call x) x _ (λ value a.
    record { front = a.front; depth = a.depth; whole = a.whole; spelled = is_tag.at a.spelled; deep = a.deep })

any_tag_found : (call : How) (ts : List Token) (k : ℕ) (b : Bool) → is_receive call ≡ b
    → Gets (HasTag call (token.Key key.Any ∷ ts, k)) (cond b (Ok (tag.Any, (ts, k))) (Err fault.Shape))
any_tag_found call ts k true r = record { front = token.Key key.Any ∷ []; depth = 0; whole = refl; spelled = is_tag.any r; deep = grown_none k }
any_tag_found call ts k false r = refl

tag_found : (call : How) (x : Left) → Gets (HasTag call x) (tag_at call x)
unfolding tag_at
tag_found call (token.Key key.Any ∷ ts, k) = any_tag_found call ts k (is_receive call) refl
tag_found call x = tag_value_found call x

pub then_tag : {B : Type 0} (Q : B → Type 0) (call : How) (x : Left) (f : TagText × Left → Result B FaultKind)
    → ((y : TagText × Left) → HasTag call x y → Gets Q (f y)) → Gets Q (tag_at call x >>= f)
then_tag Q call x f next = then (HasTag call x) Q (tag_at call x) f (tag_found call x) next

named_found : (call : How) (x : Left) → blocks call ≡ false → Gets (HasHandle call x) (named_handle x)
unfolding named_handle
named_found call x b =
    let Q : Option (List ℕ) × Left → Type 0 = HasHandle call x in
    then_name Q x _ (λ name n.
    then_comma Q name.1 _ (λ rest c.
    record {
      front = token.Name name.0 ∷ token.Sign sign.Comma ∷ [];
      whole = rw (n.tokens, c.tokens) refl;
      spelled = is_handle.some name.0 b;
      same = c.same
          ∙ n.same;
    }))

handle_as : (call : How) (x : Left) (b : Bool) → blocks call ≡ b → Gets (HasHandle call x) (cond b (Ok (None, x)) (named_handle x))
handle_as call x true b = record { front = []; whole = refl; spelled = is_handle.none b; same = refl }
handle_as call x false b = named_found call x b

pub then_handle : {B : Type 0} (Q : B → Type 0) (call : How) (x : Left) (f : Option (List ℕ) × Left → Result B FaultKind)
    → ((y : Option (List ℕ) × Left) → HasHandle call x y → Gets Q (f y)) → Gets Q (handle_at call x >>= f)
then_handle Q call x f next = then (HasHandle call x) Q (handle_at call x) f (handle_as call x (blocks call) refl) next

on_found : (x : Left) → Gets (HasOn x) (on_at x)
unfolding on_at
on_found (token.Key key.On ∷ ts, k) =
    let Q : Option (List ℕ) × Left → Type 0 = HasOn (token.Key key.On ∷ ts, k) in
    then_name Q (ts, k) _ (λ name n.
    record { front = token.Key key.On ∷ token.Name name.0 ∷ []; whole = rw n.tokens refl; spelled = is_on.on name.0; same = n.same })
on_found x = record { front = []; whole = refl; spelled = is_on.world; same = refl }

pub then_on : {B : Type 0} (Q : B → Type 0) (x : Left) (f : Option (List ℕ) × Left → Result B FaultKind)
    → ((y : Option (List ℕ) × Left) → HasOn x y → Gets Q (f y)) → Gets Q (on_at x >>= f)
then_on Q x f next = then (HasOn x) Q (on_at x) f (on_found x) next

status_found : (x : Left) → Gets (HasStatusSpan x) (status_at x)
unfolding status_at
status_found (token.Key key.Status ∷ ts, k) =
    let Q : Option SpanText × Left → Type 0 = HasStatusSpan (token.Key key.Status ∷ ts, k) in
    then_span Q (ts, k) _ (λ span s.
    record { front = token.Key key.Status ∷ s.front; depth = s.depth; whole = rw s.whole refl; spelled = is_status.some s.spelled; deep = s.deep })
status_found x = record { front = []; depth = 0; whole = refl; spelled = is_status.none; deep = grown_none x.1 }

pub then_status : {B : Type 0} (Q : B → Type 0) (x : Left) (f : Option SpanText × Left → Result B FaultKind)
    → ((y : Option SpanText × Left) → HasStatusSpan x y → Gets Q (f y)) → Gets Q (status_at x >>= f)
then_status Q x f next = then (HasStatusSpan x) Q (status_at x) f (status_found x) next

owned : {call : How} {d : ℕ} {ts : List Token} {status : Option SpanText} → has_status call ≡ true → IsStatus d ts status → HasStatus call d ts status
owned h is_status.none = own_status.none
owned h (is_status.some i) = own_status.some h i

own_status_as : (call : How) (x : Left) (b : Bool) → has_status call ≡ b → Gets (HasOwnStatus call x) (cond b (status_at x) (Ok (None, x)))
own_status_as call x true b =
    weaker (HasStatusSpan x) (HasOwnStatus call x) (status_at x) (status_found x) (λ y s.
    record { front = s.front; depth = s.depth; whole = s.whole; spelled = owned b s.spelled; deep = s.deep })
own_status_as call x false b = record { front = []; depth = 0; whole = refl; spelled = own_status.none; deep = grown_none x.1 }

pub then_own_status : {B : Type 0} (Q : B → Type 0) (call : How) (x : Left) (f : Option SpanText × Left → Result B FaultKind)
    → ((y : Option SpanText × Left) → HasOwnStatus call x y → Gets Q (f y)) → Gets Q (own_status_at call x >>= f)
then_own_status Q call x f next = then (HasOwnStatus call x) Q (own_status_at call x) f (own_status_as call x (has_status call) refl) next
