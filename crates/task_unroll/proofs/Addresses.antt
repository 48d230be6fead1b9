-- A call that passes its tests names a rank that exists, a tag that may be, and no wildcard where it sends.
use Rattle.std.proofs.Common.{◌≡◌, ◌≢◌, ℕ, zero, suc, ◌+◌, ◌<◌, ◌≤◌, Bool, true, false, ◌⊎◌, List, [], ◌∷◌, Option, Some, None, Result, Ok, Err, refl}
use Rattle.std.proofs.Common.{sym, ap, ◌∙◌, subst, inl, inr, arith, is_some, is_none}
use Rattle.std.specs.Prelude.{ℤ, pos, negsuc, ◌||◌, nat_le, nat_lt, if◌then◌else◌, ⊤}
use Rattle.std.proofs.lemmas.Bool.Decides.{nat_tests}
use Rattle.rt_base.specs.declared.data.FaultKind.{FaultKind}
use Rattle.rt_base.specs.declared.data.FaultKind.TheVariants as fault
use Rattle.rt_base.specs.declared.data.How.{How}
use Rattle.rt_base.specs.declared.data.How.TheVariants as how
use Rattle.rt_base.specs.declared.data.Peer.{Peer}
use Rattle.rt_base.specs.declared.data.Peer.TheVariants as peer
use Rattle.rt_base.specs.declared.data.TagSel.{TagSel}
use Rattle.rt_base.specs.declared.data.TagSel.TheVariants as tag
use Rattle.rt_base.specs.Operations.{blocks, is_receive}
use Rattle.rt_base.specs.WellFormed.{IsTag, IsAddress}
use Rattle.task_tree.specs.declared.tree.SpanText.{SpanText}
use Rattle.task_tree.specs.declared.tree.PeerText.{PeerText}
use Rattle.task_tree.specs.declared.tree.PeerText.TheVariants as peer_text
use Rattle.task_tree.specs.declared.tree.TagText.{TagText}
use Rattle.task_tree.specs.declared.tree.TagText.TheVariants as tag_text
use Rattle.task_names.specs.Values.{value}
use Rattle.task_unroll.specs.declared.chosen.PeerValue.{PeerValue}
use Rattle.task_unroll.specs.declared.chosen.PeerValue.TheVariants as whom
use Rattle.task_unroll.specs.declared.chosen.TagValue.{TagValue}
use Rattle.task_unroll.specs.declared.chosen.TagValue.TheVariants as chosen
use Rattle.task_unroll.specs.States.{State, scene}
use Rattle.task_unroll.specs.Operands.{peer_value, tag_value, peer_of, tag_of}
use Rattle.task_unroll.specs.Checks.{check, passed}
use Rattle.task_unroll.specs.Acts.{is_any_peer, is_any_tag, is_recv, call_checks}
use Rattle.task_unroll.proofs.Results.{Holds, bind, passed_first}
use Rattle.task_unroll.proofs.Cells.{both_false}

-- a rank below the number of ranks
abbrev pub IsPeerOf : ℕ → Peer → Type 0
IsPeerOf size (peer.Rank rank) = rank < size
IsPeerOf size peer.Any = ⊤
IsPeerOf size peer.Null = ⊤

pub peer_is : (size : ℕ) (w : PeerValue) → Holds (IsPeerOf size) (peer_of size w)
peer_is size (whom.Number (pos number)) = by (nat_lt number size) refl
  where
    by : (b : Bool) → nat_lt number size ≡ b → Holds (IsPeerOf size) (if b then Ok (peer.Rank number) else Err fault.BadRank)
    by true h = grind (arith, nat_tests)
    by false h = tt
peer_is size (whom.Number (negsuc number)) = tt
peer_is size whom.Any = tt
peer_is size whom.Null = tt

pub tag_is : (c : TagValue) → Holds IsTag (tag_of c)
tag_is (chosen.Number (pos number)) = by (nat_le number 32767) refl
  where
    by : (b : Bool) → nat_le number 32767 ≡ b → Holds IsTag (if b then Ok (tag.Tag number) else Err fault.BadTag)
    by true h = grind (arith, nat_tests)
    by false h = tt
tag_is (chosen.Number (negsuc number)) = tt
tag_is chosen.Any = tt

-- no wildcard gives none
one_whom : (s : State) (to : PeerText) → is_any_peer to ≡ false → Holds (λ (w : PeerValue). w ≢ whom.Any) (peer_value s to)
one_whom s (peer_text.At e) none = bind (λ (w : PeerValue). w ≢ whom.Any) (value (scene s) e) _ (λ x x_is. λ same. absurd (cc))
one_whom s peer_text.Any none = absurd (cc)
one_whom s peer_text.Null none = λ same. absurd (cc)

one_peer : (size : ℕ) (w : PeerValue) → w ≢ whom.Any → Holds (λ (p : Peer). p ≢ peer.Any) (peer_of size w)
one_peer size (whom.Number (pos number)) one = by (nat_lt number size)
  where
    by : (b : Bool) → Holds (λ (p : Peer). p ≢ peer.Any) (if b then Ok (peer.Rank number) else Err fault.BadRank)
    by true = λ same. absurd (cc)
    by false = tt
one_peer size (whom.Number (negsuc number)) one = tt
one_peer size whom.Any one = absurd (one refl)
one_peer size whom.Null one = λ same. absurd (cc)

one_chosen : (s : State) (number : TagText) → is_any_tag number ≡ false → Holds (λ (c : TagValue). c ≢ chosen.Any) (tag_value s number)
one_chosen s (tag_text.At e) none = bind (λ (c : TagValue). c ≢ chosen.Any) (value (scene s) e) _ (λ x x_is. λ same. absurd (cc))
one_chosen s tag_text.Any none = absurd (cc)

one_tag : (c : TagValue) → c ≢ chosen.Any → Holds (λ (t : TagSel). t ≢ tag.Any) (tag_of c)
one_tag (chosen.Number (pos number)) one = by (nat_le number 32767)
  where
    by : (b : Bool) → Holds (λ (t : TagSel). t ≢ tag.Any) (if b then Ok (tag.Tag number) else Err fault.BadTag)
    by true = λ same. absurd (cc)
    by false = tt
one_tag (chosen.Number (negsuc number)) one = tt
one_tag chosen.Any one = absurd (one refl)

address_is : (p : Peer) (t : TagSel) → p ≢ peer.Any → t ≢ tag.Any → IsAddress p t
address_is (peer.Rank rank) (tag.Tag number) p t = tt
address_is (peer.Rank rank) tag.Any p t = absurd (t refl)
address_is peer.Any t' p t = absurd (p refl)
address_is peer.Null (tag.Tag number) p t = tt
address_is peer.Null tag.Any p t = absurd (t refl)

holds_at : {X : Type 0} (Fact : X → Type 0) (c : Result X FaultKind) (x : X) → Holds Fact c → c ≡ Ok x → Fact x
holds_at Fact c x holds is = subst (Holds Fact) is holds

-- whom a send addresses
pub address_of : (s : State) (to : PeerText) (number : TagText) (w : PeerValue) (c : TagValue) (p : Peer) (t : TagSel)
    → is_any_peer to || is_any_tag number ≡ false
    → peer_value s to ≡ Ok w → tag_value s number ≡ Ok c → peer_of s.size w ≡ Ok p → tag_of c ≡ Ok t → IsAddress p t
address_of s to number w c p t none w_is c_is p_is t_is =
    let both = both_false (is_any_peer to) (is_any_tag number) none in
    let one_w = holds_at (λ (x : PeerValue). x ≢ whom.Any) (peer_value s to) w (one_whom s to both.0) w_is in
    let one_c = holds_at (λ (x : TagValue). x ≢ chosen.Any) (tag_value s number) c (one_chosen s number both.1) c_is in
    address_is p t (holds_at (λ (x : Peer). x ≢ peer.Any) (peer_of s.size w) p (one_peer s.size w one_w) p_is)
    (holds_at (λ (x : TagSel). x ≢ tag.Any) (tag_of c) t (one_tag c one_c) t_is)

-- what the tests of a call's form say
pub record IsFormed (call : How) (handle : Option (List ℕ)) (to : PeerText) (number : TagText) (status : Option SpanText) : Type 0 where
  pub handles : (if blocks call then is_some handle else is_none handle) ≡ false
  pub wildcards : (if is_receive call then false else (is_any_peer to || is_any_tag number)) ≡ false
  pub statuses : (if is_recv call then false else is_some status) ≡ false

pub formed_is : (call : How) (handle : Option (List ℕ)) (to : PeerText) (number : TagText) (status : Option SpanText) (u : ⊤)
    → passed (call_checks call handle to number status) ≡ Ok u → IsFormed call handle to number status
formed_is call handle to number status u is =
    let third_check = check fault.Shape (if is_recv call then false else is_some status) in
    let second_check = check fault.Shape (if is_receive call then false else (is_any_peer to || is_any_tag number)) in
    let first = passed_first (check fault.Shape (if blocks call then is_some handle else is_none handle)) (second_check ∷ third_check ∷ []) u is in
    let second = passed_first second_check (third_check ∷ []) u first.1 in
    let third = passed_first third_check [] u second.1 in
    record { handles = first.0; wildcards = second.0; statuses = third.0 }
