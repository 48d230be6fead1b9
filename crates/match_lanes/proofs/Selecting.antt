-- Which lanes a receive and a message share.
use Rattle.std.proofs.Common.{◌≡◌, ℕ, ◌+◌, ◌<◌, Bool, true, false, not, ◌==◌, ◌&&◌, ◌||◌, List, length, get_or, Option, Some, None, option_map, refl, sym, ap}
use Rattle.std.proofs.Common.{◌∙◌, arith, inl, inr, subst}
use Rattle.std.proofs.lemmas.Bool.{eqb-true, eq-eqb, ne_eqb, and_parts, and_from, and_right, both_ways, cases_Bool}
use Rattle.std.proofs.lemmas.List.Sums.{passes_at_first, prefix_len-le-length}
use Rattle.rt_base.specs.declared.data.Peer.{Peer}
use Rattle.rt_base.specs.declared.data.Peer.TheVariants as peer
use Rattle.rt_base.specs.declared.data.TagSel.{TagSel}
use Rattle.rt_base.specs.declared.data.TagSel.TheVariants as tag
use Rattle.rt_base.specs.Matching.{Message, Receive, is_match, names_source, names_tag}
use Rattle.match_lanes.specs.declared.selector.Wanted.{Wanted}
use Rattle.match_lanes.specs.declared.selector.Wanted.TheVariants as wanted
use Rattle.match_lanes.specs.declared.selector.Selector.{Selector}
use Rattle.match_lanes.specs.declared.doors.Doors.{Doors}
use Rattle.match_lanes.specs.Hung.{is_lane}
use Rattle.match_lanes.specs.Selectors.{selector_of, IsItsLane, is_same, is_same_wanted, lane_in, selector_by, exact, any_source, any_tag, anything, doors_of}
use Rattle.match_lanes.specs.Selectors.{lane_of_receive}
use Rattle.match_lanes.specs.Hanging.{is_any_lane, wish_lane, AreLanes}
use Rattle.match_lanes.specs.Waiting.{passes}

wanted_refl : (w : Wanted) → is_same_wanted w w ≡ true
wanted_refl (wanted.Only n) = eq-eqb n n refl
wanted_refl wanted.Any = refl

pub same_refl : (s : Selector) → is_same s s ≡ true
same_refl s =
    and_from (s.comm == s.comm) (is_same_wanted s.source s.source && is_same_wanted s.tag s.tag) (eq-eqb s.comm s.comm refl)
    (and_from (is_same_wanted s.source s.source) (is_same_wanted s.tag s.tag) (wanted_refl s.source) (wanted_refl s.tag))

wanted_is : (a b : Wanted) → is_same_wanted a b ≡ true → a ≡ b
wanted_is (wanted.Only a) (wanted.Only b) same = ap (λ (n : ℕ). wanted.Only n) (eqb-true a b same)
wanted_is (wanted.Only a) wanted.Any same = absurd (cc)
wanted_is wanted.Any (wanted.Only b) same = absurd (cc)
wanted_is wanted.Any wanted.Any same = refl

abbrev selector : ℕ → Wanted → Wanted → Selector
selector comm source sent = record { comm = comm; source = source; tag = sent }

pub same_is : (a b : Selector) → is_same a b ≡ true → a ≡ b
same_is a b same =
    let parts = and_parts (a.comm == b.comm) (is_same_wanted a.source b.source && is_same_wanted a.tag b.tag) same in
    let inner = and_parts (is_same_wanted a.source b.source) (is_same_wanted a.tag b.tag) parts.1 in
    ap (λ (n : ℕ). selector n a.source a.tag) (eqb-true a.comm b.comm parts.0)
    ∙ ap (λ (w : Wanted). selector b.comm w a.tag) (wanted_is a.source b.source inner.0)
    ∙ ap (λ (w : Wanted). selector b.comm b.source w) (wanted_is a.tag b.tag inner.1)

-- a known selector stands at its lane
at_lane : (keys : List Selector) (a d : Selector) → lane_in keys a < length keys → a ≡ get_or keys (lane_in keys a) d
at_lane keys a d known = same_is a (get_or keys (lane_in keys a) d) (passes_at_first (is_same a) keys d known)

-- two selectors of one known lane are one
one_selector : (keys : List Selector) (a b : Selector) → lane_in keys a < length keys → lane_in keys a ≡ lane_in keys b → a ≡ b
one_selector keys a b known same =
    at_lane keys a a known ∙ ap (λ (n : ℕ). get_or keys n a) same ∙ sym (at_lane keys b a (subst (λ (n : ℕ). n < length keys) same known))

-- a known lane tells whose it is
pub lane_tells : (keys : List Selector) (a b : Selector) → lane_in keys a < length keys → (lane_in keys a == lane_in keys b) ≡ is_same a b
lane_tells keys a b known =
    elim (cases_Bool (is_same a b)) [
      | inl same ↦ eq-eqb (lane_in keys a) (lane_in keys b) (ap (lane_in keys) (same_is a b same)) ∙ sym same
      | inr apart ↦ ne_eqb (lane_in keys a) (lane_in keys b) (λ lanes.
          both_ways (is_same a b) apart (ap (is_same a) (sym (one_selector keys a b known lanes)) ∙ same_refl a)) ∙ sym apart
    ]

pub told_by : (keys : List Selector) (a b : Selector) → lane_in keys a < length keys → (lane_in keys b == lane_in keys a) ≡ is_same a b
told_by keys a b known =
    elim (cases_Bool (is_same a b)) [
      | inl same ↦ eq-eqb (lane_in keys b) (lane_in keys a) (ap (lane_in keys) (sym (same_is a b same))) ∙ sym same
      | inr apart ↦ ne_eqb (lane_in keys b) (lane_in keys a) (λ lanes.
          both_ways (is_same a b) apart (ap (is_same a) (sym (one_selector keys a b known (sym lanes))) ∙ same_refl a)) ∙ sym apart
    ]

-- one of the four selectors of a message is this one
abbrev is_any_of : Selector → Message → Bool
is_any_of s m =
    (is_same s (exact m.comm m.source m.tag) || is_same s (any_source m.comm m.tag))
    || (is_same s (any_tag m.comm m.source) || is_same s (anything m.comm))

four_exact : (c s t : Bool) → ((c && (s && t)) || (c && (false && t))) || ((c && (s && false)) || (c && (false && false))) ≡ (c && (s && t))
four_exact true true true = refl
four_exact true true false = refl
four_exact true false t = by t
  where
    by : (t : Bool) → ((true && (false && t)) || (true && (false && t))) || ((true && (false && false)) || (true && (false && false))) ≡ (true && (false && t))
    by true = refl
    by false = refl
four_exact false s t = refl

four_any_source : (c t : Bool) → ((c && (false && t)) || (c && (true && t))) || ((c && (false && false)) || (c && (true && false))) ≡ (c && (true && t))
four_any_source true true = refl
four_any_source true false = refl
four_any_source false t = refl

four_any_tag : (c s : Bool) → ((c && (s && false)) || (c && (false && false))) || ((c && (s && true)) || (c && (false && true))) ≡ (c && (s && true))
four_any_tag true true = refl
four_any_tag true false = refl
four_any_tag false s = refl

four_anything : (c : Bool) → ((c && (false && false)) || (c && (true && false))) || ((c && (false && true)) || (c && (true && true))) ≡ (c && (true && true))
four_anything true = refl
four_anything false = refl

selector_is : (comm : ℕ) (source sent : Wanted) (s : Selector) → ◌≡◌ {A = Option Selector} (Some (selector comm source sent)) (Some s)
    → s ≡ selector comm source sent
selector_is comm source sent s is = cc

-- the selector of a receive is one of a message's four exactly where the receive accepts the message (MPI 4.0, 3.2.4)
any_of_by : (comm : ℕ) (source : Peer) (sent : TagSel) (s : Selector) (m : Message) → selector_by comm source sent ≡ Some s
    → is_any_of s m ≡ ((comm == m.comm) && (names_source source m.source && names_tag sent m.tag))
any_of_by comm (peer.Rank r) (tag.Tag t) s m is =
    ap (λ (x : Selector). is_any_of x m) (selector_is comm (wanted.Only r) (wanted.Only t) s is) ∙ four_exact (comm == m.comm) (r == m.source) (t == m.tag)
any_of_by comm (peer.Rank r) tag.Any s m is =
    ap (λ (x : Selector). is_any_of x m) (selector_is comm (wanted.Only r) wanted.Any s is) ∙ four_any_tag (comm == m.comm) (r == m.source)
any_of_by comm peer.Any (tag.Tag t) s m is =
    ap (λ (x : Selector). is_any_of x m) (selector_is comm wanted.Any (wanted.Only t) s is) ∙ four_any_source (comm == m.comm) (t == m.tag)
any_of_by comm peer.Any tag.Any s m is =
    ap (λ (x : Selector). is_any_of x m) (selector_is comm wanted.Any wanted.Any s is) ∙ four_anything (comm == m.comm)
any_of_by comm peer.Null sent s m is = absurd (cc)

pub any_of : (wish : Receive) (s : Selector) (m : Message) → selector_by wish.comm wish.source wish.tag ≡ Some s → is_any_of s m ≡ is_match wish m
any_of wish s m is = any_of_by wish.comm wish.source wish.tag s m is

four_same : (a b c d a' b' c' d' : Bool) → a ≡ a' → b ≡ b' → c ≡ c' → d ≡ d' → ((a || b) || (c || d)) ≡ ((a' || b') || (c' || d'))
four_same a b c d a' b' c' d' a_is b_is c_is d_is =
    ap (λ (x : Bool). (x || b) || (c || d)) a_is ∙ ap (λ (x : Bool). (a' || x) || (c || d)) b_is ∙ ap (λ (x : Bool). (a' || b') || (x || d)) c_is
    ∙ ap (λ (x : Bool). (a' || b') || (c' || x)) d_is

-- a receive hangs in one of a message's four lanes exactly where it accepts the message
pub shares_lane : (keys : List Selector) (wish : Receive) (s : Selector) (m : Message) → selector_by wish.comm wish.source wish.tag ≡ Some s
    → lane_in keys s < length keys → is_any_lane (doors_of keys m) (Some (lane_in keys s)) ≡ is_match wish m
shares_lane keys wish s m is known =
    four_same _ _ _ _ _ _ _ _ (told_by keys s (exact m.comm m.source m.tag) known) (told_by keys s (any_source m.comm m.tag) known)
    (told_by keys s (any_tag m.comm m.source) known) (told_by keys s (anything m.comm) known)
    ∙ any_of wish s m is

-- a message hangs in the lane of a receive exactly where the receive accepts the message
abbrev pub has_lane : ℕ → Doors → Bool
has_lane l doors = (is_lane l (Some doors.exact) || is_lane l (Some doors.any_source)) || (is_lane l (Some doors.any_tag) || is_lane l (Some doors.anything))

pub in_lane : (keys : List Selector) (wish : Receive) (s : Selector) (m : Message) → selector_by wish.comm wish.source wish.tag ≡ Some s
    → lane_in keys s < length keys → has_lane (lane_in keys s) (doors_of keys m) ≡ is_match wish m
in_lane keys wish s m is known =
    four_same _ _ _ _ _ _ _ _ (lane_tells keys s (exact m.comm m.source m.tag) known) (lane_tells keys s (any_source m.comm m.tag) known)
    (lane_tells keys s (any_tag m.comm m.source) known) (lane_tells keys s (anything m.comm) known)
    ∙ any_of wish s m is

null_match : (comm : ℕ) (source : Peer) (sent : TagSel) (m : Message) → selector_by comm source sent ≡ None
    → ((comm == m.comm) && (names_source source m.source && names_tag sent m.tag)) ≡ false
null_match comm (peer.Rank r) sent m is = absurd (cc)
null_match comm peer.Any sent m is = absurd (cc)
null_match comm peer.Null sent m is = and_right (comm == m.comm) false refl

-- what hangs as a receive shares a lane with a message exactly where it accepts the message
pub wish_agrees : (keys : List Selector) (m : Message) (hung : Option Receive)
    → ((l : ℕ) → is_lane l (wish_lane keys hung) ≡ true → l < length keys)
    → is_any_lane (doors_of keys m) (wish_lane keys hung) ≡ passes (λ wish. is_match wish m) hung
wish_agrees keys m None known = refl
wish_agrees keys m (Some wish) known = by (selector_of wish) refl
  where
    by : (o : Option Selector) → selector_of wish ≡ o → is_any_lane (doors_of keys m) (lane_of_receive keys wish) ≡ is_match wish m
    by None is =
        ap (λ (o : Option Selector). is_any_lane (doors_of keys m) (option_map (lane_in keys) o)) is
        ∙ sym (null_match wish.comm wish.source wish.tag m is)
    by (Some s) is =
        let lane : lane_of_receive keys wish ≡ Some (lane_in keys s) = ap (option_map (lane_in keys)) is in
        ap (is_any_lane (doors_of keys m)) lane
        ∙ shares_lane keys wish s m is (known (lane_in keys s) (ap (is_lane (lane_in keys s)) lane ∙ eq-eqb (lane_in keys s) (lane_in keys s) refl))

-- the doors of a message are lanes
pub doors_are_lanes : (keys : List Selector) (m : Message) (count : ℕ) (doors : Doors) → doors ≡ doors_of keys m → count ≡ length keys + 1
    → AreLanes count doors
doors_are_lanes keys m count doors is many = subst (AreLanes count) (sym is) (record {
  exact = below (exact m.comm m.source m.tag);
  any_source = below (any_source m.comm m.tag);
  any_tag = below (any_tag m.comm m.source);
  anything = below (anything m.comm);
})
  where
    below : (s : Selector) → lane_in keys s < count
    below s = omega (arith, many, prefix_len-le-length (λ x. not (is_same s x)) keys)

-- a known lane of a receive's selector is the receive's
pub its_lane : (keys : List Selector) (wish : Receive) (s : Selector) (lane : ℕ) → selector_of wish ≡ Some s → lane ≡ lane_in keys s → lane < length keys
    → IsItsLane keys wish lane
its_lane keys wish s lane is at known = record {
  is = ap (option_map (lane_in keys)) is ∙ ap (λ (n : ℕ). Some n) (sym at);
  known = known;
}
