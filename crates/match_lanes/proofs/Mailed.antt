-- Messages in their lanes: what taking and adding one make of them, and the first that a receive accepts.
use Rattle.std.proofs.Common.{◌≡◌, ℕ, zero, suc, ◌+◌, ◌-◌, ◌*◌, ◌/◌, ◌<◌, Bool, true, false, ◌||◌, List, [], ◌∷◌, ◌++◌, length, set, position, cond, Option}
use Rattle.std.proofs.Common.{Some, None, option_map, refl, sym, ap, ◌∙◌, arith, subst}
use Rattle.rt_base.specs.Matching.{Message, Receive, is_match}
use Rattle.match_lanes.specs.declared.selector.Selector.{Selector}
use Rattle.match_lanes.specs.declared.doors.Doors.{Doors}
use Rattle.match_lanes.specs.Hung.{Hung, is_lane}
use Rattle.match_lanes.specs.Selectors.{doors_of, lane_in, selector_of, IsItsLane}
use Rattle.match_lanes.specs.Waiting.{passes}
use Rattle.match_lanes.specs.Hanging.{AreMails, four_lanes, four_doors, four_gone}
use Rattle.match_lanes.proofs.Finding.{position_cons}
use Rattle.match_lanes.proofs.Selecting.{in_lane}

-- each message has four hooks
pub length_four : (keys : List Selector) (items : List (Option Message)) → length (four_lanes keys items) ≡ 4 * length items
length_four keys [] = refl
length_four keys (None ∷ items) = let rest = length_four keys items in omega arith
length_four keys (Some m ∷ items) = let rest = length_four keys items in omega arith

four_push : (keys : List Selector) (items : List (Option Message)) (m : Message)
    → four_lanes keys (items ++ Some m ∷ []) ≡ four_lanes keys items ++ four_doors (doors_of keys m)
four_push keys [] m = refl
four_push keys (None ∷ items) m = ap (λ (l : List (Option ℕ)). None ∷ None ∷ None ∷ None ∷ l) (four_push keys items m)
four_push keys (Some x ∷ items) m =
    let doors = doors_of keys x in
    ap (λ (l : List (Option ℕ)). Some doors.exact ∷ Some doors.any_source ∷ Some doors.any_tag ∷ Some doors.anything ∷ l) (four_push keys items m)

-- a write behind the first four
set_behind : (a b c d : Option ℕ) (rest : List (Option ℕ)) (i j : ℕ) → i ≡ 4 + j → set (a ∷ b ∷ c ∷ d ∷ rest) i None ≡ a ∷ b ∷ c ∷ d ∷ set rest j None
set_behind a b c d rest i j is =
    let e : i ≡ suc (suc (suc (suc j))) = omega arith in
    ap (λ (n : ℕ). set (a ∷ b ∷ c ∷ d ∷ rest) n None) e

gone_behind : (a b c d : Option ℕ) (rest : List (Option ℕ)) (i j : ℕ) → i ≡ 4 + j → four_gone (a ∷ b ∷ c ∷ d ∷ rest) i ≡ a ∷ b ∷ c ∷ d ∷ four_gone rest j
gone_behind a b c d rest i j is =
    let one = set rest j None in
    let two = set one (j + 1) None in
    let three = set two (j + 2) None in
    ap (λ (l : List (Option ℕ)). set (set (set l (i + 1) None) (i + 2) None) (i + 3) None) (set_behind a b c d rest i j is)
    ∙ ap (λ (l : List (Option ℕ)). set (set l (i + 2) None) (i + 3) None) (set_behind a b c d one (i + 1) (j + 1) (omega arith))
    ∙ ap (λ (l : List (Option ℕ)). set l (i + 3) None) (set_behind a b c d two (i + 2) (j + 2) (omega arith))
    ∙ set_behind a b c d three (i + 3) (j + 3) (omega arith)

gone_front : (a b c d : Option ℕ) (rest : List (Option ℕ)) (i : ℕ) → i ≡ 0 → four_gone (a ∷ b ∷ c ∷ d ∷ rest) i ≡ None ∷ None ∷ None ∷ None ∷ rest
gone_front a b c d rest i is = ap (four_gone (a ∷ b ∷ c ∷ d ∷ rest)) is

four_set : (keys : List Selector) (items : List (Option Message)) (place hook : ℕ) → hook ≡ 4 * place → place < length items
    → four_gone (four_lanes keys items) hook ≡ four_lanes keys (set items place None)
four_set keys [] place hook is within = absurd (omega arith)
four_set keys (None ∷ items) zero hook is within = gone_front None None None None (four_lanes keys items) hook (omega arith)
four_set keys (Some m ∷ items) zero hook is within =
    let doors = doors_of keys m in
    gone_front (Some doors.exact) (Some doors.any_source) (Some doors.any_tag) (Some doors.anything) (four_lanes keys items) hook (omega arith)
four_set keys (None ∷ items) (suc place) hook is within =
    gone_behind None None None None (four_lanes keys items) hook (4 * place) (omega arith)
    ∙ ap (λ (l : List (Option ℕ)). None ∷ None ∷ None ∷ None ∷ l) (four_set keys items place (4 * place) refl (omega arith))
four_set keys (Some m ∷ items) (suc place) hook is within =
    let doors = doors_of keys m in
    gone_behind (Some doors.exact) (Some doors.any_source) (Some doors.any_tag) (Some doors.anything) (four_lanes keys items) hook (4 * place) (omega arith)
    ∙ ap (λ (l : List (Option ℕ)). Some doors.exact ∷ Some doors.any_source ∷ Some doors.any_tag ∷ Some doors.anything ∷ l)
    (four_set keys items place (4 * place) refl (omega arith))

-- the place of a message, from that of one of its hooks
abbrev by_four : Option ℕ → Option ℕ
by_four hook = option_map (λ h. h / 4) hook

four_on : (h : ℕ) → suc (suc (suc (suc h))) / 4 ≡ suc (h / 4)
four_on h = omega arith

four_by : (a b c d : Bool) (o : Option ℕ)
    → by_four (cond a (Some 0) (option_map suc (cond b (Some 0) (option_map suc (cond c (Some 0) (option_map suc (cond d (Some 0) (option_map suc o))))))))
    ≡ cond ((a || b) || (c || d)) (Some 0) (option_map suc (by_four o))
four_by true b c d o = refl
four_by false true c d o = refl
four_by false false true d o = refl
four_by false false false true o = refl
four_by false false false false None = refl
four_by false false false false (Some h) = ap (λ (n : ℕ). Some n) (four_on h)

four_cons : (p : Option ℕ → Bool) (a b c d : Option ℕ) (rest : List (Option ℕ))
    → by_four (position p (a ∷ b ∷ c ∷ d ∷ rest)) ≡ cond ((p a || p b) || (p c || p d)) (Some 0) (option_map suc (by_four (position p rest)))
four_cons p a b c d rest =
    ap by_four (position_cons p a (b ∷ c ∷ d ∷ rest)
    ∙ ap (λ (o : Option ℕ). cond (p a) (Some 0) (option_map suc o)) (position_cons p b (c ∷ d ∷ rest)
    ∙ ap (λ (o : Option ℕ). cond (p b) (Some 0) (option_map suc o)) (position_cons p c (d ∷ rest)
    ∙ ap (λ (o : Option ℕ). cond (p c) (Some 0) (option_map suc o)) (position_cons p d rest))))
    ∙ four_by (p a) (p b) (p c) (p d) (position p rest)

-- the first hook of a receive's lane is one of the oldest message that it accepts
found_by : (keys : List Selector) (items : List (Option Message)) (wish : Receive) (s : Selector) → selector_of wish ≡ Some s → lane_in keys s < length keys
    → by_four (position (is_lane (lane_in keys s)) (four_lanes keys items)) ≡ position (passes (λ m. is_match wish m)) items
found_by keys [] wish s is known = refl
found_by keys (None ∷ items) wish s is known =
    four_cons (is_lane (lane_in keys s)) None None None None (four_lanes keys items)
    ∙ ap (option_map suc) (found_by keys items wish s is known)
    ∙ sym (position_cons (passes (λ m. is_match wish m)) None items)
found_by keys (Some m ∷ items) wish s is known =
    let doors = doors_of keys m in
    four_cons (is_lane (lane_in keys s)) (Some doors.exact) (Some doors.any_source) (Some doors.any_tag) (Some doors.anything) (four_lanes keys items)
    ∙ ap (λ (b : Bool). cond b (Some 0) (option_map suc (by_four (position (is_lane (lane_in keys s)) (four_lanes keys items)))))
    (in_lane keys wish s m is known)
    ∙ ap (λ (o : Option ℕ). cond (is_match wish m) (Some 0) (option_map suc o)) (found_by keys items wish s is known)
    ∙ sym (position_cons (passes (λ m. is_match wish m)) (Some m) items)

pub mails_found : (keys : List Selector) (items : List (Option Message)) (lanes : Hung) (room : ℕ) (wish : Receive) (lane : ℕ) (hook : Option ℕ)
    → AreMails keys items lanes room → IsItsLane keys wish lane → hook ≡ position (is_lane lane) lanes.lanes
    → by_four hook ≡ position (passes (λ m. is_match wish m)) items
mails_found keys items lanes room wish lane hook are its first = by (selector_of wish) refl
  where
    same : (a b : ℕ) → ◌≡◌ {A = Option ℕ} (Some a) (Some b) → a ≡ b
    same a b e = cc

    none : (b : ℕ) → ◌≡◌ {A = Option ℕ} None (Some b) → ⊥
    none b e = absurd (cc)

    by : (o : Option Selector) → selector_of wish ≡ o → by_four hook ≡ position (passes (λ m. is_match wish m)) items
    by None is = absurd (none lane (sym (ap (option_map (lane_in keys)) is) ∙ its.is))
    by (Some s) is =
        let at : lane_in keys s ≡ lane = same (lane_in keys s) lane (sym (ap (option_map (lane_in keys)) is) ∙ its.is) in
        ap by_four (first ∙ ap (λ (l : ℕ). position (is_lane l) lanes.lanes) (sym at)
        ∙ ap (λ (hung : List (Option ℕ)). position (is_lane (lane_in keys s)) hung) are.hang)
        ∙ found_by keys items wish s is (subst (λ (l : ℕ). l < length keys) (sym at) its.known)

-- a message is taken
pub mail_taken : (keys : List Selector) (items : List (Option Message)) (old new : Hung) (room place : ℕ) → AreMails keys items old room
    → place < length items → new.lanes ≡ four_gone old.lanes (4 * place) → new.count ≡ old.count → new.room ≡ old.room
    → AreMails keys (set items place None) new room
mail_taken keys items old new room place are within lanes count left = record {
  hang = lanes ∙ ap (λ (hung : List (Option ℕ)). four_gone hung (4 * place)) are.hang ∙ four_set keys items place (4 * place) refl within;
  count = count ∙ are.count;
  fits = omega (arith, left, are.fits);
}

-- a message is added
pub mail_added : (keys : List Selector) (items : List (Option Message)) (old new : Hung) (room : ℕ) (m : Message) (doors : Doors)
    → AreMails keys items old room → 0 < room → doors ≡ doors_of keys m
    → new.lanes ≡ old.lanes ++ four_doors doors → new.count ≡ old.count → new.room + 4 ≡ old.room
    → AreMails keys (items ++ Some m ∷ []) new (room - 1)
mail_added keys items old new room m doors are more is lanes count left = record {
  hang = lanes ∙ ap (λ (hung : List (Option ℕ)). hung ++ four_doors doors) are.hang ∙ ap (λ (d : Doors). four_lanes keys items ++ four_doors d) is
      ∙ sym (four_push keys items m);
  count = count ∙ are.count;
  fits = omega (arith, left, are.fits);
}
