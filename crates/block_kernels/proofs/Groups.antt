-- A fold by lanes: an operation that may be taken in any order gives the same by lanes as one by one.
use Rattle.std.proofs.Common.{◌≡◌, ℕ, zero, suc, ◌*◌, ◌%◌, ◌^◌, ◌+◌, ◌-◌, ◌<◌, ◌≤◌, Bool, true, false, ℤ, pos, ◌+ℤ◌, List, [], ◌∷◌, ◌++◌, length}
use Rattle.std.proofs.Common.{take, drop, fold, map, sym, refl, ap, ◌∙◌, subst, FitsSigned, int_lt, to_z, of_z, arith, rules, length-drop}
use Rattle.std.proofs.Common.{get_or-take, get_or-drop, w64}
use Rattle.std.specs.Int.{int_min, int_max}
use Rattle.std.specs.Int.Signed.{lt_z}
use Rattle.std.specs.Simd.Lanes.{zip2, sel_l, top}
use Rattle.std.proofs.lemmas.List.{take_all, take-append-drop, length-take-le, ext_get_or}
use Rattle.std.proofs.lemmas.Simd.{length-zip2}
use Rattle.std.proofs.lemmas.List.Sums.{fold-append}
use Rattle.std.proofs.lemmas.Int.{ints, int_wrap-add_left, int_wrap-add_right, int_wrap_fits, int_min_is, int_max_is, wrapping_add_is, to_z-of_z}
use Rattle.std.proofs.Math.Bool.{cond}
use Rattle.std.proofs.Math.ListN.{replicate}
use Rattle.std.proofs.Math.IntN.{+ℤ_assoc, +ℤ_comm}
use Rattle.std.proofs.Math.Seq.{take-add}
use Rattle.block_kernels.specs.Kernels.{cell, wrapped, total, least_of, greatest_of}
use Rattle.block_kernels.specs.Lanes.{wrapped_sum, Fit, AreAt}

-- the operation may be taken in any order, and the number with itself gives itself
pub record AnyOrder (op : ℤ → ℤ → ℤ) (start : ℤ) : Type 0 where
  pub assoc : (x y z : ℤ) → op (op x y) z ≡ op x (op y z)
  pub comm : (x y : ℤ) → op x y ≡ op y x
  pub idle : op start start ≡ start

-- the inner two of four are exchanged
exchanged : (op : ℤ → ℤ → ℤ) (start : ℤ) → AnyOrder op start → (a b x y : ℤ) → op (op a b) (op x y) ≡ op (op a x) (op b y)
exchanged op start order a b x y =
    order.assoc a b (op x y)
    ∙ (ap (λ n. op a n) (sym (order.assoc b x y) ∙ (ap (λ n. op n y) (order.comm b x) ∙ order.assoc x b y))
    ∙ sym (order.assoc a x (op b y)))

-- what stands before a fold is taken out of it
taken_out : (op : ℤ → ℤ → ℤ) (start : ℤ) → AnyOrder op start → (c d : ℤ) (ys : List ℤ) → fold op (op c d) ys ≡ op c (fold op d ys)
taken_out op start order c d [] = refl
taken_out op start order c d (y ∷ ys) =
    ap (λ n. fold op n ys) (order.assoc c d y) ∙ taken_out op start order c (op d y) ys

-- a fold over two lists lane by lane
fold-zip : (op : ℤ → ℤ → ℤ) (start : ℤ) → AnyOrder op start → (a b : ℤ) (xs ys : List ℤ) → length xs ≡ length ys
    → fold op (op a b) (zip2 op xs ys) ≡ op (fold op a xs) (fold op b ys)
fold-zip op start order a b [] [] same = refl
fold-zip op start order a b [] (y ∷ ys) same = absurd (omega arith)
fold-zip op start order a b (x ∷ xs) [] same = absurd (omega arith)
fold-zip op start order a b (x ∷ xs) (y ∷ ys) same =
    ap (λ n. fold op n (zip2 op xs ys)) (exchanged op start order a b x y) ∙ fold-zip op start order (op a x) (op b y) xs ys (omega arith)

-- the number that a fold begins with adds nothing to it
absorbed : (op : ℤ → ℤ → ℤ) (start : ℤ) → AnyOrder op start → (xs : List ℤ) → op (fold op start xs) start ≡ fold op start xs
absorbed op start order xs =
    order.comm (fold op start xs) start ∙ (sym (taken_out op start order start start xs) ∙ ap (λ n. fold op n xs) order.idle)

-- one more group of cells
pub group_more : (op : ℤ → ℤ → ℤ) (start : ℤ) → AnyOrder op start → (lanes front more : List ℤ) → length lanes ≡ length more
    → fold op start lanes ≡ fold op start front → fold op start (zip2 op lanes more) ≡ fold op start (front ++ more)
group_more op start order lanes front more same so_far =
    ap (λ n. fold op n (zip2 op lanes more)) (sym order.idle)
    ∙ (fold-zip op start order start start lanes more same
    ∙ (ap (λ n. op n (fold op start more)) so_far
    ∙ (sym (taken_out op start order (fold op start front) start more)
    ∙ (ap (λ n. fold op n more) (absorbed op start order front) ∙ sym (fold-append op start front more)))))

-- a number as bits and back, as a call is given it
abbrev passed : ℤ → ℤ
passed number = to_z w64 (of_z w64 number)

-- the lanes, and then the cells that are left, give what all cells give
pub both_parts : (op : ℤ → ℤ → ℤ) (start after result : ℤ) (left lanes : List ℤ) (n : ℕ) → FitsSigned w64 start → FitsSigned w64 after
    → FitsSigned w64 result → n ≤ length left → fold op (passed start) lanes ≡ fold op (passed start) (take n left) → after ≡ fold op (passed start) lanes
    → result ≡ fold op (passed after) (take (length left - n) (drop n left)) → passed result ≡ fold op start left
both_parts op start after result left lanes n start_fits after_fits result_fits within is_lanes is_after is_result =
    let rest : take (length left - n) (drop n left) ≡ drop n left = take_all (length left - n) (drop n left) (omega (arith, length-drop n left)) in
    let front : after ≡ fold op start (take n left) =
    is_after ∙ (is_lanes ∙ ap (λ m. fold op m (take n left)) (to_z-of_z w64 start start_fits)) in
    to_z-of_z w64 result result_fits
    ∙ (is_result
    ∙ (ap (λ (all : List ℤ). fold op (passed after) all) rest
    ∙ (ap (λ m. fold op m (drop n left)) (to_z-of_z w64 after after_fits ∙ front)
    ∙ (sym (fold-append op start (take n left) (drop n left)) ∙ ap (λ (all : List ℤ). fold op start all) (take-append-drop n left)))))

-- the lanes after so many groups of eight cells
pub record IsGrouped (op : ℤ → ℤ → ℤ) (start : ℤ) (left lanes : List ℤ) (k : ℕ) : Type 0 where
  pub fit : Fit lanes
  pub len : length lanes ≡ 8
  pub value : fold op start lanes ≡ fold op start (take (8 * k) left)

-- the number in each lane
folded_same : (op : ℤ → ℤ → ℤ) (start : ℤ) → AnyOrder op start → (n : ℕ) → fold op start (replicate n start) ≡ start
folded_same op start order zero = refl
folded_same op start order (suc n) = ap (λ m. fold op m (replicate n start)) order.idle ∙ folded_same op start order n

-- before the first group
pub grouped_none : (op : ℤ → ℤ → ℤ) (start : ℤ) → AnyOrder op start → (left lanes : List ℤ) → FitsSigned w64 start → lanes ≡ replicate 8 start
    → IsGrouped op start left lanes 0
grouped_none op start order left lanes fits is = record {
  fit = subst Fit (sym is) (fits, (fits, (fits, (fits, (fits, (fits, (fits, (fits, tt))))))));
  len = ap length is;
  value = ap (λ (all : List ℤ). fold op start all) is ∙ folded_same op start order 8;
}

-- numbers that fit, as bits and back
pub kept_bits : (lanes : List ℤ) → Fit lanes → map (to_z w64) (map (of_z w64) lanes) ≡ lanes
kept_bits [] fit = refl
kept_bits (x ∷ xs) fit =
    ap (λ (n : ℤ). n ∷ map (to_z w64) (map (of_z w64) xs)) (to_z-of_z w64 x fit.0) ∙ ap (λ (all : List ℤ). x ∷ all) (kept_bits xs fit.1)

-- eight numbers are the cells from this one on
eight_cells : (left more : List ℤ) (at : ℕ) → at + 8 ≤ length left → AreAt left at more → more ≡ take 8 (drop at left)
eight_cells left more at within here =
    let len : length (take 8 (drop at left)) ≡ 8 = length-take-le 8 (drop at left) (omega (arith, length-drop at left)) in
    ext_get_or (pos 0) more (take 8 (drop at left)) (here.long ∙ sym len)
    (λ i inside. here.cells i (omega (arith, here.long))
    ∙ sym (get_or-take 8 (drop at left) i (pos 0) (omega (arith, here.long)) ∙ get_or-drop at left i (pos 0)))

-- one more group
pub grouped_more : (op : ℤ → ℤ → ℤ) (start : ℤ) → AnyOrder op start → (left lanes more next : List ℤ) (k : ℕ) → 8 * k + 8 ≤ length left
    → IsGrouped op start left lanes k → AreAt left (8 * k) more → Fit more
    → next ≡ zip2 op lanes (map (to_z w64) (map (of_z w64) more)) → Fit next
    → IsGrouped op start left (map (to_z w64) (map (of_z w64) next)) (k + 1)
grouped_more op start order left lanes more next k within grouped here more_fits next_is fits =
    let is_next : next ≡ zip2 op lanes more = next_is ∙ ap (λ (all : List ℤ). zip2 op lanes all) (kept_bits more more_fits) in
    let len : length more ≡ 8 = here.long in
    let is_more : more ≡ take 8 (drop (8 * k) left) = eight_cells left more (8 * k) within here in
    let same : length lanes ≡ length more = grouped.len ∙ sym len in
    let place : 8 * k + 8 ≡ 8 * (k + 1) = omega arith in
    subst (λ (all : List ℤ). IsGrouped op start left all (k + 1)) (sym (kept_bits next fits)) record {
      fit = fits;
      len = ap length is_next ∙ (length-zip2 op lanes more same ∙ grouped.len);
      value = ap (λ (all : List ℤ). fold op start all) is_next
          ∙ (group_more op start order lanes (take (8 * k) left) more same grouped.value
          ∙ ap (λ (all : List ℤ). fold op start all)
          (ap (λ (all : List ℤ). take (8 * k) left ++ all) is_more ∙ (sym (take-add (8 * k) 8 left) ∙ ap (λ n. take n left) place)));
    }

-- after the last group
pub grouped_all : (op : ℤ → ℤ → ℤ) (start : ℤ) (left lanes : List ℤ) (k n : ℕ) → IsGrouped op start left lanes k → 8 * k ≡ n
    → fold op start lanes ≡ fold op start (take n left)
grouped_all op start left lanes k n grouped end = grouped.value ∙ ap (λ m. fold op start (take m left)) end

-- ---- an operation on the bits of two vectors, lane by lane

-- a sum that wraps
pub summed_lanes : (add : ℕ → ℕ → ℕ) → ((m n : ℕ) → add m n ≡ (m + n) % 2 ^ 64) → (one other : List ℤ) → Fit one → Fit other
    → map (to_z w64) (zip2 add (map (of_z w64) one) (map (of_z w64) other)) ≡ zip2 wrapped_sum one other
summed_lanes add is [] other fit fits = refl
summed_lanes add is (x ∷ xs) [] fit fits = refl
summed_lanes add is (x ∷ xs) (y ∷ ys) fit fits =
    let head : to_z w64 (add (of_z w64 x) (of_z w64 y)) ≡ wrapped_sum x y =
    ap (to_z w64) (is (of_z w64 x) (of_z w64 y)) ∙ wrapping_add_is w64 x y fit.0 fits.0 in
    ap (λ (n : ℤ). n ∷ map (to_z w64) (zip2 add (map (of_z w64) xs) (map (of_z w64) ys))) head
    ∙ ap (λ (all : List ℤ). wrapped_sum x y ∷ all) (summed_lanes add is xs ys fit.1 fits.1)

-- a choice by a comparison: the first where it says so
pub chosen_lanes : (less : ℕ → ℕ → ℕ) (op : ℤ → ℤ → ℤ)
    → ((x y : ℤ) → FitsSigned w64 x → FitsSigned w64 y → to_z w64 (cond (top 63 (less (of_z w64 x) (of_z w64 y))) (of_z w64 x) (of_z w64 y)) ≡ op x y)
    → (one other : List ℤ) → Fit one → Fit other
    → map (to_z w64) (sel_l (map (top 63) (zip2 less (map (of_z w64) one) (map (of_z w64) other))) (map (of_z w64) one) (map (of_z w64) other))
    ≡ zip2 op one other
chosen_lanes less op is [] other fit fits = refl
chosen_lanes less op is (x ∷ xs) [] fit fits = refl
chosen_lanes less op is (x ∷ xs) (y ∷ ys) fit fits =
    ap (λ (n : ℤ). n ∷ map (to_z w64) (sel_l (map (top 63) (zip2 less (map (of_z w64) xs) (map (of_z w64) ys))) (map (of_z w64) xs) (map (of_z w64) ys)))
    (is x y fit.0 fits.0)
    ∙ ap (λ (all : List ℤ). op x y ∷ all) (chosen_lanes less op is xs ys fit.1 fits.1)

-- the same with the second where it says so
pub chosen_second : (less : ℕ → ℕ → ℕ) (op : ℤ → ℤ → ℤ)
    → ((x y : ℤ) → FitsSigned w64 x → FitsSigned w64 y → to_z w64 (cond (top 63 (less (of_z w64 x) (of_z w64 y))) (of_z w64 y) (of_z w64 x)) ≡ op x y)
    → (one other : List ℤ) → Fit one → Fit other
    → map (to_z w64) (sel_l (map (top 63) (zip2 less (map (of_z w64) one) (map (of_z w64) other))) (map (of_z w64) other) (map (of_z w64) one))
    ≡ zip2 op one other
chosen_second less op is [] [] fit fits = refl
chosen_second less op is [] (y ∷ ys) fit fits = refl
chosen_second less op is (x ∷ xs) [] fit fits = refl
chosen_second less op is (x ∷ xs) (y ∷ ys) fit fits =
    ap (λ (n : ℤ). n ∷ map (to_z w64) (sel_l (map (top 63) (zip2 less (map (of_z w64) xs) (map (of_z w64) ys))) (map (of_z w64) ys) (map (of_z w64) xs)))
    (is x y fit.0 fits.0)
    ∙ ap (λ (all : List ℤ). op x y ∷ all) (chosen_second less op is xs ys fit.1 fits.1)

-- the bit of a lane says what the comparison says
top_is : (says : Bool) → top 63 (cond says (2 ^ 64 - 1) 0) ≡ says
top_is true = refl
top_is false = refl

-- a choice between two numbers, as one between their bits
both : (says : Bool) (m n : ℕ) → to_z w64 (cond says m n) ≡ cond says (to_z w64 m) (to_z w64 n)
both true m n = refl
both false m n = refl

either : (says : Bool) (x y : ℤ) → FitsSigned w64 x → FitsSigned w64 y → FitsSigned w64 (cond says x y)
either true x y fit fits = fit
either false x y fit fits = fits

-- one of two numbers, by the comparison of their bits
pub chosen_by : (less : ℕ → ℕ → ℕ) (op : ℤ → ℤ → ℤ) (m n : ℕ) (x y a b : ℤ)
    → ((m n : ℕ) → less m n ≡ cond (lt_z (to_z w64 m) (to_z w64 n)) (2 ^ 64 - 1) 0)
    → to_z w64 (of_z w64 x) ≡ x → to_z w64 (of_z w64 y) ≡ y → to_z w64 m ≡ a → to_z w64 n ≡ b → cond (lt_z x y) a b ≡ op x y
    → to_z w64 (cond (top 63 (less (of_z w64 x) (of_z w64 y))) m n) ≡ op x y
chosen_by less op m n x y a b less_is x_is y_is m_is n_is chosen =
    let says : top 63 (less (of_z w64 x) (of_z w64 y)) ≡ lt_z x y =
    ap (top 63) (less_is (of_z w64 x) (of_z w64 y)) ∙ (top_is (lt_z (to_z w64 (of_z w64 x)) (to_z w64 (of_z w64 y)))
    ∙ (ap (λ c. lt_z c (to_z w64 (of_z w64 y))) x_is ∙ ap (λ c. lt_z x c) y_is)) in
    ap (λ (c : Bool). to_z w64 (cond c m n)) says ∙ (both (lt_z x y) m n ∙ (ap (λ c. cond (lt_z x y) c (to_z w64 n)) m_is
    ∙ (ap (λ c. cond (lt_z x y) a c) n_is ∙ chosen)))

-- the lesser of two numbers, and the greater
lesser : (x y : ℤ) → cond (lt_z x y) x y ≡ int_min x y
lesser x y = grind (arith, ints, int_min_is)

greater : (x y : ℤ) → cond (lt_z x y) y x ≡ int_max x y
greater x y = grind (arith, ints, int_max_is)

-- the lesser number of each lane
pub least_of_lanes : (less : ℕ → ℕ → ℕ) → ((m n : ℕ) → less m n ≡ cond (lt_z (to_z w64 m) (to_z w64 n)) (2 ^ 64 - 1) 0) → (one other : List ℤ)
    → Fit one → Fit other
    → map (to_z w64) (sel_l (map (top 63) (zip2 less (map (of_z w64) one) (map (of_z w64) other))) (map (of_z w64) one) (map (of_z w64) other))
    ≡ zip2 int_min one other
least_of_lanes less less_is =
    chosen_lanes less int_min (λ x y fit fits. chosen_by less int_min _ _ x y x y less_is (to_z-of_z w64 x fit) (to_z-of_z w64 y fits)
    (to_z-of_z w64 x fit) (to_z-of_z w64 y fits) (lesser x y))

-- the greater number of each lane
pub greatest_of_lanes : (less : ℕ → ℕ → ℕ) → ((m n : ℕ) → less m n ≡ cond (lt_z (to_z w64 m) (to_z w64 n)) (2 ^ 64 - 1) 0) → (one other : List ℤ)
    → Fit one → Fit other
    → map (to_z w64) (sel_l (map (top 63) (zip2 less (map (of_z w64) one) (map (of_z w64) other))) (map (of_z w64) other) (map (of_z w64) one))
    ≡ zip2 int_max one other
greatest_of_lanes less less_is =
    chosen_second less int_max (λ x y fit fits. chosen_by less int_max _ _ x y y x less_is (to_z-of_z w64 x fit) (to_z-of_z w64 y fits)
    (to_z-of_z w64 y fits) (to_z-of_z w64 x fit) (greater x y))

-- either number fits
pub least-fits : (x y : ℤ) → FitsSigned w64 x → FitsSigned w64 y → FitsSigned w64 (int_min x y)
least-fits x y fit fits = either (int_lt y x) y x fits fit

pub greatest-fits : (x y : ℤ) → FitsSigned w64 x → FitsSigned w64 y → FitsSigned w64 (int_max x y)
greatest-fits x y fit fits = either (int_lt y x) x y fit fits

-- lanes that an operation gives fit where each of its numbers does
pub fit-zip : (op : ℤ → ℤ → ℤ) → ((x y : ℤ) → FitsSigned w64 x → FitsSigned w64 y → FitsSigned w64 (op x y)) → (one other : List ℤ)
    → Fit one → Fit other → Fit (zip2 op one other)
fit-zip op fits_op [] other fit fits = tt
fit-zip op fits_op (x ∷ xs) [] fit fits = tt
fit-zip op fits_op (x ∷ xs) (y ∷ ys) fit fits = (fits_op x y fit.0 fits.0, fit-zip op fits_op xs ys fit.1 fits.1)

-- ---- the three operations

pub sums_in_any_order : AnyOrder wrapped_sum (pos 0)
sums_in_any_order = record {
  assoc = λ x y z. int_wrap-add_left w64 (x +ℤ y) z ∙ (ap wrapped (+ℤ_assoc x y z) ∙ sym (int_wrap-add_right w64 x (y +ℤ z)));
  comm = λ x y. ap wrapped (+ℤ_comm x y);
  idle = int_wrap_fits w64 (pos 0) (search rules);
}

pub least_in_any_order : (start : ℤ) → AnyOrder int_min start
least_in_any_order start = record {
  assoc = λ x y z. omega (arith, ints, int_min_is x y, int_min_is y z, int_min_is (int_min x y) z, int_min_is x (int_min y z));
  comm = λ x y. omega (arith, ints, int_min_is x y, int_min_is y x);
  idle = omega (arith, ints, int_min_is start start);
}

pub greatest_in_any_order : (start : ℤ) → AnyOrder int_max start
greatest_in_any_order start = record {
  assoc = λ x y z. omega (arith, ints, int_max_is x y, int_max_is y z, int_max_is (int_max x y) z, int_max_is x (int_max y z));
  comm = λ x y. omega (arith, ints, int_max_is x y, int_max_is y x);
  idle = omega (arith, ints, int_max_is start start);
}

-- ---- what they make of all cells

wrapped_after : (a : ℤ) (xs : List ℤ) → fold wrapped_sum (wrapped a) xs ≡ wrapped (fold ◌+ℤ◌ a xs)
wrapped_after a [] = refl
wrapped_after a (x ∷ xs) = ap (λ n. fold wrapped_sum n xs) (int_wrap-add_left w64 a x) ∙ wrapped_after (a +ℤ x) xs

pub total_is : (left : List ℤ) → fold wrapped_sum (pos 0) left ≡ total left
total_is left =
    ap (λ n. fold wrapped_sum n left) (sym (int_wrap_fits w64 (pos 0) (search rules))) ∙ wrapped_after (pos 0) left

pub least_is : (left : List ℤ) → 0 < length left → fold int_min (cell left 0) left ≡ least_of left
least_is [] some = absurd (omega arith)
least_is (x ∷ xs) some = ap (λ n. fold int_min n xs) (least_in_any_order x).idle

pub greatest_is : (left : List ℤ) → 0 < length left → fold int_max (cell left 0) left ≡ greatest_of left
greatest_is [] some = absurd (omega arith)
greatest_is (x ∷ xs) some = ap (λ n. fold int_max n xs) (greatest_in_any_order x).idle
