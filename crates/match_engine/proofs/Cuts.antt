-- One list of ways that is cut where those of each task begin.
use Rattle.std.proofs.Common.{◌≡◌, ℕ, zero, suc, ◌+◌, ◌-◌, ◌≤◌, ◌<◌, List, [], ◌∷◌, ◌++◌, length, map, take, drop, get_or, slice_get, sum_by, Some, All}
use Rattle.std.proofs.Common.{IsSome, option_and_then, subst, refl, ap, ◌∙◌, sym, arith}
use Rattle.std.specs.Prelude.{slice_range}
use Rattle.std.proofs.lemmas.Bool.{false≢true}
use Rattle.std.proofs.lemmas.List.{length-append, length-take, length-drop, drop-append-le, take-append-le, take_all, take_more, map-append, get_or-take}
use Rattle.std.proofs.lemmas.List.{get_or-drop}
use Rattle.std.proofs.lemmas.List.Elements.{All-append, All-cons, All-nil}
use Rattle.std.proofs.lemmas.List.Sums.{sum_by-take-le, sum_by_push}
use Rattle.std.proofs.lemmas.Option.{slice_get-get_or}
use Rattle.std.proofs.Math.Seq.{drop-append_seam}
use Rattle.match_engine.specs.declared.routes.Way.{Way}
use Rattle.match_engine.specs.Routes.{cut, end_of}

-- the ways of each task begin within the list
abbrev pub AreWithin : List Way → List ℕ → Type 0
AreWithin ways firsts = All (λ first. first ≤ length ways) firsts

-- a part of a list stays as it is where the list grows
part_more : (ways row : List Way) (from to : ℕ) → from ≤ length ways → to ≤ length ways → slice_range (ways ++ row) from to ≡ slice_range ways from to
part_more ways row from to begins ends =
    ap (take (to - from)) (drop-append-le from ways row begins)
    ∙ take-append-le (to - from) (drop from ways) row (omega (arith, begins, ends, length-drop from ways))

-- what a list grew by
last_part : (ways row : List Way) → slice_range (ways ++ row) (length ways) (length (ways ++ row)) ≡ row
last_part ways row =
    ap (take (length (ways ++ row) - length ways)) (drop-append_seam ways row)
    ∙ take_all (length (ways ++ row) - length ways) row (omega (arith, length-append ways row))

end_more : (ways row : List Way) (firsts : List ℕ) → end_of (ways ++ row) (firsts ++ length ways ∷ []) ≡ end_of ways firsts
end_more ways row [] = refl
end_more ways row (first ∷ firsts) = refl

end_within : (ways : List Way) (firsts : List ℕ) → AreWithin ways firsts → end_of ways firsts ≤ length ways
end_within ways [] within = omega arith
end_within ways (first ∷ firsts) within = within 0 first (omega arith)

-- the ways of one more task, at the end of the list
pub cut_more : (ways row : List Way) (firsts : List ℕ) → AreWithin ways firsts
    → cut (ways ++ row) (firsts ++ length ways ∷ []) ≡ cut ways firsts ++ row ∷ []
cut_more ways row [] within = ap (λ part. part ∷ []) (last_part ways row)
cut_more ways row (first ∷ firsts) within =
    let rest : AreWithin ways firsts = λ i d below. within (suc i) d (omega (arith, below)) in
    let others = cut (ways ++ row) (firsts ++ length ways ∷ []) in
    ap (λ to. slice_range (ways ++ row) first to ∷ others) (end_more ways row firsts)
    ∙ ap (λ part. part ∷ others) (part_more ways row first (end_of ways firsts) (within 0 first (omega arith)) (end_within ways firsts rest))
    ∙ ap (λ parts. slice_range ways first (end_of ways firsts) ∷ parts) (cut_more ways row firsts rest)

pub within_more : (ways row : List Way) (firsts : List ℕ) → AreWithin ways firsts → AreWithin (ways ++ row) (firsts ++ length ways ∷ [])
within_more ways row firsts within =
    All-append (λ first. first ≤ length (ways ++ row)) firsts (length ways ∷ [])
    (λ i d below. omega (arith, within i d below, length-append ways row))
    (All-cons (λ first. first ≤ length (ways ++ row)) (length ways) [] (omega (arith, length-append ways row))
    (All-nil (λ first. first ≤ length (ways ++ row))))

-- the place of a request's way in the list
pub record HasPlace (ways : List Way) (firsts : List ℕ) (task nth : ℕ) : Type 0 where
  pub begins : task < length firsts
  pub inside : (e : ℕ) → get_or firsts task e + nth < length ways
  pub way : (e : ℕ) (d : Way) → option_and_then (λ (row : List Way). slice_get row nth) (slice_get (cut ways firsts) task)
      ≡ Some (get_or ways (get_or firsts task e + nth) d)

below_length : {X : Type 0} (xs : List X) (i : ℕ) → IsSome (slice_get xs i) → i < length xs
below_length [] i some = absurd (false≢true some)
below_length (x ∷ xs) zero some = omega arith
below_length (x ∷ xs) (suc i) some = omega (arith, below_length xs i some)

-- a request that has a way has a place
pub has_place : (ways : List Way) (firsts : List ℕ) (task nth : ℕ)
    → IsSome (option_and_then (λ (row : List Way). slice_get row nth) (slice_get (cut ways firsts) task)) → HasPlace ways firsts task nth
has_place ways [] task nth some = absurd (false≢true some)
has_place ways (first ∷ firsts) zero nth some =
    let to = end_of ways firsts in
    let row = slice_range ways first to in
    let below : nth < length row = below_length row nth some in
    let short : nth < to - first = omega (arith, below, length-take (to - first) (drop first ways)) in
    record {
      begins = omega arith;
      inside = λ e. omega (arith, below, length-take (to - first) (drop first ways), length-drop first ways);
      way = λ e d. slice_get-get_or row nth d below ∙ ap Some (get_or-take (to - first) (drop first ways) nth d short ∙ get_or-drop first ways nth d);
    }
has_place ways (first ∷ firsts) (suc task) nth some =
    let at = has_place ways firsts task nth some in
    record { begins = omega (arith, at.begins); inside = at.inside; way = at.way }

pub place_within : (ways : List Way) (firsts : List ℕ) (task nth first : ℕ) → HasPlace ways firsts task nth → first ≡ get_or firsts task first
    → first + nth < length ways
place_within ways firsts task nth first at is = omega (arith, at.inside first, is)

-- what stands at the place of a request is its way
pub way_there : (ways : List Way) (firsts : List ℕ) (task nth first : ℕ) (found : Way) → HasPlace ways firsts task nth → first ≡ get_or firsts task first
    → found ≡ get_or ways (first + nth) found
    → option_and_then (λ (row : List Way). slice_get row nth) (slice_get (cut ways firsts) task) ≡ Some found
way_there ways firsts task nth first found at is found_is =
    at.way first found ∙ ap (λ (n : ℕ). Some (get_or ways (n + nth) found)) (sym is) ∙ ap Some (sym found_is)

-- the rows so far are cut from one list, which is as long as they are together
pub record AreCut {R : Type 0} (made : R → List Way) (size : R → ℕ) (rows : List R) (ways : List Way) (firsts : List ℕ) : Type 0 where
  pub parts : cut ways firsts ≡ map made rows
  pub within : AreWithin ways firsts
  pub long : length ways ≡ sum_by size rows

pub one_row_more : {R : Type 0} (made : R → List Way) (size : R → ℕ) (rows : List R) (i : ℕ) (row : R) (ways new : List Way) (firsts begun : List ℕ)
    → i < length rows → row ≡ get_or rows i row → length (made row) ≡ size row → AreCut made size (take i rows) ways firsts
    → begun ≡ firsts ++ length ways ∷ [] → new ≡ ways ++ made row → AreCut made size (take (i + 1) rows) new begun
one_row_more {R = R} made size rows i row ways new firsts begun below is sized cut_so_far begun_is new_is =
    let next : take (i + 1) rows ≡ take i rows ++ row ∷ [] = take_more rows i row below ∙ ap (λ r. take i rows ++ r ∷ []) (sym is) in
    subst (λ (done : List R). AreCut made size done new begun) (sym next)
    (subst (λ (w : List Way). AreCut made size (take i rows ++ row ∷ []) w begun) (sym new_is)
    (subst (λ (f : List ℕ). AreCut made size (take i rows ++ row ∷ []) (ways ++ made row) f) (sym begun_is)
    (record {
      parts = cut_more ways (made row) firsts cut_so_far.within ∙ ap (λ all. all ++ made row ∷ []) cut_so_far.parts
          ∙ sym (map-append made (take i rows) (row ∷ []));
      within = within_more ways (made row) firsts cut_so_far.within;
      long = omega (arith, length-append ways (made row), cut_so_far.long, sized, sum_by_push size (take i rows) row);
    })))

-- what is cut so far is no longer than all rows are together
pub length_below : {R : Type 0} (made : R → List Way) (size : R → ℕ) (rows : List R) (i : ℕ) (ways : List Way) (firsts : List ℕ) (most : ℕ)
    → AreCut made size (take i rows) ways firsts → sum_by size rows < most → length ways < most
length_below made size rows i ways firsts most cut_so_far few = omega (arith, cut_so_far.long, sum_by-take-le size rows i, few)
