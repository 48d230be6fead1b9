-- Parts of the copy that lie before or behind the destination of a kernel.
use Rattle.std.proofs.Common.{◌≡◌, ℕ, ◌+◌, ◌-◌, ◌<◌, ◌≤◌, ℤ, List, ◌++◌, length, get_or, take, drop, subst, Option, Some, None, inl, inr, sym, ap}
use Rattle.std.proofs.Common.{◌∙◌, refl, arith, drop-drop, length-drop, length-take, get_or-take, All, ⊎_elim}
use Rattle.std.proofs.lemmas.List.{drop-append-le, take-append-le, length-take-le}
use Rattle.std.proofs.lemmas.List.Elements.{All-more}
use Rattle.std.proofs.Math.Seq.{drop-append-add, drop-append_seam, take-append_seam}
use Rattle.rt_base.specs.declared.data.Kernel.{Kernel}
use Rattle.rt_base.specs.declared.data.Op.{Op}
use Rattle.rt_base.specs.declared.data.Op.TheVariants as op
use Rattle.rt_base.specs.declared.data.Span.{Span}
use Rattle.rt_base.specs.Spans.{span_len}
use Rattle.task_local.specs.declared.index.Region.{Region}
use Rattle.block_kernels.specs.Kernels.{copied_along}
use Rattle.rt_base.specs.declared.data.Kernel.TheVariants as kernel
use Rattle.task_local.specs.Regions.{spliced}
use Rattle.task_local.specs.declared.compute.Placed.{Placed}
use Rattle.task_local.specs.Local.{kernel_value}
use Rattle.task_local.specs.Kept.{TakesCells, HasScratchFor, IsScratchFor, HasRoomFor, IsScratchOf, source_place, source_len, source_in, place_in}
use Rattle.task_local.specs.Kept.{AreApart, AreSame, IsSeenBeside}
use Rattle.task_local.specs.Placed.{cells_at, placed_value}

-- a part of the front
pub seen_in_front : (front back : List ℤ) (begins at count : ℕ) (cells : List ℤ) → at + count ≤ length front → cells ≡ take count (drop at front)
    → IsSeenBeside front back begins at count cells
seen_in_front front back begins at count cells within is_cells between len =
    is_cells
    ∙ sym (ap (λ (left : List ℤ). take count left) (drop-append-le at front (between ++ back) (omega arith))
    ∙ take-append-le count (drop at front) (between ++ back) (omega (arith, length-drop at front)))

-- a part of the back
pub seen_in_back : (front back : List ℤ) (begins at count : ℕ) (cells : List ℤ) → begins ≤ at → cells ≡ take count (drop (at - begins) back)
    → IsSeenBeside front back begins at count cells
seen_in_back front back begins at count cells behind is_cells between len =
    let n : ℕ = at - begins in
    let place : at ≡ length front + (length between + n) = omega arith in
    let back_is : drop at (front ++ (between ++ back)) ≡ drop n back =
    ap (λ k. drop k (front ++ (between ++ back))) place ∙ drop-append-add front (between ++ back) (length between + n) ∙ drop-append-add between back n in
    is_cells ∙ ap (λ (left : List ℤ). take count left) (sym back_is)

-- cells that are written between the front and the back
pub written_between : (at count : ℕ) (copy front back cells : List ℤ) → front ≡ take at copy → back ≡ drop count (drop at copy) → length cells ≡ count
    → front ++ (cells ++ back) ≡ spliced at cells copy
written_between at count copy front back cells is_front is_back len =
    let rest : back ≡ drop (at + length cells) copy = is_back ∙ drop-drop count at copy ∙ ap (λ n. drop (at + n) copy) (sym len) in
    ap (λ (f : List ℤ). f ++ (cells ++ back)) is_front ∙ ap (λ (r : List ℤ). take at copy ++ (cells ++ r)) rest

-- cells that stand between a front and a back, as the part that they are of the whole
pub between_is_part : (at count part part_count : ℕ) (copy front cells back : List ℤ) → front ++ (cells ++ back) ≡ copy → length front ≡ at
    → length cells ≡ count → AreSame at count part part_count → cells ≡ cells_at part part_count copy
between_is_part at count part part_count copy front cells back whole begins len same =
    let behind : drop at copy ≡ cells ++ back =
    ap (λ (all : List ℤ). drop at all) (sym whole) ∙ (ap (λ n. drop n (front ++ (cells ++ back))) (sym begins) ∙ drop-append_seam front (cells ++ back)) in
    let front_of : take count (cells ++ back) ≡ cells =
    ap (λ n. take n (cells ++ back)) (sym len) ∙ take-append_seam cells back in
    rw (same.0, same.1) at (sym front_of ∙ ap (λ (all : List ℤ). take count all) (sym behind))

-- the part of a source has its cells
source_in_part : (ordered : List Region) (copy : List ℤ) (source : Option Span)
    → cells_at (source_place ordered source) (source_len source) copy ≡ source_in ordered copy source
source_in_part ordered copy None = refl
source_in_part ordered copy (Some span) = refl

pub part_is_source : (ordered : List Region) (copy : List ℤ) (source : Option Span) (at count : ℕ) → at ≡ source_place ordered source
    → count ≡ source_len source
    → cells_at at count copy ≡ source_in ordered copy source
part_is_source ordered copy source at count places counts = rw (places, counts) (source_in_part ordered copy source)

-- a part of the copy has so many cells
pub length-part : (at count : ℕ) (copy : List ℤ) → at + count ≤ length copy → length (take count (drop at copy)) ≡ count
length-part at count copy within = length-take-le count (drop at copy) (omega (arith, length-drop at copy))

-- the same lengths and the same number
pub takes_same : (kind : Kernel) (count count_is left left_is right right_is : ℕ) (value value_is : ℤ) → count_is ≡ count → left_is ≡ left → right_is ≡ right
    → value_is ≡ value → TakesCells kind count left right value → TakesCells kind count_is left_is right_is value_is
takes_same kind count count_is left left_is right right_is value value_is counts lefts rights values takes = rw (counts, lefts, rights, values) takes

-- the copy after a kernel has written its cells, from the cells that it was given
pub placed_value_is : (placed : Placed) (copy from with cells : List ℤ) (count : ℕ) (value step : ℤ) → count ≡ placed.dst.count
    → from ≡ cells_at placed.left.at placed.left.count copy → with ≡ cells_at placed.right.at placed.right.count copy → value ≡ placed.value
    → step ≡ placed.step
    → cells ≡ kernel_value placed.kernel count from with value step → spliced placed.dst.at cells copy ≡ placed_value placed copy
placed_value_is placed copy from with cells count value step counts is_from is_with values steps is_cells =
    ap (λ (found : List ℤ). spliced placed.dst.at found copy) cc

-- what the kernel that copies makes of its left source
copied_value : (count : ℕ) (from with : List ℤ) (value step : ℤ) → kernel_value kernel.Copy count from with value step ≡ from
unfolding kernel_value
copied_value count from with value step = refl

-- a copy of one part to another
pub along_is : (placed : Placed) (copy : List ℤ) → placed.kernel ≡ kernel.Copy → placed.left.at + placed.left.count ≤ length copy
    → TakesCells placed.kernel placed.dst.count placed.left.count placed.right.count placed.value
    → copied_along placed.left.at placed.dst.at placed.dst.count copy ≡ placed_value placed copy
along_is placed copy is fits takes =
    let from : List ℤ = cells_at placed.left.at placed.left.count copy in
    let with : List ℤ = cells_at placed.right.at placed.right.count copy in
    let same : placed.left.count ≡ placed.dst.count =
    subst (λ (k : Kernel). TakesCells k placed.dst.count placed.left.count placed.right.count placed.value) is takes in
    let len : length from ≡ placed.dst.count = length-part placed.left.at placed.left.count copy fits ∙ same in
    let moved : from ≡ kernel_value placed.kernel placed.dst.count from with placed.value placed.step =
    sym (ap (λ (k : Kernel). kernel_value k placed.dst.count from with placed.value placed.step) is
    ∙ copied_value placed.dst.count from with placed.value placed.step) in
    let counted : copied_along placed.left.at placed.dst.at placed.dst.count copy ≡ spliced placed.dst.at from copy =
    ap (λ n. take placed.dst.at copy ++ (take n (drop placed.left.at copy) ++ drop (placed.dst.at + placed.dst.count) copy)) (sym same)
    ∙ ap (λ n. take placed.dst.at copy ++ (from ++ drop (placed.dst.at + n) copy)) (sym len) in
    counted ∙ ap (λ (cells : List ℤ). spliced placed.dst.at cells copy) moved

-- ---- scratch

-- the destination lies apart from both sources
abbrev IsApartFrom : ℕ → ℕ → ℕ → ℕ → ℕ → ℕ → Type 0
IsApartFrom at count left left_count right right_count = AreApart at count left left_count × AreApart at count right right_count

-- one that does asks for no scratch
pub apart_needs_none : (ordered : List Region) (kind : Kernel) (dst : Span) (left right : Option Span) (value step : ℤ)
    (at count from from_count with with_count : ℕ)
    → at ≡ place_in ordered dst.array dst.from → count ≡ span_len dst → from ≡ source_place ordered left → from_count ≡ source_len left
    → with ≡ source_place ordered right → with_count ≡ source_len right → IsApartFrom at count from from_count with with_count
    → IsScratchFor ordered 0 (op.Compute kind dst left right value step)
apart_needs_none ordered kind dst left right value step at count from from_count with with_count ats counts froms from_counts withs with_counts apart = record {
  enough = inl (rw (ats, counts, froms, from_counts, withs, with_counts) at apart);
  no_more = λ other room. omega arith;
}

-- another one asks for as many cells as it has
pub sharing_needs_all : (ordered : List Region) (kind : Kernel) (dst : Span) (left right : Option Span) (value step : ℤ)
    (at count from from_count with with_count : ℕ)
    → at ≡ place_in ordered dst.array dst.from → count ≡ span_len dst → from ≡ source_place ordered left → from_count ≡ source_len left
    → with ≡ source_place ordered right → with_count ≡ source_len right → ¬ IsApartFrom at count from from_count with with_count
    → IsScratchFor ordered count (op.Compute kind dst left right value step)
sharing_needs_all ordered kind dst left right value step at count from from_count with with_count ats counts froms from_counts withs with_counts shares =
    let shared = rw (ats, counts, froms, from_counts, withs, with_counts) at shares in
    record {
      enough = inr (omega arith);
      no_more = λ other room. ⊎_elim (λ apart. absurd (shared apart)) (λ (fits : span_len dst ≤ other). omega arith) room;
    }

-- more cells are enough too
more_room : (ordered : List Region) (operation : Op) (scratch more : ℕ) → scratch ≤ more → HasScratchFor ordered scratch operation
    → HasScratchFor ordered more operation
more_room ordered (op.Compute kind dst left right value step) scratch more le (inl apart) = inl apart
more_room ordered (op.Compute kind dst left right value step) scratch more le (inr fits) = inr (omega arith)
more_room ordered (op.Post how span peer tag comm status) scratch more le room = tt
more_room ordered (op.Await later handles status) scratch more le room = tt

-- one more operation
room_more : (ordered : List Region) (ops : List Op) (i scratch here more : ℕ) (operation : Op) → i < length ops → operation ≡ get_or ops i operation
    → scratch ≤ more → here ≤ more → HasRoomFor ordered (take i ops) scratch → HasScratchFor ordered here operation → HasRoomFor ordered (take (i + 1) ops) more
room_more ordered ops i scratch here more operation within is_here le here_le before room =
    All-more (HasScratchFor ordered more) ops i operation within (λ k d inside. more_room ordered _ scratch more le (before k d inside))
    (subst (HasScratchFor ordered more) is_here (more_room ordered operation here more here_le room))

-- what holds of the operations up to one more holds of those before it, and of that one
fewer : (P : Op → Type 0) (ops : List Op) (i : ℕ) → i < length ops → All P (take (i + 1) ops) → All P (take i ops)
fewer P ops i within all = λ k d inside.
    let low : k < i = omega (arith, length-take i ops) in
    subst P (get_or-take (i + 1) ops k d (omega arith) ∙ sym (get_or-take i ops k d low)) (all k d (omega (arith, length-take (i + 1) ops)))

last_of : (P : Op → Type 0) (ops : List Op) (i : ℕ) (d : Op) → i < length ops → All P (take (i + 1) ops) → P (get_or ops i d)
last_of P ops i d within all = subst P (get_or-take (i + 1) ops i d (omega arith)) (all i d (omega (arith, length-take (i + 1) ops)))

-- what the operations so far ask for, and what one more does, give what all of them ask for
pub scratch_more : (ordered : List Region) (ops : List Op) (i scratch here more : ℕ) (operation : Op) → i < length ops → operation ≡ get_or ops i operation
    → scratch ≤ more → here ≤ more → ((other : ℕ) → scratch ≤ other → here ≤ other → more ≤ other)
    → IsScratchOf ordered (take i ops) scratch → IsScratchFor ordered here operation → IsScratchOf ordered (take (i + 1) ops) more
scratch_more ordered ops i scratch here more operation within is_here le here_le least before own = record {
  enough = room_more ordered ops i scratch here more operation within is_here le here_le before.enough own.enough;
  no_more = λ other room.
      least other (before.no_more other (fewer (HasScratchFor ordered other) ops i within room))
      (own.no_more other (subst (HasScratchFor ordered other) (sym is_here) (last_of (HasScratchFor ordered other) ops i operation within room)));
}
