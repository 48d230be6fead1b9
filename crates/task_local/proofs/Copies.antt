-- Cells that are written into a list.
use Rattle.std.proofs.Common.{◌≡◌, ℕ, ◌+◌, ◌-◌, ◌<◌, ◌≤◌, ℤ, List, [], ◌∷◌, ◌++◌, length, get_or, take, drop, sym, ap, ◌∙◌, refl, arith, drop-drop}
use Rattle.std.proofs.Common.{take-append-drop, length-append, length-drop, length-take, append_assoc}
use Rattle.std.proofs.lemmas.List.{at_drop_more}
use Rattle.std.proofs.lemmas.List.Sums.{sum_by-drop_more}
use Rattle.std.proofs.lemmas.Slice.{take-put_mid}
use borrow.Rule.Slice.PartMut.{put_mid}
use Rattle.rt_base.specs.declared.data.Span.{Span}
use Rattle.rt_base.specs.declared.data.TaskDef.{TaskDef}
use Rattle.rt_base.specs.declared.data.Program.{Program}
use Rattle.rt_base.specs.Spans.{span_len}
use Rattle.rt_base.specs.Layout.{address}
use Rattle.task_local.specs.declared.index.Region.{Region}
use Rattle.task_local.specs.Regions.{place, put, spliced, loaded_regions}
use Rattle.task_local.specs.Kept.{region_len, cell_total}

-- a part of a slice that is written over
pub put_mid_is_spliced : (at count : ℕ) (whole cells : List ℤ) → length cells ≡ count → put_mid at count whole cells ≡ spliced at cells whole
put_mid_is_spliced at count whole cells len =
    let rest : drop count (drop at whole) ≡ drop (at + count) whole = drop-drop count at whole in
    ap (λ (r : List ℤ). take at whole ++ (cells ++ r)) (rest ∙ ap (λ n. drop (at + n) whole) (sym len))

pub length-spliced : (at : ℕ) (cells whole : List ℤ) → at + length cells ≤ length whole → length (spliced at cells whole) ≡ length whole
length-spliced at cells whole fits =
    omega (
      arith,
      length-append (take at whole) (cells ++ drop (at + length cells) whole),
      length-append cells (drop (at + length cells) whole),
      length-drop (at + length cells) whole,
      length-take at whole,
    )

-- no cell changes nothing
pub spliced_none : (at : ℕ) (whole : List ℤ) → spliced at [] whole ≡ whole
spliced_none at whole = let e : at + 0 ≡ at = omega arith in rw e (take-append-drop at whole)

pub put_is_spliced : (task : TaskDef) (span : Span) (cells copy : List ℤ) → spliced (place task span.array span.from) cells copy ≡ put task span cells copy
put_is_spliced task span [] copy = spliced_none (place task span.array span.from) copy
put_is_spliced task span (cell ∷ cells) copy = refl

-- the next region is loaded
pub load_more : (program : Program) (rank : ℕ) (ordered : List Region) (memory copy cells all : List ℤ) (at i count k : ℕ) (d : Region)
    → i < length ordered → at ≤ length copy → length cells ≡ count → count ≡ span_len (get_or ordered i d).access.span
    → cells ≡ take count (drop (address program rank (get_or ordered i d).access.span.array (get_or ordered i d).access.span.from) memory)
    → take at copy ++ loaded_regions program rank (drop i ordered) memory ≡ all
    → take (at + count) (put_mid at k copy cells) ++ loaded_regions program rank (drop (i + 1) ordered) memory ≡ all
load_more program rank ordered memory copy cells all at i count k d within inside len counts is_cells so_far =
    let access = (get_or ordered i d).access in
    let rest : List ℤ = loaded_regions program rank (drop (i + 1) ordered) memory in
    let front : take (at + count) (put_mid at k copy cells) ≡ take at copy ++ cells = take-put_mid at k copy cells (at + count) (omega arith) inside in
    let next : loaded_regions program rank (drop i ordered) memory ≡ take (span_len access.span)
    (drop (address program rank access.span.array access.span.from) memory) ++ rest =
    at_drop_more (λ (left : List Region). loaded_regions program rank left memory) ordered i d within in
    let cells_too : cells ++ rest ≡ loaded_regions program rank (drop i ordered) memory =
    ap (λ (c : List ℤ). c ++ rest) (is_cells ∙ ap (λ n. take n (drop (address program rank access.span.array access.span.from) memory)) counts) ∙ sym next in
    ap (λ (c : List ℤ). c ++ rest) front ∙ append_assoc (take at copy) cells rest ∙ ap (λ (c : List ℤ). take at copy ++ c) cells_too ∙ so_far

-- a part that is written over leaves the length as it is
pub length-put_mid : (at count : ℕ) (whole cells : List ℤ) → length cells ≡ count → at + count ≤ length whole
    → length (put_mid at count whole cells) ≡ length whole
length-put_mid at count whole cells len fits = ap length (put_mid_is_spliced at count whole cells len) ∙ length-spliced at cells whole (omega arith)

-- a part of a slice, by its first place and its length
pub part_is : (from count at : ℕ) (whole cells : List ℤ) → cells ≡ take (from + count - from) (drop from whole) → from ≡ at → cells ≡ take count (drop at whole)
part_is from count at whole cells is_cells same =
    let e : from + count - from ≡ count = omega arith in
    is_cells ∙ ap (λ n. take n (drop from whole)) e ∙ ap (λ n. take count (drop n whole)) same

-- what is left of the copy after one more region
pub left_after : (ordered : List Region) (at i count len : ℕ) (d : Region) → i < length ordered → count ≡ span_len (get_or ordered i d).access.span
    → at + cell_total (drop i ordered) ≡ len → (at + count) + cell_total (drop (i + 1) ordered) ≡ len
left_after ordered at i count len d within counts left =
    omega (arith, sum_by-drop_more region_len ordered i d within)
