use Rattle.std.proofs.Common.{◌≡◌, ℕ, ◌+◌, ◌-◌, ◌*◌, ◌^◌, List, get_or, slice_index, sym, ap, ap₂, ◌∙◌, subst, arith}
use Rattle.std.proofs.lemmas.List.{get_or_read}
use Rattle.task_local.specs.declared.index.Region.{Region}
use Rattle.task_local.specs.Kept.{HasBegun, region_before, place_in}
use Rattle.task_local.proofs.Searches.{place_none, place_last}
use Rattle.task_local.proofs.index.RegionIndex.place_of.Goals as goal

pub returns-then-begun-eq0 : goal.returns-then-begun-eq0
returns-then-begun-eq0 c =
    let inside = c.self.inside in
    let number = c.args.array * 2 ^ 32 + c.args.cell in
    let has = subst (λ (ordered : List Region). HasBegun ordered number c.begun_at-begun.result) c.deref.ensures.value c.begun_at-begun.ensures in
    let none : c.begun_at-begun.result ≡ 0 = omega arith in
    rw (← c.self.view_is)
    (sym (place_none inside.ordered.items inside.offsets.items c.args.array c.args.cell c.self.invariant
    (subst (λ n. HasBegun inside.ordered.items number n) none has)))

pub returns : goal.returns
returns c =
    let inside = c.self.inside in
    let number = c.args.array * 2 ^ 32 + c.args.cell in
    let has = subst (λ (ordered : List Region). HasBegun ordered number c.begun_at-begun.result) c.deref.ensures.value c.begun_at-begun.ensures in
    let last = c.begun_at-begun.result - 1 in
    let some : c.begun_at-begun.result ≡ last + 1 = omega arith in
    let d = c.index-2.result.now in
    let begun = subst (λ n. HasBegun inside.ordered.items number n) some has in
    let offset : c.index.result.now ≡ slice_index inside.offsets.items last =
    get_or_read inside.offsets.items last c.index.result.now (omega (arith, begun.within, c.self.invariant.places.len)) c.index.ensures 0 in
    let here : c.cells_of_access_before.result ≡ region_before c.args.array c.args.cell (get_or inside.ordered.items last d) =
    c.cells_of_access_before.ensures ∙ ap (region_before c.args.array c.args.cell) c.index-2.ensures in
    ap₂ (λ (before : ℕ) (more : ℕ). before + more) offset here
    ∙ place_last inside.ordered.items inside.offsets.items c.args.array c.args.cell last d c.self.invariant (omega arith) begun
    ∙ ap (λ (ordered : List Region). place_in ordered c.args.array c.args.cell) c.self.view_is
