use Rattle.std.proofs.Common.{◌≡◌, ◌<◌, sum, ℕ, ◌+◌, ◌*◌, ◌^◌, List, length, take, ap, sym, ◌∙◌, slice_index_or, arith}
use Rattle.rt_base.specs.declared.data.Program.{Program}
use Rattle.rt_base.specs.Layout.{starts_from, array_place}
use Rattle.rt_base.proofs.Layouts.{length_starts, starts_at, place_fits}
use Rattle.rt_base.proofs.data.Program.start_of.Goals as goal

-- the place lies in the table
within : (p : Program) (rank array : ℕ) → p.starts.items ≡ starts_from 0 p.lens.items → array_place p rank array < length p.lens.items
    → array_place p rank array < length p.starts.items
within p rank array table inside =
    let same = ap (λ (xs : List ℕ). length xs) table in
    let long = length_starts 0 p.lens.items in
    omega (arith, inside, same, long)

pub overflow_mul-result : goal.overflow_mul-result
overflow_mul-result c =
    let p = c.args.self.now in
    let same = ap (λ (xs : List ℕ). length xs) c.as_slice.ensures in
    let fits =
    (place_fits c.args.rank (length p.names.items) c.len.result c.args.array (length p.starts.items) c.len.ensures
    (within p c.args.rank c.args.array c.requires.table c.requires.place) (omega (arith, same, c.as_slice.type_inv.1))).1 in
    omega (arith, fits)

pub overflow_add-result : goal.overflow_add-result
overflow_add-result c =
    let p = c.args.self.now in
    let same = ap (λ (xs : List ℕ). length xs) c.as_slice.ensures in
    let fits =
    (place_fits c.args.rank (length p.names.items) c.len.result c.args.array (length p.starts.items) c.len.ensures
    (within p c.args.rank c.args.array c.requires.table c.requires.place) (omega (arith, same, c.as_slice.type_inv.1))).2 in
    omega (arith, fits)

pub offset_bounds-as_slice-rank : goal.offset_bounds-as_slice-rank
offset_bounds-as_slice-rank c =
    let p = c.args.self.now in
    let same = ap (λ (xs : List ℕ). length xs) c.as_slice.ensures in
    let fits =
    (place_fits c.args.rank (length p.names.items) c.len.result c.args.array (length p.starts.items) c.len.ensures
    (within p c.args.rank c.args.array c.requires.table c.requires.place) (omega (arith, same, c.as_slice.type_inv.1))).3 in
    omega (arith, fits)

pub bounds-as_slice-rank : goal.bounds-as_slice-rank
bounds-as_slice-rank c =
    let p = c.args.self.now in
    let same = ap (λ (xs : List ℕ). length xs) c.as_slice.ensures in
    let inside =
    (place_fits c.args.rank (length p.names.items) c.len.result c.args.array (length p.starts.items) c.len.ensures
    (within p c.args.rank c.args.array c.requires.table c.requires.place) (omega (arith, same, c.as_slice.type_inv.1))).0 in
    omega (arith, same, inside)

pub returns : goal.returns
returns c =
    let p = c.args.self.now in
    let place = c.args.rank * length p.names.items + c.args.array in
    let found : slice_index_or c.as_slice.result.now (c.args.rank * c.len.result + c.args.array) 0 ≡ slice_index_or (starts_from 0 p.lens.items) place 0 =
    ap (λ n. slice_index_or c.as_slice.result.now (c.args.rank * n + c.args.array) 0) c.len.ensures
    ∙ ap (λ xs. slice_index_or xs place 0) (c.as_slice.ensures ∙ c.requires.table) in
    let begins = starts_at 0 p.lens.items place c.requires.place in
    omega (arith, found, begins)
